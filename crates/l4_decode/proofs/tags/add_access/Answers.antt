use Rattle.std.proofs.Common.{ℕ, List, ◌++◌, codes}
use Rattle.l4_answers.specs.Pages.{rights_text}
use Rattle.l4_decode.specs.Tags.{access_text}
use Rattle.l4_decode.proofs.Pieces.{text_more}
use Rattle.l4_decode.proofs.tags.add_access.Goals as goal

pub returns-clause-value : goal.returns-clause-value
unfolding access_text
returns-clause-value c =
    let t : List ℕ = c.args.text.now in
    text_more t c.add_rights.new.text c.add-2.new.self (codes " (page fault, " ++ rights_text c.args.access) (codes ")")
    (text_more t c.add.new.self c.add_rights.new.text (codes " (page fault, ") (rights_text c.args.access)
    (c.add.ensures.value) c.add_rights.ensures.value) c.add-2.ensures.value
