use Rattle.std.proofs.Common.{ℕ, List, ◌++◌, ap, sym, ◌∙◌, codes}
use Rattle.std.specs.Fmt.{decimal}
use Rattle.l4_decode.specs.Meanings.{whole_text}
use Rattle.l4_decode.proofs.Pieces.{text_more}
use Rattle.l4_decode.proofs.meanings.add_meaning.Goals as goal

pub returns-in-Plain-clause-value : goal.returns-in-Plain-clause-value
unfolding whole_text
returns-in-Plain-clause-value c =
    let t : List ℕ = c.args.text.now in
    text_more t c.add-in-Plain.new.self c.add_length-in-Plain.new.text (codes "message: untyped " ++ decimal c.in-Plain.untyped ++ codes ", items ") (decimal c.in-Plain.items)
    (text_more t c.add_length.new.text c.add-in-Plain.new.self (codes "message: untyped " ++ decimal c.in-Plain.untyped) (codes ", items ")
    (text_more t c.add.new.self c.add_length.new.text (codes "message: untyped ") (decimal c.in-Plain.untyped)
    (c.add.ensures.value) c.add_length.ensures.value) c.add-in-Plain.ensures.value) c.add_length-in-Plain.ensures.value
    ∙ ap (λ m. t ++ whole_text c.args.size m) (sym c.in-Plain.is)
