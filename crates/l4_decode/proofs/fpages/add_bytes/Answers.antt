use Rattle.std.proofs.Common.{ℕ, List, ◌++◌, ◌^◌, ap, ◌∙◌, codes}
use Rattle.std.specs.Fmt.{decimal}
use Rattle.l4_decode.specs.Spelling.{hex_text}
use Rattle.l4_decode.specs.Fpages.{bytes_text}
use Rattle.l4_decode.proofs.Pieces.{text_more}
use Rattle.l4_decode.proofs.fpages.add_bytes.Goals as goal

pub returns-clause-value : goal.returns-clause-value
unfolding bytes_text
returns-clause-value c =
    let t : List ℕ = c.args.text.now in
    text_more t c.add_hex.new.text c.add-2.new.self (decimal (2 ^ c.args.log) ++ codes " bytes at " ++ hex_text c.args.base) (codes ", less than a page")
    (text_more t c.add.new.self c.add_hex.new.text (decimal (2 ^ c.args.log) ++ codes " bytes at ") (hex_text c.args.base)
    (text_more t c.add_count.new.text c.add.new.self (decimal (2 ^ c.args.log)) (codes " bytes at ")
    ((c.add_count.ensures.value ∙ ap (λ (n : ℕ). t ++ decimal n) c.power.ensures)) c.add.ensures.value) c.add_hex.ensures.value) c.add-2.ensures.value
