use Rattle.std.proofs.Common.{arith, ◌∙◌}
use Rattle.l4_text.proofs.PairTable.{word_bytes}
use Rattle.l4_text.proofs.texts.word_digits.Goals as goal

pub returns : goal.returns
returns c =
    c.to_le_bytes.ensures
    ∙ word_bytes c.args.word _ (omega (arith, c.ranges.word.fits)) (omega (arith, c.pair.ensures, c.pair-2.ensures, c.pair-3.ensures, c.pair-4.ensures))
