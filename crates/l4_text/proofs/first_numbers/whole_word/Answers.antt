use Rattle.std.proofs.Common.{arith, eqb-true, sym, ◌∙◌}
use Rattle.l4_text.proofs.OneNumber.{whole_word_first}
use Rattle.l4_text.proofs.first_numbers.whole_word.Goals as goal

pub returns : goal.returns
returns c =
    whole_word_first c.args.line.now _ _ _ c.in_ok-value.value (omega (arith, c.if-line-lt11.false)) c.if-line-ne32.false c.if-line-ne48.false c.if-line-ne120.false
    (eqb-true _ 0 (sym c.ends_token.ensures ∙ c.if-not-ends_token.false)) (sym c.in_ok-value.was ∙ c.hexadecimal.ensures)
