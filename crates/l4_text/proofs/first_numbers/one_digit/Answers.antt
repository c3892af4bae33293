use Rattle.std.proofs.Common.{arith, Some, eqb-true, sym, ap, ◌∙◌}
use Rattle.l4_text.proofs.OneNumber.{one_digit_first}
use Rattle.l4_text.proofs.first_numbers.one_digit.Goals as goal

pub returns : goal.returns
returns c =
    one_digit_first c.args.line.now _ _ c.from.result (omega (arith, c.if-line-lt2.false)) c.if-line-ne32.false
    (eqb-true _ 0 (sym c.ends_token.ensures ∙ c.if-not-ends_token.false)) (sym c.digit.ensures ∙ c.in_ok-value.was ∙ ap Some (sym c.from.ensures)) c.from.type_inv
