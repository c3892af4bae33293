use Rattle.std.proofs.Common.{◌-◌, length, take, drop, arith, sym, ◌∙◌}
use Rattle.l4_text.proofs.OneNumber.{hex_first, hex_before}
use Rattle.l4_text.proofs.first_numbers.hexadecimal_first.Goals as goal

pub returns : goal.returns
returns c =
    hex_first c.args.text.now _ _ c.token_len-count.result c.in_ok-value.value (omega (arith, c.if-text-lt2.false)) c.if-text-ne48.false c.if-text-ne120.false
    (hex_before (take (length c.args.text.now - 2) (drop 2 c.args.text.now)) c.token_len-count.result c.in_ok-value.value c.token_len-count.ensures.within c.token_len-count.ensures.value (sym c.in_ok-value.was ∙ c.hexadecimal.ensures))
    (omega (arith, c.if-count-eq0.false)) (omega (arith, c.if-count-gt8.false))
