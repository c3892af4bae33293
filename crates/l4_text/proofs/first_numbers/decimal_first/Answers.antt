use Rattle.std.proofs.Common.{arith}
use Rattle.l4_text.proofs.OneNumber.{decimal_first}
use Rattle.l4_text.proofs.first_numbers.decimal_first.Goals as goal

pub returns : goal.returns
returns c = (
  c.in_ok-value.ensures.0,
  omega (arith, c.if-count-gt10.false),
  c.in_ok-value.ensures.3,
  decimal_first c.args.text.now c.in_ok-value.count c.in_ok-value.value c.in_ok-value.ensures (omega (arith, c.if-count-eq0.false)) (omega (arith, c.if-count-gt10.false)),
)
