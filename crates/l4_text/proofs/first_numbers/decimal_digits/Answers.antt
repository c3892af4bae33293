use Rattle.std.proofs.Common.{Some, sym, ap, ◌∙◌, arith}
use Rattle.l4_text.specs.Numbers.{digit_of}
use Rattle.l4_text.proofs.Digits.{value_next}
use Rattle.l4_text.proofs.first_numbers.decimal_digits.Goals as goal

pub loop-byte-preserved : goal.loop-byte-preserved
loop-byte-preserved c = (
  omega (arith, c.loop-byte.invariant.0),
  value_next 10 digit_of c.args.text.now c.loop-byte.byte-index c.loop-byte.value c.from.result _ c.loop-byte-test.true c.loop-byte.invariant.1
      (sym c.in-Some.ensures ∙ ap Some (sym c.from.ensures)),
)
