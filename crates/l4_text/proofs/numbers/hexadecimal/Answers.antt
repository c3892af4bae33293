use Rattle.std.proofs.Common.{get_or, arith}
use Rattle.l4_text.proofs.Digits.{small_hex, hex_more, hex_digit_most, read_next}
use Rattle.l4_text.proofs.numbers.hexadecimal.Goals as goal

pub overflow_mul-value : goal.overflow_mul-value
overflow_mul-value c = omega (arith, small_hex c.loop-byte.byte-index (omega (arith, c.requires, c.loop-byte-test.true)), c.loop-byte.invariant.1)

pub overflow_add-value : goal.overflow_add-value
overflow_add-value c =
    omega (arith, small_hex c.loop-byte.byte-index (omega (arith, c.requires, c.loop-byte-test.true)), c.loop-byte.invariant.1, hex_digit_most (get_or c.args.digits.now c.loop-byte.byte-index 0) c.hex_digit.result c.hex_digit.ensures)

pub loop-byte-preserved : goal.loop-byte-preserved
loop-byte-preserved c = (
  read_next c.args.digits.now c.loop-byte.byte-index c.loop-byte.value _ _ c.loop-byte-test.true c.loop-byte.invariant.0 c.hex_digit.ensures,
  omega (arith, c.loop-byte.invariant.1, hex_digit_most (get_or c.args.digits.now c.loop-byte.byte-index 0) c.hex_digit.result c.hex_digit.ensures, hex_more c.loop-byte.byte-index),
)
