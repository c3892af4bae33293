use Rattle.std.proofs.Common.{arith}
use Rattle.l4_text.proofs.DigitTable.{digit_in_table}
use Rattle.l4_text.proofs.numbers.hex_digit.Goals as goal

pub returns : goal.returns
returns c = digit_in_table _ c.args.byte (omega (arith, c.ranges.byte.fits))
