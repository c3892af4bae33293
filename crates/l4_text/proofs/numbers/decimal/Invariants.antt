use Rattle.std.proofs.Common.{◌≡◌, ◌<◌, ◌^◌, drop}
use Rattle.l4_text.specs.Numbers.{value_from, digit_of}
use Rattle.l4_text.proofs.numbers.decimal.Given as goal

abbrev pub invariant-loop-byte : goal.invariant-loop-byte
invariant-loop-byte l =
    (value_from 10 digit_of 0 l.text ≡ value_from 10 digit_of l.value (drop l.byte-index l.text)) × (l.value < 10 ^ l.byte-index)
