use Rattle.std.proofs.Common.{◌+◌, ◌*◌, ◌^◌, ◌≤◌}
use Rattle.l4_text.proofs.Digits.{IsRead}
use Rattle.l4_text.proofs.numbers.hexadecimal.Given as goal

abbrev pub invariant-loop-byte : goal.invariant-loop-byte
invariant-loop-byte l = IsRead l.digits l.byte-index l.value × (l.value + 2 ^ 29 ≤ 2 ^ 29 * 16 ^ l.byte-index)
