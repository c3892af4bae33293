use Rattle.std.proofs.Common.{◌≡◌, ◌-◌, min, drop}
use Rattle.l4_naturals.specs.Numerals.{most_u64, value}
use Rattle.l4_naturals.proofs.digits.bounded.Given as goal

abbrev pub invariant-loop-done : goal.invariant-loop-done
invariant-loop-done l = l.number ≡ min (value (drop (l.count - l.done) l.digits)) most_u64
