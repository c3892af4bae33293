use Rattle.std.proofs.Common.{◌≡◌, ◌-◌, ◌<◌, ◌++◌}
use Rattle.l4_naturals.proofs.Adding.{sums}
use Rattle.l4_naturals.proofs.digits.sum_of.Given as goal

abbrev pub invariant-loop-place : goal.invariant-loop-place
invariant-loop-place l = record {
  same : l.digits.items ++ sums l.a l.b (l.places - l.place) l.place l.carry ≡ sums l.a l.b l.places 0 0;
  low : l.carry < 2;
}
