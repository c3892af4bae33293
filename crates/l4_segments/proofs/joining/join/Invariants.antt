use Rattle.std.proofs.Common.{◌≡◌, take}
use Rattle.l4_segments.specs.Joining.{Fit, end_of}
use Rattle.l4_segments.proofs.joining.join.Given as goal

abbrev pub invariant-loop-place : goal.invariant-loop-place
invariant-loop-place l = Fit l.frames l.size l.first (take l.place l.segments) × (l.expected ≡ end_of l.first (take l.place l.segments))
