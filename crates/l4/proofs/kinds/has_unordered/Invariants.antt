use Rattle.std.proofs.Common.{◌≡◌, length}
use Rattle.l4.specs.Files.{has_unordered}
use Rattle.l4.proofs.kinds.has_unordered.Given as goal

abbrev pub invariant-loop-rest : goal.invariant-loop-rest
invariant-loop-rest l = has_unordered l.text ≡ has_unordered l.rest

abbrev pub decreases-loop-rest : goal.decreases-loop-rest
decreases-loop-rest l = length l.rest
