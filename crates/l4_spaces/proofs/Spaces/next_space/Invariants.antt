use Rattle.l4_spaces.specs.Inside.Leasts.{LeastSoFar}
use Rattle.l4_spaces.proofs.Spaces.next_space.Given as goal

abbrev pub invariant-loop-entry : goal.invariant-loop-entry
invariant-loop-entry l = LeastSoFar l.from l.entry-items l.entry-index l.least
