use Rattle.l4_threads.specs.Enabled.{CanExpire}
use Rattle.l4_threads.proofs.EnabledLemmas.{LeastSoFar}
use Rattle.l4_threads.proofs.table.Threads.first_expiry.Given as goal

abbrev pub invariant-loop-entry : goal.invariant-loop-entry
invariant-loop-entry l = LeastSoFar (CanExpire l.self) l.entry-items l.entry-index l.least
