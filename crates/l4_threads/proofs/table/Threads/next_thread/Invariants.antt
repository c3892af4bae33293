use Rattle.l4_threads.proofs.EnabledLemmas.{LeastSoFar}
use Rattle.l4_threads.proofs.NextLemmas.{IsFrom}
use Rattle.l4_threads.proofs.table.Threads.next_thread.Given as goal

abbrev pub invariant-loop-entry : goal.invariant-loop-entry
invariant-loop-entry l = LeastSoFar (IsFrom l.self l.from) l.entry-items l.entry-index l.least
