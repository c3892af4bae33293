use Rattle.std.proofs.Common.{drop}
use Rattle.l4_c_queries.proofs.Ended.{EndedSoFar}
use Rattle.l4_c_queries.proofs.entries.write_ended.Given as goal

abbrev pub invariant-loop-entry : goal.invariant-loop-entry
invariant-loop-entry l = EndedSoFar (drop l.fn.place l.fn.history.entries) l.entry-iterator l.count l.initial.out l.out
