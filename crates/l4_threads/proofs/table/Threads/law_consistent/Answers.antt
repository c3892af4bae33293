use Rattle.std.proofs.Common.{subst}
use Rattle.l4_threads.specs.Threads.{IsConsistent}
use Rattle.l4_threads.proofs.ViewLemmas.{consistent}
use Rattle.l4_threads.proofs.table.Threads.law_consistent.Goals as goal

pub returns : goal.returns
returns c = subst IsConsistent c.self.view_is (consistent _ _ _ c.self.invariant.table)
