use Rattle.l4_graphs.proofs.Placing.{AreWritten}
use Rattle.l4_graphs.proofs.graphs.put_nodes.Given as goal

abbrev pub invariant-loop-done : goal.invariant-loop-done
invariant-loop-done l = AreWritten l.plan l.seen l.done l.initial.out.items l.out.items
