use Rattle.std.proofs.Common.{length}
use Rattle.l4_ipc.proofs.Work.{work}
use Rattle.l4_record.proofs.Going.{Going}
use Rattle.l4_record.proofs.steps.follow.Given as goal

abbrev pub invariant-loop-next : goal.invariant-loop-next
invariant-loop-next l = Going l.number l.initial.kernel l.kernel l.initial.history.entries l.history.entries l.next.items (length l.history.entries) l.history.room

abbrev pub decreases-loop-next : goal.decreases-loop-next
decreases-loop-next l = work l.kernel.threads
