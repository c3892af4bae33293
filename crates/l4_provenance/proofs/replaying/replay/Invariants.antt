use Rattle.l4_record.proofs.Replayed.{Done}
use Rattle.l4_provenance.proofs.replaying.replay.Given as goal

abbrev pub invariant-loop-number : goal.invariant-loop-number
invariant-loop-number g l = Done l.fn.kernel (g.H.Replayable.entries l.fn.history) l.number l.kernel
