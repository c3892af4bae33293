use Rattle.l4_provenance.proofs.Sofar.{Sofar}
use Rattle.l4_provenance.proofs.replaying.last_arrival.Given as goal

abbrev pub invariant-loop-number : goal.invariant-loop-number
invariant-loop-number g l = Sofar l.fn.kernel (g.H.Replayable.entries l.fn.history) l.number l.kernel l.fn.place l.last
