use Rattle.l4_provenance.specs.Inside.Watching.{Watched}
use Rattle.l4_provenance.proofs.removing.watch.Given as goal

abbrev pub invariant-loop-number : goal.invariant-loop-number
invariant-loop-number g l = Watched l.fn.kernel (g.H.Replayable.entries l.fn.history) l.number l.kernel l.fn.place l.removal
