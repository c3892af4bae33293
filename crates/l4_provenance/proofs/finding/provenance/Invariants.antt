use Rattle.l4_provenance.proofs.Back.{Back}
use Rattle.l4_provenance.proofs.finding.provenance.Given as goal

abbrev pub invariant-loop-came : goal.invariant-loop-came
invariant-loop-came g l = Back l.fn.frames l.fn.size (g.H.Replayable.entries l.fn.history) l.fn.place l.count l.reached l.links.items

abbrev pub decreases-loop-came : goal.decreases-loop-came
decreases-loop-came g l = l.count
