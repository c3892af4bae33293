use Rattle.l4_provenance_check.proofs.Followed.{Followed}
use Rattle.l4_provenance_check.proofs.checks.leads.Given as goal

abbrev pub invariant-loop-entry : goal.invariant-loop-entry
invariant-loop-entry l = Followed l.fn.kernel l.fn.history.entries l.fn.place l.fn.links l.number l.kernel l.reached l.left l.entry-iterator
