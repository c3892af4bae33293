use Rattle.l4_plan.proofs.Listed.{ListedSoFar}
use Rattle.l4_plan.proofs.splitting.starts_of.Given as goal

abbrev pub invariant-loop-done : goal.invariant-loop-done
invariant-loop-done l = ListedSoFar l.region l.first l.done l.page l.pages.items
