use Rattle.l4_plan.proofs.Listed.{MadeSoFar}
use Rattle.l4_plan.proofs.splitting.items_from.Given as goal

abbrev pub invariant-loop-done : goal.invariant-loop-done
invariant-loop-done l = MadeSoFar l.size l.region l.first l.done l.page l.items.items
