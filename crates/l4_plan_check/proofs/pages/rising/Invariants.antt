use Rattle.l4_plan_check.specs.Inside.Pages.{RisesTo}
use Rattle.l4_plan_check.proofs.pages.rising.Given as goal

abbrev pub invariant-loop-i : goal.invariant-loop-i
invariant-loop-i l = RisesTo l.pages l.i
