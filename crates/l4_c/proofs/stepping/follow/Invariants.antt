use Rattle.l4_ipc.proofs.Work.{work}
use Rattle.l4_c.proofs.Following.{Going}
use Rattle.l4_c.proofs.stepping.follow.Given as goal

abbrev pub invariant-loop-step : goal.invariant-loop-step
invariant-loop-step l = Going l.initial.kernel l.kernel l.count l.initial.steps l.steps

abbrev pub decreases-loop-step : goal.decreases-loop-step
decreases-loop-step l = work l.kernel.threads
