use Rattle.l4_step_lines.proofs.Going.{runs_on, runs_not}
use Rattle.l4_step_lines.proofs.running.run.Goals as goal

pub returns-in-Ok-finish : goal.returns-in-Ok-finish
returns-in-Ok-finish g c =
    runs_on _ _ _ _ _ _ _ _ _ _ _ _ c.in-Ok.ensures.0 c.in-Ok.ensures.1 c.new-out.ensures c.answer_all-answered.ensures c.in-Ok-finish.ensures.ok

pub returns : goal.returns
returns g c =
    runs_not _ _ _ _ _ _ _ _ _ _ _ c.answer_all-answered.result c.in-Ok.ensures.0 c.in-Ok.ensures.1 c.new-out.ensures c.answer_all-answered.ensures c.in-Err.ensures.err.1
