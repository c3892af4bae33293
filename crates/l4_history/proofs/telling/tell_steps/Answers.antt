use Rattle.std.proofs.Common.{◌∙◌}
use Rattle.l4_history.proofs.SoFar.{steps_first, steps_next, steps_all}
use Rattle.l4_history.proofs.telling.tell_steps.Goals as goal

pub loop-entry-init : goal.loop-entry-init
loop-entry-init g c = steps_first _ _ _ _ (c.into_iter-entry-iterator.ensures.into_iter_gives ∙ c.entries_from-entry-items.ensures.entries)

pub loop-entry-preserved : goal.loop-entry-preserved
loop-entry-preserved g c = steps_next _ _ _ _ _ _ c.in-Some.entry _ _ _ c.in-Some.ensures.steps c.loop-entry.invariant c.put_step.ensures

pub returns : goal.returns
returns g c = steps_all _ _ _ _ _ _ c.in-None.ensures.steps.0 c.loop-entry.invariant
