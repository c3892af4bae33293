use Rattle.std.proofs.Common.{◌∙◌}
use Rattle.l4_history.proofs.SoFar.{answered_first, answered_next, answered_before, answered_all}
use Rattle.l4_history.proofs.telling.tell_answered.Goals as goal

pub loop-done-init : goal.loop-done-init
loop-done-init g c = answered_first _ _ _ _ _ (c.into_iter-done-iterator.ensures.into_iter_gives ∙ c.entries_from-done-items.ensures.entries)

pub loop-done-preserved : goal.loop-done-preserved
loop-done-preserved g c =
    answered_next _ _ _ _ _ _ _ _ _ _ _ c.in-Some.done _ _ _ c.in-Some.ensures.steps c.loop-done.invariant (c.repeats.ensures c.if-not-repeats.false) c.put_step.ensures c.put_answer.ensures

pub returns-then-not-repeats : goal.returns-then-not-repeats
returns-then-not-repeats g c = answered_before _ _ _ _ _ _ _ _ c.loop-done.invariant c.in-Some.done _ c.in-Some.ensures.steps

pub returns : goal.returns
returns g c = answered_all _ _ _ _ _ _ _ _ c.loop-done.invariant c.in-None.ensures.steps.0
