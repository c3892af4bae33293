use Rattle.std.proofs.Common.{◌++◌, List, length, ap, sym, subst, ◌∙◌}
use Rattle.l4_shell.specs.ByLines.{state_of, unread}
use Rattle.l4_orders.specs.declared.plans.PlanLine.{PlanLine}
use Rattle.l4_orders.specs.Turns.{PlanPoint, HasOutcome, AnswersInTurn, stuck_lines}
use Rattle.l4_orders.proofs.Stepping.{made_outcome}
use Rattle.l4_orders.proofs.states.PlanStateMachine.outcome.Goals as goal

pub put_all_stuck-requires : goal.put_all_stuck-requires
put_all_stuck-requires c = ap (λ l. length l) c.as_slice.ensures.value ∙ c.self.invariant.each ∙ sym (ap (λ l. length l) c.as_slice-blocks.ensures.value)

pub returns-in-Ok : goal.returns-in-Ok
returns-in-Ok c =
    subst (λ (p : PlanPoint). HasOutcome p c.put_all_stuck.new.out.items) c.self.view_is
    (made_outcome c.self.inside.plan.now (state_of c.self.inside.script.value) (state_of c.deref_mut.result.now) (state_of c.answers.new.script) c.self.inside.gone.items c.self.inside.line c.in_ok-text.ensures.0 c.in_ok-text.text.items c.put_all_stuck.new.out.items
    (ap state_of c.deref_mut.ensures.value ∙ c.in_ok-script.ensures ∙ ap (λ r. unread (state_of r)) c.deref.ensures) c.self.invariant
    (subst (λ (l : List PlanLine). AnswersInTurn (state_of c.deref_mut.result.now) c.self.inside.line l c.in_ok-text.ensures.0 (state_of c.answers.new.script)) c.as_slice-queries.ensures.value c.in_ok-text.ensures.1)
    c.in_ok-text.ensures.2 (c.in-Ok.ensures ∙ (λ i. c.in_ok-text.text.items ++ stuck_lines (c.as_slice-blocks.ensures.value i) (c.as_slice.ensures.value i))))
