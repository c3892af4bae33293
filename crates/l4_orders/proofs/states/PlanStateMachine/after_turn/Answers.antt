use Rattle.std.proofs.Common.{ap, sym, subst, ◌∙◌}
use Rattle.l4_shell.specs.ByLines.{state_of, unread}
use Rattle.l4_orders.specs.Plans.{next_of, gone_with}
use Rattle.l4_orders.specs.Turns.{PlanPoint, point, Turns}
use Rattle.l4_orders.proofs.Stepping.{next_step, made_turn}
use Rattle.l4_orders.proofs.Turning.{counted}
use Rattle.l4_orders.proofs.states.PlanStateMachine.after_turn.Goals as goal

pub invariant_of-result : goal.invariant_of-result
invariant_of-result c =
    next_step c.self.inside.plan.now c.self.inside.gone.items c.advance.new.gone.items c.self.inside.line _ c.args.thread (c.in-Some.field-0-0, c.in-Some.bytes.now) c.self.invariant
    (ap (λ g. next_of c.self.inside.plan.now.blocks.items g c.args.thread) (sym c.as_slice.ensures.value) ∙ sym c.in-Some.ensures)
    (counted c.advance.result _ _ _ c.if-is_err.ensures.value c.advance.ensures ∙ ap (λ g. gone_with g c.args.thread) (c.in-Ok.ensures.items ∙ c.as_slice-2.ensures.value)) c.in_ok-next_number.ensures

pub returns : goal.returns
returns c =
    subst (λ (p : PlanPoint). Turns p c.args.thread (point c.self.inside.plan.now (state_of c.execute.new.script) c.advance.new.gone.items)) c.self.view_is
    (made_turn c.self.inside.plan.now (state_of c.self.inside.script.value) (state_of c.deref_mut.result.now) (state_of c.execute.new.script) c.self.inside.gone.items c.advance.new.gone.items c.self.inside.line c.args.thread
    (c.in-Some.field-0-0, c.in-Some.bytes.now) (ap state_of c.deref_mut.ensures.value ∙ c.in_ok-script.ensures ∙ ap (λ r. unread (state_of r)) c.deref.ensures)
    (ap (λ g. next_of c.self.inside.plan.now.blocks.items g c.args.thread) (sym c.as_slice.ensures.value) ∙ sym c.in-Some.ensures) c.self.invariant c.in_ok-execute.ensures
    (counted c.advance.result _ _ _ c.if-is_err.ensures.value c.advance.ensures ∙ ap (λ g. gone_with g c.args.thread) (c.in-Ok.ensures.items ∙ c.as_slice-2.ensures.value)))
