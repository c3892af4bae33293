use Rattle.std.proofs.Common.{◌∙◌, ap, get_or}
use Rattle.l4_shell.specs.ByLines.{state_of}
use Rattle.l4_orders.specs.Plans.{line_at}
use Rattle.l4_orders.proofs.Filled.{err_on, full_turn}
use Rattle.l4_orders.proofs.InTurn.{order_line, order_no_line}
use Rattle.l4_orders.proofs.Turning.{gone_counted}
use Rattle.l4_orders.proofs.executing.execute_order.Goals as goal
use Rattle.l4_orders.proofs.executing.execute_order.Goals.{in-Some+in_ok-execute+in_ok-number, in_default-line_at}

pub loop-place-preserved : goal.loop-place-preserved
loop-place-preserved c = (
  elim c.match-line_at.branch [
    | in-Some+in_ok-execute+in_ok-number w ↦ order_line _ _ _ _ _ _ _ _ _ _ c.args.order.now _ c.loop-place.place-index w.in-Some.line.now _ c.loop-place-test.true w.as_slice-in-Some.ensures.value c.loop-place.invariant.0 c.loop-place.invariant.1
        (w.in-Some.ensures ∙ ap (λ g. line_at c.args.plan.now.blocks.items g (get_or c.args.order.now c.loop-place.place-index 0)) c.as_slice.ensures.value) w.in_ok-execute.ensures w.in_ok-number.ensures (ap state_of w.script-is) w.number-is
    | in_default-line_at w ↦ order_no_line _ _ _ _ _ _ _ _ c.args.order.now _ c.loop-place.place-index c.loop-place-test.true c.loop-place.invariant.0 c.loop-place.invariant.1 (w.in_default-line_at.ensures ∙ ap (λ g. line_at c.args.plan.now.blocks.items g (get_or c.args.order.now c.loop-place.place-index 0)) c.as_slice.ensures.value) (ap state_of w.script-is) w.number-is
  ],
  gone_counted c.advance.result _ c.args.order.now _ _ c.loop-place.place-index c.if-is_err.ensures.value c.loop-place-test.true c.loop-place.invariant.1 c.advance.ensures,
)

pub returns-in_err-execute : goal.returns-in_err-execute
returns-in_err-execute c =
    err_on c.from_residual.result _ _ _ c.from_residual.ensures.1
    (λ full. full_turn c.args.plan.now _ _ _ _ _ _ c.args.order.now _ c.loop-place.place-index c.in-Some.line.now _ c.loop-place-test.true c.as_slice-in-Some.ensures.value c.loop-place.invariant.0 c.loop-place.invariant.1
    (c.in-Some.ensures ∙ ap (λ g. line_at c.args.plan.now.blocks.items g (get_or c.args.order.now c.loop-place.place-index 0)) c.as_slice.ensures.value) (c.in_err-execute.ensures full))
