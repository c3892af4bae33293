use Rattle.std.proofs.Common.{ℕ, ap, get_or, ◌∙◌}
use Rattle.std.specs.Global.{Vec}
use Rattle.l4_orders.specs.Plans.{line_at}
use Rattle.l4_orders.specs.Telling.{number_text}
use Rattle.l4_orders.proofs.Turning.{text_next, text_none, gone_next}
use Rattle.l4_orders.proofs.telling.put_numbers.Goals as goal
use Rattle.l4_orders.proofs.telling.put_numbers.Goals.{in-Some+in_ok-put_line_number, in_default}

pub loop-place-preserved : goal.loop-place-preserved
loop-place-preserved c = (
  elim c.match-line_at.branch [
    | in-Some+in_ok-put_line_number w ↦ text_next (number_text c.args.explain) _ _ c.args.order.now _ c.loop-place.place-index _ _ _ w.in-Some.line.now c.loop-place-test.true c.loop-place.invariant.0 c.loop-place.invariant.1 (w.in-Some.ensures ∙ ap (λ g. line_at c.args.plan.now.blocks.items g (get_or c.args.order.now c.loop-place.place-index 0)) c.as_slice.ensures.value)
        (ap (λ (v : Vec ℕ). v.items) w.out-is ∙ w.in_ok-put_line_number.ensures)
    | in_default w ↦ text_none (number_text c.args.explain) _ _ c.args.order.now _ c.loop-place.place-index _ _ _ c.loop-place-test.true c.loop-place.invariant.0 c.loop-place.invariant.1 (w.in_default.ensures ∙ ap (λ g. line_at c.args.plan.now.blocks.items g (get_or c.args.order.now c.loop-place.place-index 0)) c.as_slice.ensures.value) (ap (λ (v : Vec ℕ). v.items) w.out-is)
  ],
  gone_next _ c.args.order.now _ _ c.loop-place.place-index c.loop-place-test.true c.loop-place.invariant.1 c.in_ok-advance.ensures,
)
