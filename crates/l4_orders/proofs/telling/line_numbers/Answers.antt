use Rattle.std.proofs.Common.{ℕ, ◌∷◌, [], List, ap, map, get_or, ◌∙◌}
use Rattle.std.proofs.lemmas.List.{take_all}
use Rattle.std.proofs.lemmas.List.Concat.{flat_map_single}
use Rattle.std.specs.Global.{Vec}
use Rattle.l4_orders.specs.Plans.{line_at, none_gone}
use Rattle.l4_orders.specs.Telling.{lines_from}
use Rattle.l4_orders.specs.declared.plans.PlanLine.{PlanLine}
use Rattle.l4_orders.proofs.Turning.{text_next, text_none, gone_next}
use Rattle.l4_orders.proofs.telling.line_numbers.Goals as goal
use Rattle.l4_orders.proofs.telling.line_numbers.Goals.{in-Some+in_ok-extend_from_slice, in_default}

pub loop-place-preserved : goal.loop-place-preserved
loop-place-preserved c = (
  elim c.match-line_at.branch [
    | in-Some+in_ok-extend_from_slice w ↦ text_next (λ (line : PlanLine). line.number ∷ []) _ _ c.args.order.now _ c.loop-place.place-index [] _ _ w.in-Some.line.now c.loop-place-test.true c.loop-place.invariant.0 c.loop-place.invariant.1 (w.in-Some.ensures ∙ ap (λ g. line_at c.args.plan.now.blocks.items g (get_or c.args.order.now c.loop-place.place-index 0)) c.as_slice.ensures.value)
        (ap (λ (v : Vec ℕ). v.items) w.numbers-is ∙ w.in_ok-extend_from_slice.ensures.items)
    | in_default w ↦ text_none (λ (line : PlanLine). line.number ∷ []) _ _ c.args.order.now _ c.loop-place.place-index [] _ _ c.loop-place-test.true c.loop-place.invariant.0 c.loop-place.invariant.1 (w.in_default.ensures ∙ ap (λ g. line_at c.args.plan.now.blocks.items g (get_or c.args.order.now c.loop-place.place-index 0)) c.as_slice.ensures.value) (ap (λ (v : Vec ℕ). v.items) w.numbers-is)
  ],
  gone_next _ c.args.order.now _ _ c.loop-place.place-index c.loop-place-test.true c.loop-place.invariant.1 c.in_ok-advance.ensures,
)

pub returns : goal.returns
returns c =
    c.loop-place.invariant.0 ∙ flat_map_single (λ (line : PlanLine). line.number) (lines_from c.args.plan.now.blocks.items (none_gone c.args.plan.now) _)
    ∙ ap (λ (order : List ℕ). map (λ (line : PlanLine). line.number) (lines_from c.args.plan.now.blocks.items (none_gone c.args.plan.now) order)) (take_all c.loop-place.place-index c.args.order.now c.loop-place-test.false)
