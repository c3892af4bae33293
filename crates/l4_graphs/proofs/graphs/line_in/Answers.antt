use Rattle.std.proofs.Common.{ℕ, ◌==◌, List, Option, slice_get, ap, ◌∙◌}
use Rattle.std.specs.List.{position}
use Rattle.std.specs.Prelude.{option_and_then}
use Rattle.l4_orders.specs.declared.plans.PlanLine.{PlanLine}
use Rattle.l4_graphs.proofs.graphs.line_in.Goals as goal

pub returns-in_default : goal.returns-in_default
returns-in_default c =
    ap (λ (o : Option ℕ). option_and_then (λ place. slice_get c.args.block.now.lines.items place) o)
    (c.in_default.ensures ∙ ap (λ (l : List PlanLine). position (λ line. line.number == c.args.number) l) c.as_slice.ensures.value)

pub returns : goal.returns
returns c =
    c.line_at.ensures
    ∙ ap (λ (o : Option ℕ). option_and_then (λ place. slice_get c.args.block.now.lines.items place) o)
    (c.in-Some.ensures ∙ ap (λ (l : List PlanLine). position (λ line. line.number == c.args.number) l) c.as_slice.ensures.value)
