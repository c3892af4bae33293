use Rattle.std.proofs.Common.{sym, ap, ◌∙◌, length}
use Rattle.l4_plan.specs.Plan.{Listing}
use Rattle.l4_plan.proofs.Listed.{length_items}
use Rattle.l4_plan.proofs.plans.Plan.len.Goals as goal

pub returns-clause-value : goal.returns-clause-value
returns-clause-value c = sym (length_items c.self.inside.size c.self.inside.region c.self.inside.region.source c.self.inside.items) ∙ ap (λ (p : Listing). length p.items) c.self.view_is
