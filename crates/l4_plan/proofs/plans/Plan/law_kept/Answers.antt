use Rattle.std.proofs.Common.{subst}
use Rattle.l4_plan.specs.Shortest.{IsShortest}
use Rattle.l4_plan.proofs.Listed.{all_shortest}
use Rattle.l4_plan.proofs.plans.Plan.law_kept.Goals as goal

pub returns : goal.returns
returns c =
    let p = c.self.inside in
    (p.size, p.region, subst (IsShortest p.size p.region) c.self.view_is (all_shortest p.size p.region p.items c.self.invariant))
