use Rattle.l4_plan.proofs.Listed.{all_shortest}
use Rattle.l4_plan.proofs.plans.Plan.of.Goals as goal

pub returns : goal.returns
returns c = all_shortest c.args.size c.args.region.now c.args.items c.requires
