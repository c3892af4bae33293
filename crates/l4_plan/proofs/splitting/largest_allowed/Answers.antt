use Rattle.l4_plan.proofs.Steps.{largest_is}
use Rattle.l4_plan.proofs.splitting.largest_allowed.Goals as goal

pub returns : goal.returns
returns c =
    let s = c.requires in
    let a = c.alignment.ensures in
    largest_is c.args.region.now c.args.page c.min.result c.alignment.result c.ilog2.result s.space s.from s.below c.min.ensures a.divides_source a.divides_target a.greatest c.ilog2.ensures.power_le c.ilog2.ensures.next_power_gt
