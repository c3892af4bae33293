use Rattle.std.proofs.Common.{refl, arith, rules}
use Rattle.l4_msg.specs.Regions.{IsSound}
use Rattle.l4_plan.specs.Shortest.{IsTooLong}
use Rattle.l4_plan.proofs.Listed.{all_too_long}
use Rattle.l4_plan.proofs.planner.plan.Goals as goal

pub returns-then-items-clause-too_long : goal.returns-then-items-clause-too_long
returns-then-items-clause-too_long c =
    let sound : IsSound c.args.size c.args.region.now = search rules in
    all_too_long c.args.size c.args.region.now c.pass-items.result.blocks sound (omega (arith, c.pass-items.ensures.few, c.if-items.true)) c.pass-items.ensures.within

pub returns-then-items-clause-possible : goal.returns-then-items-clause-possible
returns-then-items-clause-possible c =
    let sound : IsSound c.args.size c.args.region.now = search rules in
    let long : IsTooLong c.args.size c.args.region.now _ = all_too_long c.args.size c.args.region.now c.pass-items.result.blocks sound (omega (arith, c.pass-items.ensures.few, c.if-items.true)) c.pass-items.ensures.within in (
      λ e. absurd (cc),
      λ h. absurd (omega (arith, h.1.2, long.none h.1.0 h.1.1)),
    )

pub returns-clause-possible : goal.returns-clause-possible
returns-clause-possible c =
    let best = c.of.ensures in
    (λ e. (best.sound, (c.of.result.items, best.plan.rival, best.few)), λ h. refl)
