use Rattle.std.proofs.Common.{rules, ℕ, List, subst}
use Rattle.l4_orders.specs.declared.plans.Block.{Block}
use Rattle.l4_orders.specs.Reading.{AreKnown, HasBegun, groups_in}
use Rattle.l4_orders.proofs.Completing.{finishes}
use Rattle.l4_orders.proofs.parts.Reading.finish.Goals as goal

pub returns-in-Ok : goal.returns-in-Ok
returns-in-Ok c =
    let begun : HasBegun c.args.self.part = search rules in
    let known = subst (λ (bs : List Block). AreKnown c.args.self.created.items (groups_in bs)) c.as_slice-2.ensures.value
    (subst (λ (ns : List ℕ). AreKnown ns (groups_in c.as_slice-2.result.now)) c.as_slice.ensures.value c.in-Ok.ensures) in
    finishes c.complete.result c.args.size c.args.self.part c.args.self.created.items c.args.self.plan begun known c.complete.ensures
