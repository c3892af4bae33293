use Rattle.std.proofs.Common.{sym, arith}
use Rattle.l4_plan_check.proofs.items.block_from.Goals as goal

pub returns-in-Some-clause-moved : goal.returns-in-Some-clause-moved
returns-in-Some-clause-moved c p h =
    let w = c.in-Some.ensures.moved p h in
    (w.0, (c.loop-place.place, c.index-items-place.result, omega arith, sym c.index-items-place.is, w.1))
