use Rattle.std.proofs.Common.{ap, length, arith}
use Rattle.l4_plan.proofs.Split.{length_starts}
use Rattle.l4_plan.proofs.Listed.{listed_step, reached_from}
use Rattle.l4_plan.proofs.splitting.starts_of.Goals as goal

pub loop-done-preserved : goal.loop-done-preserved
loop-done-preserved c =
    rw c.push.ensures.items (listed_step c.args.region.now c.args.first c.loop-done.done c.loop-done.page c.largest_allowed.result c.loop-done.pages.items c.requires.goes.space c.loop-done.invariant c.largest_allowed.ensures)

pub largest_allowed-requires-clause-from : goal.largest_allowed-requires-clause-from
largest_allowed-requires-clause-from c =
    omega (arith, c.loop-done.invariant.page_is, reached_from c.args.region.now c.args.first c.loop-done.done, c.requires.goes.from)

pub largest_allowed-requires-clause-below : goal.largest_allowed-requires-clause-below
largest_allowed-requires-clause-below c = omega (arith, c.loop-done.invariant.page_is, c.requires.goes.within c.loop-done.done (omega arith))

pub push-requires : goal.push-requires
push-requires c =
    let n = length_starts c.args.region.now c.args.first c.loop-done.done in
    let e = ap length c.loop-done.invariant.pages_are in
    omega (arith, n, e)
