use Rattle.std.proofs.Common.{ap, length, arith}
use Rattle.l4_plan.proofs.Listed.{made_step, length_items, reached_from}
use Rattle.l4_plan.proofs.splitting.items_from.Goals as goal

pub loop-done-preserved : goal.loop-done-preserved
loop-done-preserved c =
    rw c.push.ensures.items (made_step c.args.size c.args.region.now c.args.first c.loop-done.done c.loop-done.page c.largest_allowed-log.result c.address_of-base.result c.loop-done.items.items c.of_block-fpage.result c.requires.space c.loop-done.invariant c.largest_allowed-log.ensures c.address_of-base.ensures c.of_block-fpage.ensures.bytes c.of_block-fpage.ensures.rights)

pub largest_allowed-log-requires-clause-from : goal.largest_allowed-log-requires-clause-from
largest_allowed-log-requires-clause-from c =
    omega (arith, c.loop-done.invariant.page_is, reached_from c.args.region.now c.args.first c.loop-done.done, c.requires.goes.from)

pub largest_allowed-log-requires-clause-below : goal.largest_allowed-log-requires-clause-below
largest_allowed-log-requires-clause-below c = omega (arith, c.loop-done.invariant.page_is, c.requires.goes.within c.loop-done.done (omega arith))

pub push-requires : goal.push-requires
push-requires c =
    let n = length_items c.args.size c.args.region.now c.args.first c.loop-done.done in
    let e = ap length c.loop-done.invariant.items_are in
    omega (arith, n, e)
