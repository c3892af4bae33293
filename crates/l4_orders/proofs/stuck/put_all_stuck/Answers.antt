use Rattle.l4_orders.proofs.Sticking.{stuck_next, stuck_all}
use Rattle.l4_orders.proofs.stuck.put_all_stuck.Goals as goal

pub loop-place-preserved : goal.loop-place-preserved
loop-place-preserved c =
    stuck_next c.args.blocks.now c.args.gone.now c.loop-place.place c.index-blocks-place.result _ _ _ c.requires c.loop-place-test.true c.index-blocks-place.is c.loop-place.invariant c.in_ok-put_stuck.ensures

pub returns : goal.returns
returns c = stuck_all c.args.blocks.now c.args.gone.now c.loop-place.place _ _ c.requires c.loop-place-test.false c.loop-place.invariant
