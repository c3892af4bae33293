use Rattle.std.proofs.Common.{◌-◌, length, arith}
use Rattle.l4_graphs.proofs.Placing.{none_written, node_written, all_written}
use Rattle.l4_graphs.proofs.graphs.put_nodes.Goals as goal

pub loop-done-init : goal.loop-done-init
loop-done-init c = none_written c.args.plan.now c.args.seen.now c.args.out.now.items

pub loop-done-preserved : goal.loop-done-preserved
loop-done-preserved c =
    node_written c.args.plan.now c.args.seen.now c.loop-done.done (length c.args.seen.now - c.loop-done.done - 1) (length c.args.seen.now) c.index-seen-place.result c.args.out.now.items c.loop-done.out.items _
    (λ i. length c.args.seen.now) c.loop-done-test.true (omega (arith, c.loop-done-test.true)) c.index-seen-place.is c.loop-done.invariant c.in_ok-put_node.ensures

pub returns : goal.returns
returns c = all_written c.args.plan.now c.args.seen.now c.loop-done.done c.args.out.now.items c.loop-done.out.items (omega (arith, c.loop-done-test.false)) c.loop-done.invariant
