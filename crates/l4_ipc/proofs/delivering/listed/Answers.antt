use Rattle.std.proofs.Common.{lit<}
use Rattle.l4_ipc.proofs.Moving.{listed_more, listed_room}
use Rattle.l4_ipc.proofs.delivering.listed.Goals as goal

pub push-requires : goal.push-requires
push-requires c = (lit< tt, listed_room c.args.size c.args.window.now c.args.items.now c.loop-item.item-index c.loop-item.moves.items c.loop-item-test.true c.requires c.loop-item.invariant)

pub loop-item-preserved : goal.loop-item-preserved
loop-item-preserved c = listed_more c.args.size c.args.window.now c.args.items.now c.loop-item.item-index c.item-item.result c.loop-item.moves.items c.push.new.self.items c.item_move.result
    c.loop-item-test.true c.item-item.is c.push.ensures.items c.loop-item.invariant c.item_move.ensures
