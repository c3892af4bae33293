use Rattle.std.proofs.Common.{ℕ, arith, subst}
use Rattle.l4_spaces.specs.Keys.{IsKey}
use Rattle.l4_links.proofs.Adding.{added}
use Rattle.l4_links.proofs.Depths.{depth_fits}
use Rattle.l4_links.proofs.Writes.{node_key}
use Rattle.l4_links.proofs.lists.add_under.Goals as goal

pub child_of-node-requires-clause-key : goal.child_of-node-requires-clause-key
child_of-node-requires-clause-key c = node_key c.args.nodes.now.slots c.args.parent c.args.above.now c.requires.few c.requires.there

pub child_of-node-requires-clause-depth : goal.child_of-node-requires-clause-depth
child_of-node-requires-clause-depth c = grind (arith, depth_fits)

pub insert_node-key-requires-clause-depth : goal.insert_node-key-requires-clause-depth
insert_node-key-requires-clause-depth c = grind (arith, depth_fits)

pub returns-clause-few : goal.returns-clause-few
returns-clause-few c = subst (λ (k : ℕ). IsKey k) c.insert_node-key.ensures.key c.insert_node-key.ensures.few

pub returns-clause-adds : goal.returns-clause-adds
returns-clause-adds c = grind (arith, added)

pub returns-clause-room : goal.returns-clause-room
returns-clause-room c more room = c.set_next.ensures.room more (c.set_prev.ensures.room more (c.insert_node-key.ensures.room more room))
