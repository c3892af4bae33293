use Rattle.std.proofs.Common.{ℕ, arith, refl, subst, Option, Some}
use Rattle.l4_nodes.specs.declared.nodes.Node.{Node}
use Rattle.l4_links.specs.Inside.Nodes.{child}
use Rattle.l4_nodes.specs.Slots.{Writes, SetsNext, SetsPrev, unnoted}
use Rattle.l4_links.proofs.Depths.{depth_fits, depth_is_key}
use Rattle.l4_links.proofs.Writes.{slot_key, node_key}
use Rattle.l4_links.proofs.Neighbours.{put_in, sprouts, forest_in, comes_in}
use Rattle.l4_links.proofs.lists.link_under.Goals as goal

pub child_of-node-requires-clause-key : goal.child_of-node-requires-clause-key
child_of-node-requires-clause-key c = node_key c.args.nodes.now.slots c.args.parent c.args.above c.requires.few c.requires.there

pub to-at-requires : goal.to-at-requires
to-at-requires c = slot_key c.args.nodes.now.slots c.args.key c.requires.few c.requires.room

pub child_of-node-requires-clause-depth : goal.child_of-node-requires-clause-depth
child_of-node-requires-clause-depth c = grind (arith, depth_fits)

pub write-requires : goal.write-requires
write-requires c = grind (arith, depth_is_key)

-- the child, and the writes, with the keys that their links are to
abbrev stands : (c : goal.After-set_next) → Node
stands c = child c.args.parent c.args.above c.args.rights

written : (c : goal.After-set_next) → Writes c.args.key (Some (stands c)) c.args.nodes.now.slots c.write.new.nodes.slots
written c = subst (λ (n : Node). Writes c.args.key (Some (unnoted n)) c.args.nodes.now.slots c.write.new.nodes.slots) c.child_of-node.ensures c.write.ensures.writes

after : (c : goal.After-set_next) → SetsPrev c.args.above.next (Some c.args.key) c.write.new.nodes.slots c.set_prev.new.nodes.slots
after c = subst (λ (o : Option ℕ). SetsPrev c.args.above.next o c.write.new.nodes.slots c.set_prev.new.nodes.slots) c.to-at.ensures c.set_prev.ensures.sets

before : (c : goal.After-set_next) → SetsNext (Some c.args.parent) (Some c.args.key) c.set_prev.new.nodes.slots c.set_next.new.nodes.slots
before c =
    subst (λ (o : Option ℕ). SetsNext o (Some c.args.key) c.set_prev.new.nodes.slots c.set_next.new.nodes.slots) c.to.ensures
    (subst (λ (o : Option ℕ). SetsNext c.to.result o c.set_prev.new.nodes.slots c.set_next.new.nodes.slots) c.to-at.ensures c.set_next.ensures.sets)

pub returns-clause-sprouts : goal.returns-clause-sprouts
returns-clause-sprouts c = grind (arith, sprouts, written, after, before)

pub returns-clause-comes : goal.returns-clause-comes
returns-clause-comes c =
    comes_in c.args.nodes.now.slots c.write.new.nodes.slots c.set_prev.new.nodes.slots c.set_next.new.nodes.slots c.args.key (stands c)
    (Some c.args.parent) (Some c.args.key) c.args.above.next (Some c.args.key) c.requires.blank c.requires.room (written c) (after c) (before c) refl refl

pub returns-clause-forest : goal.returns-clause-forest
returns-clause-forest c xs ys f =
    forest_in c.args.nodes.now.slots c.set_next.new.nodes.slots xs c.args.parent c.args.key ys f
    (put_in c.args.nodes.now.slots c.write.new.nodes.slots c.set_prev.new.nodes.slots c.set_next.new.nodes.slots c.requires.forest.0 c.args.parent c.args.key c.args.above (stands c)
    c.requires.forest.1.order c.requires.there c.requires.blank refl refl ((written c).here c.requires.room) (written c).others (after c) (before c))
    (returns-clause-sprouts c)

pub returns-clause-room : goal.returns-clause-room
returns-clause-room c more room = c.set_next.ensures.room more (c.set_prev.ensures.room more (c.write.ensures.room more room))
