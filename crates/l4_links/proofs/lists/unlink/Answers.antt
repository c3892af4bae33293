use Rattle.std.proofs.Common.{arith, sym, ◌∙◌}
use Rattle.l4_links.proofs.Writes.{has_slot}
use Rattle.l4_links.proofs.Neighbours.{taken_out, order_out, parts_out, some_from, limbs_next, limbs_prev, no_limb, no_link}
use Rattle.l4_links.proofs.lists.unlink.Goals as goal

pub returns-clause-takes : goal.returns-clause-takes
returns-clause-takes c = grind (arith, taken_out, has_slot)

pub returns-clause-parts : goal.returns-clause-parts
returns-clause-parts c =
    parts_out c.args.nodes.now.slots c.empty.new.nodes.slots c.set_next.new.nodes.slots c.set_prev.new.nodes.slots c.args.key c.in-Some.node c.empty.ensures.writes c.set_next.ensures.sets c.set_prev.ensures.sets
    (has_slot c.args.nodes.now.slots c.args.key c.in-Some.node (sym c.node_of.ensures ∙ c.in-Some.is)) (returns-clause-takes c)

pub returns-clause-order : goal.returns-clause-order
returns-clause-order c xs ys o =
    order_out c.args.nodes.now.slots c.set_prev.new.nodes.slots xs c.args.key ys o (returns-clause-takes c)
    (λ k n ne at. some_from c.set_prev.new.nodes.slots c.args.nodes.now.slots k n
    (limbs_prev _ _ _ _ c.set_prev.ensures.sets k ∙ limbs_next _ _ _ _ c.set_next.ensures.sets k ∙ no_limb c.empty.new.nodes.slots c.args.nodes.now.slots k (c.empty.ensures.writes.others k ne)) at)
    (no_link c.set_prev.new.nodes.slots c.args.key (returns-clause-takes c).gone)

pub returns-clause-room : goal.returns-clause-room
returns-clause-room c more room = c.set_prev.ensures.room more (c.set_next.ensures.room more (c.empty.ensures.room more room))
