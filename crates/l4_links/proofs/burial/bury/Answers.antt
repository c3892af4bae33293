use Rattle.std.proofs.Common.{ℕ, refl, sym, ◌∙◌, subst, arith, Option}
use Rattle.l4_links.proofs.Naming.{indexed_same}
use Rattle.l4_links.proofs.Neighbours.{takes_slot, order_freed}
use Rattle.l4_links.proofs.Burying.{BuriedSoFar, buried_first, buried_there, buried_more, buried_done, buried_ends}
use Rattle.l4_links.proofs.burial.bury.Goals as goal

pub loop-init : goal.loop-init
loop-init c = search (buried_first)

pub returns-in_default : goal.returns-in_default
returns-in_default c = record {
  buries =
      buried_done c.args.nodes.now.slots c.loop.nodes.slots c.args.first c.loop.begin c.loop.counter
      (subst (λ (o : Option ℕ). BuriedSoFar c.args.nodes.now.slots c.loop.nodes.slots c.args.first c.loop.begin o c.loop.counter) (sym c.key.ensures ∙ c.in_default.is) c.loop.invariant.buried);
  indexed = c.loop.invariant.indexed;
  spaces = c.loop.invariant.spaces;
}

pub unreachable-requires : goal.unreachable-requires
unreachable-requires c = grind (arith, buried_there)

pub unlink-requires-clause-order : goal.unlink-requires-clause-order
unlink-requires-clause-order c = (c.loop.invariant.buried.left, c.loop.invariant.buried.order)

pub loop-preserved : goal.loop-preserved
loop-preserved c = record {
  buried =
      buried_more c.args.nodes.now.slots c.loop.nodes.slots c.remove.new.nodes.slots c.args.first c.loop.begin c.first_without-begin.result c.loop.counter c.in-Some.key c.in-Some-node_of.node
      (subst (λ (o : Option ℕ). BuriedSoFar c.args.nodes.now.slots c.loop.nodes.slots c.args.first c.loop.begin o c.loop.counter) (sym c.key.ensures ∙ c.in-Some.is) c.loop.invariant.buried)
      (sym c.node_of.ensures ∙ c.in-Some-node_of.is) c.first_without-begin.ensures.begins c.first_without-begin.ensures.stays (λ xs ys o. order_freed c.unlink.new.nodes.slots c.remove.new.nodes.slots c.in-Some.key c.unlink.ensures.parts.gone c.remove.ensures.gone c.remove.ensures.others (c.unlink.ensures.order xs ys o))
      (takes_slot c.loop.nodes.slots c.unlink.new.nodes.slots c.remove.new.nodes.slots c.in-Some.key c.unlink.ensures.parts c.remove.ensures.gone c.remove.ensures.others);
  indexed = λ i. c.remove.ensures.indexed (indexed_same c.loop.nodes.slots c.unlink.new.nodes.slots c.loop.pages c.loop.pages c.unlink.ensures.parts.spots_same refl refl (c.loop.invariant.indexed i));
  spaces = c.remove.ensures.spaces ∙ c.loop.invariant.spaces;
}

pub returns : goal.returns
returns c =
    let full = c.capacity-end.ensures.above in
    let ended = c.loop-test.false in
    let at = buried_ends c.args.nodes.now.slots c.loop.nodes.slots c.args.first c.loop.begin c.loop.at c.loop.counter c.loop.invariant.buried (omega (arith, full, ended)) in
    record {
      buries =
          buried_done c.args.nodes.now.slots c.loop.nodes.slots c.args.first c.loop.begin c.loop.counter
          (subst (λ (o : Option ℕ). BuriedSoFar c.args.nodes.now.slots c.loop.nodes.slots c.args.first c.loop.begin o c.loop.counter) at c.loop.invariant.buried);
      indexed = c.loop.invariant.indexed;
      spaces = c.loop.invariant.spaces;
    }
