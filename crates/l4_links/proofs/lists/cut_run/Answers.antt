use Rattle.std.proofs.Common.{refl, sym, ◌∙◌, arith}
use Rattle.l4_links.proofs.Naming.{indexed_same}
use Rattle.l4_links.proofs.Cutting.{pruned}
use Rattle.l4_links.proofs.Gaps.{gone_first, gone_more, gone_ends, gone_stops, closed, spots_closed}
use Rattle.l4_links.proofs.Gaps.{gone_there}
use Rattle.l4_links.proofs.lists.cut_run.Goals as goal

pub loop-gone-init : goal.loop-gone-init
loop-gone-init c = record {
  gone = gone_first c.args.nodes.now.slots c.requires.forest.0 c.args.top c.in-Some.head c.requires.forest.1 (sym c.node_of.ensures ∙ c.in-Some.is);
  indexed = λ i. i;
  spaces = refl;
}

pub returns-in_default-deeper : goal.returns-in_default-deeper
returns-in_default-deeper c =
    let old = c.args.nodes.now.slots in
    let cur = c.loop-gone.nodes.slots in
    let new = c.close_gap.new.nodes.slots in
    let so_far = c.loop-gone.invariant.gone in
    let gap = c.close_gap.ensures in
    let stops = gone_stops old cur c.args.top c.in-Some.head.depth c.loop-gone.at c.loop-gone.gone so_far (c.deeper.ensures.ends c.in_default-deeper.is) in
    record {
      prunes = pruned old new c.args.top c.loop-gone.at c.in-Some.head (closed old cur new c.args.top c.in-Some.head.depth c.loop-gone.at c.loop-gone.gone so_far gap.whole gap.closed) stops (sym c.node_of.ensures ∙ c.in-Some.is);
      indexed = λ i. indexed_same cur new c.loop-gone.pages c.loop-gone.pages (spots_closed cur new c.args.top c.loop-gone.at c.loop-gone.gone gap.whole gap.closed) refl refl (c.loop-gone.invariant.indexed i);
      spaces = c.loop-gone.invariant.spaces;
    }

pub loop-gone-preserved : goal.loop-gone-preserved
loop-gone-preserved c =
    let goes = c.in-Some-deeper.ensures.goes in
    record {
      gone = search (gone_more);
      indexed = λ i. c.cut_off.ensures.indexed (c.loop-gone.invariant.indexed i);
      spaces = c.cut_off.ensures.spaces ∙ c.loop-gone.invariant.spaces;
    }

pub returns : goal.returns
returns c =
    let e = gone_ends c.args.nodes.now.slots c.loop-gone.nodes.slots c.args.top c.in-Some.head.depth c.loop-gone.at c.loop-gone.gone c.loop-gone.invariant.gone in
    let s = c.capacity-gone-end.ensures.above in
    let f = c.loop-gone-test.false in
    absurd (omega (arith, e, s, f))

pub deeper-requires : goal.deeper-requires
deeper-requires c = λ key is. gone_there c.args.nodes.now.slots c.loop-gone.nodes.slots c.args.top c.in-Some.head.depth c.loop-gone.gone key c.loop-gone.at c.loop-gone.invariant.gone is
