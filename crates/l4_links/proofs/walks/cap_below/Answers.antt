use Rattle.std.proofs.Common.{sym, ◌∙◌, subst, arith, Option, ℕ}
use Rattle.l4_links.specs.Inside.Nodes.{HasLow}
use Rattle.l4_links.proofs.Walking.{WalkSoFar, walk_first, walk_more, walking_ends, walked}
use Rattle.l4_links.proofs.Stacking.{stack_closed}
use Rattle.l4_links.proofs.Walking.{walking_there}
use Rattle.l4_links.proofs.walks.cap_below.Goals as goal

pub loop-init : goal.loop-init
loop-init c = (walk_first c.args.nodes.now.slots c.args.top c.args.cap c.args.stamp c.in-Some.head c.requires.marks c.requires.stamped (sym c.node_of.ensures ∙ c.in-Some.is), c.requires.stack)

pub returns-in_default-deeper : goal.returns-in_default-deeper
returns-in_default-deeper c =
    let cur = c.loop.nodes.slots in
    let new = c.close.new.nodes.slots in
    let ends = c.deeper.ensures.ends c.in_default-deeper.is in
    let w = walked c.args.nodes.now.slots cur new c.args.top c.args.cap c.args.stamp c.loop.counter c.in-Some.head c.loop.at (sym c.node_of.ensures ∙ c.in-Some.is) c.loop.invariant.0 ends c.close.ensures in
    record { caps = w.0; marks = w.1; stamped = w.2; stack = stack_closed c.args.top c.args.stamp c.loop.at cur new c.loop.doomed c.close.ensures c.loop.invariant.1 }

pub loop-preserved : goal.loop-preserved
loop-preserved c =
    let old = c.args.nodes.now.slots in
    let cur = c.loop.nodes.slots in
    let goes = c.in-Some-deeper.ensures.goes in
    let so_far = subst (λ (o : Option ℕ). WalkSoFar old cur c.args.top c.in-Some.head.depth c.args.cap c.args.stamp o c.loop.counter) goes.0 c.loop.invariant.0 in
    let capped = c.cap_at-doomed.ensures in (
      walk_more old cur c.cap_at-doomed.new.nodes.slots c.args.top c.in-Some.head.depth c.args.cap c.args.stamp c.loop.counter c.in-Some-deeper.key c.in-Some-deeper.node c.onward-at.result so_far
          goes.1 goes.2 capped.caps c.onward-at.ensures.over c.onward-at.ensures.on c.onward-at.ensures.none,
      capped.stack,
    )

pub returns-clause-caps : goal.returns-clause-caps
returns-clause-caps c =
    let cur = c.loop.nodes.slots in
    let w = c.loop.invariant.0 in
    let e = walking_ends (HasLow c.args.cap cur) c.args.stamp c.args.nodes.now.slots cur w.keys c.args.top c.in-Some.head.depth c.loop.counter c.loop.at w.is w.limbs_same w.links_same in
    let s = c.capacity-end.ensures.above in
    let f = c.loop-test.false in
    absurd (omega (arith, e, s, f))

pub deeper-requires : goal.deeper-requires
deeper-requires c = λ key is. walking_there (HasLow c.args.cap c.loop.nodes.slots) c.args.stamp c.loop.nodes.slots c.loop.invariant.0.keys c.args.top c.in-Some.head.depth c.loop.counter key c.loop.at c.loop.invariant.0.is is
