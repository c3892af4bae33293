use Rattle.std.proofs.Common.{ℕ, sym, ◌∙◌, subst, arith, Option}
use Rattle.std.proofs.lemmas.Bool.{false≢true}
use Rattle.l4_links.specs.Inside.Nodes.{NoSource}
use Rattle.l4_links.proofs.Walking.{walking_ends}
use Rattle.l4_links.proofs.Seeking.{SeekSoFar, seek_first, seek_more, seek_found, sought}
use Rattle.l4_links.proofs.Walking.{walking_there}
use Rattle.l4_links.proofs.walks.has_source.Goals as goal

pub loop-init : goal.loop-init
loop-init c = seek_first c.args.nodes.now.slots c.args.top c.args.stamp c.in-Some.head c.requires.seen c.requires.stamped (sym c.node_of.ensures ∙ c.in-Some.is)

pub returns-in_default-deeper-clause-no : goal.returns-in_default-deeper-clause-no
returns-in_default-deeper-clause-no c = λ _.
    sought c.args.nodes.now.slots c.loop.nodes.slots c.close.new.nodes.slots c.args.top c.args.stamp c.loop.counter c.in-Some.head c.loop.at (sym c.node_of.ensures ∙ c.in-Some.is) c.loop.invariant
    (c.deeper.ensures.ends c.in_default-deeper.is) c.close.ensures

pub returns-then-node-clause-yes : goal.returns-then-node-clause-yes
returns-then-node-clause-yes c =
    let old = c.args.nodes.now.slots in
    let cur = c.loop.nodes.slots in
    let goes = c.in-Some-deeper.ensures.goes in
    let so_far = subst (λ (o : Option ℕ). SeekSoFar old cur c.args.top c.in-Some.head.depth c.args.stamp o c.loop.counter) goes.0 c.loop.invariant in
    λ _. seek_found old cur c.args.top c.args.stamp c.loop.counter c.in-Some-deeper.key c.in-Some.head c.in-Some-deeper.node so_far (sym c.node_of.ensures ∙ c.in-Some.is) goes.1 goes.2 c.if-node.true

pub loop-preserved : goal.loop-preserved
loop-preserved c =
    let old = c.args.nodes.now.slots in
    let cur = c.loop.nodes.slots in
    let goes = c.in-Some-deeper.ensures.goes in
    let so_far = subst (λ (o : Option ℕ). SeekSoFar old cur c.args.top c.in-Some.head.depth c.args.stamp o c.loop.counter) goes.0 c.loop.invariant in
    seek_more old cur c.see.new.nodes.slots c.args.top c.in-Some.head.depth c.args.stamp c.loop.counter c.in-Some-deeper.key c.in-Some-deeper.node c.onward-at.result so_far
    goes.1 goes.2 (λ e. false≢true (sym c.if-node.false ∙ e)) c.see.ensures c.onward-at.ensures.over c.onward-at.ensures.on c.onward-at.ensures.none

pub returns-clause-no : goal.returns-clause-no
returns-clause-no c =
    let cur = c.loop.nodes.slots in
    let w = c.loop.invariant in
    let e = walking_ends (NoSource cur) c.args.stamp c.args.nodes.now.slots cur w.keys c.args.top c.in-Some.head.depth c.loop.counter c.loop.at w.is w.still.limbs_same w.still.links_same in
    let s = c.capacity-end.ensures.above in
    let f = c.loop-test.false in
    absurd (omega (arith, e, s, f))

pub deeper-requires : goal.deeper-requires
deeper-requires c = λ key is. walking_there (NoSource c.loop.nodes.slots) c.args.stamp c.loop.nodes.slots c.loop.invariant.keys c.args.top c.in-Some.head.depth c.loop.counter key c.loop.at c.loop.invariant.is is
