use Rattle.std.proofs.Common.{◌≡◌, ◌+◌, ◌++◌, ◌∷◌, [], ℕ, List, length, sym, ap, ◌∙◌, subst, arith, length-append}
use Rattle.l4_links.proofs.Cutting.{HasPassed, passed_first, passed_more, passed_ends}
use Rattle.l4_links.proofs.Listing.{passed_all}
use Rattle.l4_links.proofs.Cutting.{passed_there}
use Rattle.l4_links.proofs.walks.keys_below.Goals as goal

pub loop-init : goal.loop-init
loop-init c =
    let items = c.new-keys.ensures.items in
    let first = passed_first c.args.nodes.now.slots c.requires.forest.0 c.args.top c.in-Some.head c.requires.forest.1 (sym c.node_of.ensures ∙ c.in-Some.is) in
    (subst (λ (z : List ℕ). HasPassed c.args.nodes.now.slots c.args.top c.in-Some.head.depth c.in-Some.head.next z) (sym items) first, ap length items)

pub returns-in_default-deeper : goal.returns-in_default-deeper
returns-in_default-deeper c =
    passed_all c.args.nodes.now.slots c.args.top c.loop.at c.loop.keys.items c.in-Some.head c.loop.invariant.0 (sym c.node_of.ensures ∙ c.in-Some.is) (c.deeper.ensures.ends c.in_default-deeper.is)

pub loop-preserved : goal.loop-preserved
loop-preserved c =
    let items : c.push.new.self.items ≡ c.loop.keys.items ++ c.in-Some-deeper.key ∷ [] = c.in_ok-push.ensures.items in
    let goes = c.in-Some-deeper.ensures.goes in
    let more = passed_more c.args.nodes.now.slots c.args.top c.in-Some.head.depth c.in-Some-deeper.key c.loop.at c.in-Some-deeper.node c.loop.keys.items c.loop.invariant.0 goes.0 goes.1 goes.2 in
    let long : length (c.loop.keys.items ++ c.in-Some-deeper.key ∷ []) ≡ length c.loop.keys.items + length (c.in-Some-deeper.key ∷ []) = length-append c.loop.keys.items (c.in-Some-deeper.key ∷ []) in
    let one : length (c.in-Some-deeper.key ∷ []) ≡ 1 = omega arith in
    let count = c.loop.invariant.1 in
    let grown : length c.push.new.self.items ≡ length (c.loop.keys.items ++ c.in-Some-deeper.key ∷ []) = ap length items in
    (subst (λ (z : List ℕ). HasPassed c.args.nodes.now.slots c.args.top c.in-Some.head.depth c.in-Some-deeper.node.next z) (sym items) more, omega (arith, grown, long, one, count))

pub returns : goal.returns
returns c =
    let e = passed_ends c.args.nodes.now.slots c.args.top c.in-Some.head.depth c.loop.at c.loop.keys.items c.loop.invariant.0 in
    let s = c.capacity-end.ensures.above in
    let f = c.loop-test.false in
    let n = c.loop.invariant.1 in
    absurd (omega (arith, e, s, f, n))

pub deeper-requires : goal.deeper-requires
deeper-requires c = λ key is. passed_there c.args.nodes.now.slots c.args.top c.in-Some.head.depth key c.loop.at c.loop.keys.items c.loop.invariant.0 is
