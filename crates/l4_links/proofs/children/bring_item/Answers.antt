use Rattle.std.proofs.Common.{◌≤◌, ℕ, sym, ◌∙◌, arith}
use Rattle.l4_spaces.specs.Rows.{NoneIn}
use Rattle.l4_links.specs.Inside.Growing.{BringsPages}
use Rattle.l4_links.proofs.PageRuns.{none_shares, pages_left, pages_joined}
use Rattle.l4_links.proofs.Writes.{no_some}
use Rattle.l4_links.proofs.children.bring_item.Goals.{After-next_page}
use Rattle.l4_links.proofs.children.bring_item.Goals as goal

pub loop-next-init : goal.loop-next-init
loop-next-init c = record {
  from = omega arith;
  before = c.requires.rising;
  brings = none_shares c.args.of.now c.args.of.now.source.page c.args.of.now.source.page c.args.sources.now.items c.args.targets.now.items c.args.nodes.now (λ k other ge lt. absurd (omega (arith, ge, lt))) (omega arith);
}

pub next_page-requires-clause-whole : goal.next_page-requires-clause-whole
next_page-requires-clause-whole c = let can = c.requires.can in (c.loop-next.invariant.brings.brings can.pages can.first can.head can.stamp can.all can.growing).1.source.whole

pub next_page-requires-clause-full : goal.next_page-requires-clause-full
next_page-requires-clause-full c = let can = c.requires.can in (c.loop-next.invariant.brings.brings can.pages can.first can.head can.stamp can.all can.growing).1.source.full

-- no page from the last one on and below this one has a key
up_to : (c : After-next_page) (next : ℕ) → c.loop-next.page ≤ next → NoneIn c.loop-next.sources.items c.loop-next.page next
    → BringsPages c.args.of.now c.args.of.now.source.page next c.args.sources.now.items c.loop-next.sources.items c.args.targets.now.items c.loop-next.targets.items c.args.nodes.now c.loop-next.nodes
up_to c next le none =
    pages_joined c.args.of.now c.args.of.now.source.page c.args.sources.now.items c.args.targets.now.items c.args.nodes.now c.requires.can c.loop-next.page c.loop-next.invariant.from c.loop-next.invariant.before
    c.loop-next.sources.items c.loop-next.targets.items c.loop-next.nodes c.loop-next.invariant.brings next le c.loop-next.sources.items c.loop-next.targets.items c.loop-next.nodes
    (none_shares c.args.of.now c.loop-next.page next c.loop-next.sources.items c.loop-next.targets.items c.loop-next.nodes (λ k other ge lt shows. absurd (no_some k (sym (none other ge lt) ∙ shows))) le)

pub returns-in_default : goal.returns-in_default
returns-in_default c = up_to (goal.at.returns-in_default c).After-next_page c.args.of.now.end c.loop-next.invariant.before c.in_default.ensures

pub bring_from-page-requires-clause-can : goal.bring_from-page-requires-clause-can
bring_from-page-requires-clause-can c =
    let at = (goal.at.bring_from-page-requires-clause-can c).After-next_page in
    let found = c.in-Some.ensures in
    let from = c.loop-next.invariant.from in
    let le = found.from in
    let lt = found.before in
    pages_left c.args.of.now c.args.of.now.source.page c.args.sources.now.items c.args.targets.now.items c.args.nodes.now c.requires.can c.in-Some.next (omega (arith, from, le)) (omega (arith, lt))
    c.loop-next.sources.items c.loop-next.targets.items c.loop-next.nodes (up_to at c.in-Some.next found.from found.least)

pub loop-next-preserved : goal.loop-next-preserved
loop-next-preserved c =
    let at = (goal.at.loop-next-preserved c).After-next_page in
    let found = c.in-Some.ensures in
    let from = c.loop-next.invariant.from in
    let le = found.from in
    let lt = found.before in
    let next = c.bring_from-page.ensures.next in
    let less = next.0 in
    record {
      from = omega (arith, less, from, le);
      before = next.1;
      brings =
          pages_joined c.args.of.now c.args.of.now.source.page c.args.sources.now.items c.args.targets.now.items c.args.nodes.now c.requires.can c.in-Some.next (omega (arith, from, le)) (omega (arith, lt))
          c.loop-next.sources.items c.loop-next.targets.items c.loop-next.nodes (up_to at c.in-Some.next found.from found.least) c.bring_from-page.result (omega (arith, less))
          c.bring_from-page.new.sources.items c.bring_from-page.new.targets.items c.bring_from-page.new.nodes c.bring_from-page.ensures.brings;
    }
