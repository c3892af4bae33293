use Rattle.std.proofs.Common.{arith}
use Rattle.l4_links.proofs.Wanting.{makes_none, makes_more, pages_none, pages_passed, pages_more}
use Rattle.l4_links.proofs.wants.wants_item.Goals as goal

pub loop-next-init : goal.loop-next-init
loop-next-init c = record {
  pages = pages_none c.args.of.now c.args.of.now.source.page c.args.of.now.source.page c.args.sources.now.items c.args.targets.now.items c.args.nodes.now.slots (omega arith) (λ other ge lt. absurd (omega (arith, ge, lt)));
  few = omega arith;
  before = c.requires.rising;
  makes = makes_none c.args.targets.now.items c.requires.whole c.requires.full;
}

pub returns-in_default-clause-wants : goal.returns-in_default-clause-wants
returns-in_default-clause-wants c =
    pages_passed c.args.of.now c.args.of.now.source.page c.loop-next.page c.args.of.now.end c.args.sources.now.items c.loop-next.targets.items c.loop-next.slots c.loop-next.changes c.args.nodes.now.slots
    c.loop-next.invariant.pages c.loop-next.invariant.before c.in_default.ensures

pub loop-next-preserved : goal.loop-next-preserved
loop-next-preserved c =
    let found = c.in_ok-after.ensures.wants in
    let pages = pages_more c.args.of.now c.args.of.now.source.page c.loop-next.page c.in-Some.next c.in_ok-after.after c.args.sources.now.items c.loop-next.targets.items c.wants_from.new.targets.items
    c.loop-next.slots c.in_ok-after.more.slots c.loop-next.changes c.in_ok-after.more.changes c.args.nodes.now.slots c.loop-next.invariant.pages c.in-Some.ensures.from c.in-Some.ensures.least c.wants_from.ensures.makes found.2 in
    let few = pages.few in
    record { pages = pages; few = omega (arith, few); before = found.1; makes = makes_more c.args.targets.now.items c.loop-next.targets.items c.wants_from.new.targets.items c.loop-next.invariant.makes c.wants_from.ensures.makes }
