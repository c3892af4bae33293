use Rattle.std.proofs.Common.{false}
use Rattle.l4_forest.proofs.Passing.{no_parents}
use Rattle.l4_forest.proofs.Capped.{capped_first, capped_more, capped_all}
use Rattle.l4_forest.proofs.revoking.cap_below_pages.Goals as goal

pub loop-page-init : goal.loop-page-init
loop-page-init c = capped_first c.args.space c.args.first c.args.end false c.args.cap c.args.links.now c.requires

pub returns-in_default-clause-caps : goal.returns-in_default-clause-caps
returns-in_default-clause-caps c =
    capped_all c.args.space c.args.first c.args.end false c.args.cap c.args.links.now c.loop-page.links c.loop-page.next c.loop-page.invariant
    (no_parents c.loop-page.links.entries c.args.space c.loop-page.next c.args.end c.in_default.ensures)

pub loop-page-preserved : goal.loop-page-preserved
loop-page-preserved c =
    capped_more c.args.space c.args.first c.args.end false c.args.cap c.args.links.now c.loop-page.links c.cap_key.new.links c.loop-page.next c.in-Some.page c.in-Some.key
    c.law_places.ensures c.loop-page.invariant c.in-Some.ensures.from c.in-Some.ensures.before (no_parents c.loop-page.links.entries c.args.space c.loop-page.next c.in-Some.page c.in-Some.ensures.least)
    c.in-Some.ensures.at c.cap_key.ensures.caps c.cap_key.ensures.spaces
