use Rattle.std.proofs.Common.{false}
use Rattle.l4_forest.proofs.Passing.{no_parents}
use Rattle.l4_forest.proofs.Taken.{taken_first, taken_more, taken_all, taken_clean, taken_there}
use Rattle.l4_forest.proofs.taking.cut_pages.Goals as goal

pub loop-page-init : goal.loop-page-init
loop-page-init c = taken_first c.args.space c.args.first c.args.end false c.args.links.now c.requires.rising

pub returns-in_default-clause-takes : goal.returns-in_default-clause-takes
returns-in_default-clause-takes c =
    taken_all c.args.space c.args.first c.args.end false c.args.links.now c.loop-page.links c.loop-page.next c.loop-page.invariant
    (no_parents c.loop-page.links.entries c.args.space c.loop-page.next c.args.end c.in_default.ensures)

pub take_key-requires : goal.take_key-requires
take_key-requires c = record {
  clean = taken_clean c.args.space c.args.first c.args.end false c.args.links.now c.loop-page.links c.loop-page.next c.loop-page.invariant c.requires.clean;
  there = taken_there c.args.space c.args.first c.args.end false c.args.links.now c.loop-page.links c.loop-page.next c.loop-page.invariant c.in-Some.page c.in-Some.key c.in-Some.ensures.at;
}

pub loop-page-preserved : goal.loop-page-preserved
loop-page-preserved c =
    taken_more c.args.space c.args.first c.args.end false c.args.links.now c.loop-page.links c.loop-page.next c.loop-page.invariant c.in-Some.page c.in-Some.key
    c.law_places.ensures c.in-Some.ensures.from c.in-Some.ensures.before (no_parents c.loop-page.links.entries c.args.space c.loop-page.next c.in-Some.page c.in-Some.ensures.least)
    c.in-Some.ensures.at c.take_key.new.links c.take_key.ensures.takes c.take_key.ensures.spaces
