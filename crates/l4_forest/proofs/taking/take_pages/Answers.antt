use Rattle.std.proofs.Common.{refl}
use Rattle.l4_forest.proofs.Passing.{no_keys, before_key}
use Rattle.l4_forest.proofs.Taken.{taken_first, taken_more, taken_all, taken_clean, taken_there}
use Rattle.l4_forest.proofs.taking.take_pages.Goals as goal

pub loop-page-init : goal.loop-page-init
loop-page-init c = taken_first c.args.space c.args.first c.args.end c.args.with_self c.args.links.now c.requires.rising

pub returns-in_default-clause-takes : goal.returns-in_default-clause-takes
returns-in_default-clause-takes c =
    taken_all c.args.space c.args.first c.args.end c.args.with_self c.args.links.now c.loop-page.links c.loop-page.next c.loop-page.invariant
    (no_keys c.loop-page.links.entries c.args.space c.args.with_self c.loop-page.next c.args.end c.in_default.ensures)

pub take_key-requires : goal.take_key-requires
take_key-requires c = record {
  clean = taken_clean c.args.space c.args.first c.args.end c.args.with_self c.args.links.now c.loop-page.links c.loop-page.next c.loop-page.invariant c.requires.clean;
  there = taken_there c.args.space c.args.first c.args.end c.args.with_self c.args.links.now c.loop-page.links c.loop-page.next c.loop-page.invariant c.in-Some.page c.in-Some.key ((c.in-Some.ensures.1 c.in-Some.key).0 refl);
}

pub loop-page-preserved : goal.loop-page-preserved
loop-page-preserved c =
    taken_more c.args.space c.args.first c.args.end c.args.with_self c.args.links.now c.loop-page.links c.loop-page.next c.loop-page.invariant c.in-Some.page c.in-Some.key
    c.law_places.ensures c.in-Some.ensures.0.from c.in-Some.ensures.0.before
    (before_key c.loop-page.links.entries c.args.space c.args.with_self c.loop-page.next c.args.end c.in-Some.page c.in-Some.ensures.0) ((c.in-Some.ensures.1 c.in-Some.key).0 refl) c.take_key.new.links c.take_key.ensures.takes c.take_key.ensures.spaces
