use Rattle.std.proofs.Common.{◌∙◌, refl, subst, ℕ, arith}
use Rattle.l4_mapdb.specs.Inside.Cutting.{Tidies}
use Rattle.l4_mapdb.specs.Inside.Messages.{InPages}
use Rattle.l4_mapdb.proofs.Moves.{at_there}
use Rattle.l4_mapdb.proofs.Tidying.{pages_first, pages_on, pages_more}
use Rattle.l4_mapdb.proofs.unmarking.tidy_block.Goals as goal

pub loop-page-init : goal.loop-page-init
loop-page-init c = record { tidies = pages_first c.args.space c.args.block.first c.args.links.now.entries; begun = omega arith; within = omega (arith, c.end_of-end.ensures.is); spaces = refl }

pub returns-in_default : goal.returns-in_default
returns-in_default c = record {
  tidies = subst (λ (n : ℕ). Tidies (InPages c.args.space c.args.block.first n) c.args.links.now.entries c.loop-page.links.entries) c.end_of-end.ensures.is
      (pages_on c.args.space c.args.block.first c.loop-page.start c.end_of-end.result c.args.links.now.entries c.loop-page.links.entries c.loop-page.invariant.within c.in_default.ensures c.loop-page.invariant.tidies);
  spaces = c.loop-page.invariant.spaces;
}

pub loop-page-preserved : goal.loop-page-preserved
loop-page-preserved c = record {
  tidies = pages_more c.args.space c.args.block.first c.loop-page.start c.end_of-end.result c.in-Some.page c.args.links.now.entries c.loop-page.links.entries c.tidy_key.new.links.entries
      c.loop-page.invariant.begun c.in-Some.ensures.0 (c.tidy_key.ensures.tidies _ c.in-Some.ensures.1) c.loop-page.invariant.tidies;
  begun = omega (arith, c.loop-page.invariant.begun, c.in-Some.ensures.0.from);
  within = omega (arith, c.in-Some.ensures.0.before);
  spaces = c.tidy_key.ensures.spaces ∙ c.loop-page.invariant.spaces;
}

pub tidy_key-requires : goal.tidy_key-requires
tidy_key-requires c = at_there c.loop-page.links.entries c.in-Some.key _ ((c.in-Some.ensures.1 c.in-Some.key).0 refl)
