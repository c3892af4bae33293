use Rattle.std.proofs.Common.{◌∙◌, ◌++◌, ◌∷◌, [], ℕ, ap, refl}
use Rattle.l4_forest.proofs.FirstPlaces.{owns_none, owns_free, owns_more}
use Rattle.l4_forest.proofs.booting.own_places.Goals as goal

pub loop-frame-init : goal.loop-frame-init
loop-frame-init c = (owns_none c.args.links.now.entries c.args.roots.now.items c.requires.empty c.requires.no_roots, refl)

pub add_blank-requires-clause-free : goal.add_blank-requires-clause-free
add_blank-requires-clause-free c = owns_free c.loop-frame.frame c.loop-frame.links.entries c.loop-frame.roots.items c.loop-frame.invariant.0

pub loop-frame-preserved : goal.loop-frame-preserved
loop-frame-preserved c = (
  owns_more c.loop-frame.frame c.loop-frame.links.entries c.add_blank.new.self.entries c.stand_root.new.self.entries c.loop-frame.roots.items c.push.new.self.items c.in_ok-key.key c.all.result
      c.loop-frame.invariant.0 c.in_ok-key.ensures.ok c.all.ensures c.stand_root.ensures.stands (c.in_ok-push.ensures.items ∙ ap (λ (k : ℕ). c.loop-frame.roots.items ++ k ∷ []) c.in_ok-short_key.ensures.kept),
  c.stand_root.ensures.spaces ∙ c.in_ok-key.ensures.spaces ∙ c.loop-frame.invariant.1,
)
