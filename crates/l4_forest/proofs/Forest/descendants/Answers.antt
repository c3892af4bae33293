use Rattle.std.proofs.Common.{◌≡◌, ◌∙◌, ℕ, List, map, Option, Some, None, refl, sym, ap, subst}
use Rattle.l4_links.specs.ListOf.{IsListOf}
use Rattle.l4_links.specs.Entries as links
use Rattle.l4_mapdb.specs.declared.Place.{Place}
use Rattle.l4_mapdb.specs.Mappings.{Descends}
use Rattle.l4_mapdb.specs.View.{mappings_of}
use Rattle.l4_forest.specs.Inside.Listed.{place_under}
use Rattle.l4_forest.proofs.Below.{none_below, all_below}
use Rattle.l4_forest.proofs.Forest.descendants.Goals as goal

pub returns-in_default : goal.returns-in_default
returns-in_default c = rw (← c.self.view_is)
    (subst (λ (places : List Place). IsListOf (λ (low : Place). Descends (mappings_of c.self.inside.links) low c.args.from) places) (sym c.new.ensures.items)
    (none_below c.self.inside.links c.law_places.ensures c.args.from (λ key at. let k : ◌≡◌ {A = Option ℕ} None (Some key) = (c.in_default.ensures key).1 at in cc)))

pub returns : goal.returns
returns c = rw (← c.self.view_is)
    (subst (λ (places : List Place). IsListOf (λ (low : Place). Descends (mappings_of c.self.inside.links) low c.args.from) places) (sym c.in_ok-places.ensures)
    (all_below c.self.inside.links c.law_places.ensures c.law_trees.ensures c.args.from c.in-Some.key c.as_slice.result.now ((c.in-Some.ensures c.in-Some.key).0 refl)
    (subst (λ (keys : List ℕ). IsListOf (λ (low : ℕ). links.Descends c.self.inside.links.entries low c.in-Some.key) keys) (sym c.as_slice.ensures.value) c.in_ok-keys.ensures)))
