-- The end of a space, by keys and by places.
use Rattle.std.proofs.Common.{◌≡◌, ℕ, ◌<◌, true, Option, Some, None, inl, inr, refl, sym, ap, ◌∙◌, subst, option_and_then, option_map, List, arith}
use Rattle.std.specs.FinSet as set
use Rattle.l4_spaces.specs.Tables.{space_pages}
use Rattle.l4_nodes.specs.declared.Place.{Place as LinkPlace}
use Rattle.l4_links.specs.declared.Standing.{Standing}
use Rattle.l4_links.specs.declared.Entry.{Entry}
use Rattle.l4_links.specs.Entries.{Linked, entry_at, IsAt, HavePlaces, AreTrees}
use Rattle.l4_mapdb.specs.declared.Place.{Place}
use Rattle.l4_forest.specs.Losing.{EndsSpace, GoesWithSpace}
use Rattle.l4_forest.proofs.ForestEnds.{ends_keeps}
use Rattle.l4_mapdb.proofs.Unique.{same_value}
use Rattle.l4_forest.specs.declared.Forest.TheInside.{Inside}
use Rattle.l4_mapdb.specs.View.{link_place, map_place, place_at, mapping_of, mappings_of}
use Rattle.l4_mapdb.specs.Delivering.{IsClean, RootsKnown}
use Rattle.l4_forest.specs.Inside.Kept.{IsKept}
use Rattle.l4_forest.specs.Inside.Cuts.{IsPageKey, IsCovered, TakesKeys}
use Rattle.l4_mapdb.proofs.View.{at_place, some_entry, some_standing, stands_at, shown_by_key, key_above, descends_by_key}

module _ (space : ℕ) (old new : Linked) (have : HavePlaces old) (trees : AreTrees old.entries) (have_new : HavePlaces new) (trees_new : AreTrees new.entries) (clean : IsClean old)
    (takes : TakesKeys (IsCovered old.entries space 0 space_pages true) old.entries new.entries) where
  left : (key : ℕ) (e : Entry) → entry_at new.entries key ≡ Some e → (entry_at old.entries key ≡ Some e) × ¬ (IsCovered old.entries space 0 space_pages true key)
  left key e at = elim (takes.decided key) [
    | inl g ↦ absurd (let k : ◌≡◌ {A = Option Entry} None (Some e) = sym (takes.gone key g) ∙ at in cc)
    | inr n ↦ (sym (takes.kept key n) ∙ at, n)
  ]

  -- a key goes where its place goes
  goes_place : (key : ℕ) (e : Entry) → entry_at old.entries key ≡ Some e → IsCovered old.entries space 0 space_pages true key → GoesWithSpace (mappings_of old) space (map_place e.place)
  goes_place key e at c =
      let own : Place = record { space = space; page = c.1.page } in (
        own,
        refl,
        elim c.2 [
          | inl self ↦ inl (ap map_place (same_value (sym (at_place old.entries key e at) ∙ ap (λ (k : ℕ). option_map {T = Entry} (λ e. e.place) (entry_at old.entries k)) self.1 ∙ c.1.at)))
          | inr d ↦ inr ((descends_by_key old have trees key c.0 (map_place e.place) own (at_place old.entries key e at) c.1.at).1 d)
        ],
      )

  page_key : (own : Place) (key : ℕ) → own.space ≡ space → IsAt old.entries (link_place own) key → IsPageKey old.entries space 0 space_pages key
  page_key own key same at =
      let e = some_entry old.entries (link_place own) key at in
      let fits : own.page < space_pages = subst (λ (p : LinkPlace). p.page < space_pages) e.2 (have.fits key e.0 e.1) in
      record { page = own.page; from = omega arith; below = fits; at = at ∙ ap (λ (s : ℕ). Some (record { space = s; page = own.page })) same }

  goes_key : (key : ℕ) (e : Entry) → entry_at old.entries key ≡ Some e → GoesWithSpace (mappings_of old) space (map_place e.place) → IsCovered old.entries space 0 space_pages true key
  goes_key key e at g = elim g.2 [
    | inl same ↦
        let here : IsAt old.entries (link_place g.0) key = at_place old.entries key e at ∙ ap (λ (p : Place). Some (link_place p)) same in
        (key, page_key g.0 key g.1 here, inl (refl, refl))
    | inr d ↦ let k = key_above old have d key (at_place old.entries key e at) in (k.0, page_key g.0 k.0 g.1 k.1, inr k.2)
  ]

  parent_same : (key : ℕ) (e : Entry) (t : Standing) → entry_at new.entries key ≡ Some e → e.stands ≡ Some t
      → (parent : Option ℕ) → t.parent ≡ parent → option_and_then (place_at new.entries) parent ≡ option_and_then (place_at old.entries) parent
  parent_same key e t at stands None up = refl
  parent_same key e t at stands (Some p) up =
      let above = trees_new.parents key t p (stands_at new.entries key e t at stands) up in
      let here = some_standing new.entries p above.above above.at in
      ap (option_map {T = Entry} (λ e. map_place e.place)) (here.1 ∙ sym (left p here.0 here.1).0)

  mapping_same : (key : ℕ) (e : Entry) (t : Standing) → entry_at new.entries key ≡ Some e → e.stands ≡ Some t → mapping_of new.entries t ≡ mapping_of old.entries t
  mapping_same key e t at stands = ap (λ (p : Option Place). record { frame = t.frame; rights = t.rights; parent = p }) (parent_same key e t at stands t.parent refl)

  pub ends_places : new.spaces ≡ set.remove old.spaces space → EndsSpace space (mappings_of old) (mappings_of new)
  ends_places spaces = record {
    spaces = spaces;
    places = λ place m. (
      λ h.
          let u = (shown_by_key new have_new place m).0 h in
          let was = left u.key u.entry u.at in (
            (shown_by_key old have place m).1 (record {
              key = u.key;
              entry = u.entry;
              standing = u.standing;
              at = was.0;
              place_is = u.place_is;
              stands = u.stands;
              mapping = sym (mapping_same u.key u.entry u.standing u.at u.stands) ∙ u.mapping;
            }),
            λ g. was.1 (goes_key u.key u.entry was.0 (subst (λ (p : LinkPlace). GoesWithSpace (mappings_of old) space (map_place p)) (sym u.place_is) g)),
          ),
      λ h.
          let u = (shown_by_key old have place m).0 h.0 in
          let stays : ¬ (IsCovered old.entries space 0 space_pages true u.key) =
          λ c. h.1 (subst (λ (p : LinkPlace). GoesWithSpace (mappings_of old) space (map_place p)) u.place_is (goes_place u.key u.entry u.at c)) in
          let at = takes.kept u.key stays ∙ u.at in
          (shown_by_key new have_new place m).1 (record {
            key = u.key;
            entry = u.entry;
            standing = u.standing;
            at = at;
            place_is = u.place_is;
            stands = u.stands;
            mapping = mapping_same u.key u.entry u.standing at u.stands ∙ u.mapping;
          }),
    );
  }

  pub clean_left : IsClean new
  clean_left key e at = clean key e (left key e at).0

  pub roots_left : (roots : List ℕ) → RootsKnown old.entries roots → RootsKnown new.entries roots
  roots_left roots known key t at top =
      let e = some_standing new.entries key t at in
      known key t (stands_at old.entries key e.0 t (left key e.0 e.1).0 e.2) top

-- what is kept
pub kept_ended : (space : ℕ) (a : Inside) (new : Linked) → HavePlaces a.links → AreTrees a.links.entries → HavePlaces new → AreTrees new.entries → IsKept a
    → TakesKeys (IsCovered a.links.entries space 0 space_pages true) a.links.entries new.entries → new.spaces ≡ set.remove a.links.spaces space → IsKept (record { links = new; roots = a.roots })
kept_ended space a new have trees have_new trees_new kept takes spaces = record {
  clean = clean_left space a.links new have trees have_new trees_new kept.clean takes;
  known = roots_left space a.links new have trees have_new trees_new kept.clean takes a.roots.items kept.known;
  forest = ends_keeps space (mappings_of a.links) (mappings_of new) kept.forest (ends_places space a.links new have trees have_new trees_new kept.clean takes spaces);
}
