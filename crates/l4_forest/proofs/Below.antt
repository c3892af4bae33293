-- The places of the keys that descend from a key are those that descend from its place.
use Rattle.std.proofs.Common.{◌≡◌, ℕ, zero, suc, List, [], ◌∷◌, map, slice_get, Option, Some, None, option_map, option_and_then, refl, sym, ap, ◌∙◌, subst}
use Rattle.std.specs.Option.{option_map_or}
use Rattle.l4_nodes.specs.declared.Place.{Place as LinkPlace}
use Rattle.l4_links.specs.declared.Entry.{Entry}
use Rattle.l4_links.specs.Leads.{step, steps}
use Rattle.l4_links.specs.ListOf.{IsListOf}
use Rattle.l4_links.specs.Entries.{Entries, Linked, IsAt, HavePlaces, AreTrees}
use Rattle.l4_links.specs.Entries as links
use Rattle.l4_links.proofs.Listing.{list_of_none}
use Rattle.l4_mapdb.specs.declared.Place.{Place}
use Rattle.l4_mapdb.specs.declared.Mapping.{Mapping}
use Rattle.l4_mapdb.specs.Mappings.{shown, parent_of, Descends, child, further}
use Rattle.l4_mapdb.specs.View.{link_place, map_place, place_at, mappings_of}
use Rattle.l4_mapdb.proofs.View.{at_place, some_entry, some_standing, some_parent, shown_by_key, descends_by_key, key_above}
use Rattle.l4_forest.specs.Inside.Listed.{place_under}

get_map : {A B : Type 0} (f : A → B) (xs : List A) (i : ℕ) → slice_get (map f xs) i ≡ option_map f (slice_get xs i)
get_map f [] i = refl
get_map f (x ∷ xs) zero = refl
get_map f (x ∷ xs) (suc i) = get_map f xs i

-- what is mapped to this value
mapped : {A B : Type 0} (f : A → B) (o : Option A) (y : B) → option_map f o ≡ Some y → (x : A) × (o ≡ Some x) × (f x ≡ y)
mapped {A} {B} f None y e = absurd (let w : ◌≡◌ {A = Option B} None (Some y) = e in cc)
mapped {A} {B} f (Some x) y e = (x, refl, (let w : ◌≡◌ {A = Option B} (Some (f x)) (Some y) = e in cc))

under_at : (s : Entries) (place : Place) (key : ℕ) → IsAt s (link_place place) key → place_under s key ≡ place
under_at s place key at =
    let e = some_entry s (link_place place) key at in
    ap (λ (o : Option Place). option_map_or (λ (p : Place). p) o (record { space = 0; page = 0 })) (ap (option_map {T = Entry} (λ e. map_place e.place)) e.1) ∙ ap map_place e.2

-- a key that has a parent has a place
parent_place : (s : Entries) (low up : ℕ) → links.parent_of s low ≡ Some up → (place : Place) × IsAt s (link_place place) low
parent_place s low up is =
    let t = some_parent s low up is in
    let e = some_standing s low t.0 t.1 in
    (map_place e.0.place, at_place s low e.0 e.1)

-- and so has one that descends
has_place : (s : Entries) {low high : ℕ} → links.Descends s low high → (place : Place) × IsAt s (link_place place) low
has_place s {low} {high} (step up) = parent_place s low high up
has_place s {low} {high} (steps {middle = c} up rest) = parent_place s low c up

module _ (s : Linked) (have : HavePlaces s) where
  -- a place that has a parent has a key
  parent_key : (low up : Place) → parent_of (mappings_of s) low ≡ Some up → (key : ℕ) × IsAt s.entries (link_place low) key
  parent_key low up is =
      elim (shown (mappings_of s) low) as (λ o. shown (mappings_of s) low ≡ o → option_and_then (λ (m : Mapping). m.parent) o ≡ Some up → (key : ℕ) × IsAt s.entries (link_place low) key) [
        | None ↦ λ at h. absurd (let w : ◌≡◌ {A = Option Place} None (Some up) = h in cc)
        | Some m ↦ λ at h.
            let u = (shown_by_key s have low m).0 at in
            (u.key, at_place s.entries u.key u.entry u.at ∙ ap (λ (p : LinkPlace). Some p) u.place_is)
      ] refl is

  -- and so has one that descends
  has_key : {low high : Place} → Descends (mappings_of s) low high → (key : ℕ) × IsAt s.entries (link_place low) key
  has_key {low} {high} (child up) = parent_key low high up
  has_key {low} {high} (further {middle = c} up rest) = parent_key low c up

  -- nothing descends from a page without a key
  pub none_below : (high : Place) → ((key : ℕ) → ¬ (IsAt s.entries (link_place high) key)) → IsListOf (λ (low : Place). Descends (mappings_of s) low high) []
  none_below high none = list_of_none (λ (low : Place). Descends (mappings_of s) low high) (λ low d.
      let k = has_key d in
      let above = key_above s have d k.0 k.1 in
      none above.0 above.1)

  -- the places of the keys that descend from the page's key
  pub all_below : AreTrees s.entries → (high : Place) (key : ℕ) (keys : List ℕ) → IsAt s.entries (link_place high) key → IsListOf (λ (low : ℕ). links.Descends s.entries low key) keys
      → IsListOf (λ (low : Place). Descends (mappings_of s) low high) (map (place_under s.entries) keys)
  all_below trees high key keys at list = record {
    each = λ place. (
      λ d.
          let k = has_key d in
          let g = (list.each k.0).0 ((descends_by_key s have trees k.0 key place high k.1 at).0 d) in
          (g.0, get_map (place_under s.entries) keys g.0 ∙ ap (option_map (place_under s.entries)) g.1 ∙ ap (λ (p : Place). Some p) (under_at s.entries place k.0 k.1)),
      λ g.
          let k = mapped (place_under s.entries) (slice_get keys g.0) place (sym (get_map (place_under s.entries) keys g.0) ∙ g.1) in
          let d = (list.each k.0).1 (g.0, k.1) in
          let p = has_place s.entries d in
          let same : p.0 ≡ place = sym (under_at s.entries p.0 k.0 p.1) ∙ k.2 in
          subst (λ (q : Place). Descends (mappings_of s) q high) same ((descends_by_key s have trees k.0 key p.0 high p.1 at).1 d),
    );
    once = λ i j place e f.
        let a = mapped (place_under s.entries) (slice_get keys i) place (sym (get_map (place_under s.entries) keys i) ∙ e) in
        let b = mapped (place_under s.entries) (slice_get keys j) place (sym (get_map (place_under s.entries) keys j) ∙ f) in
        let at_a = placed a.0 (i, a.1) place a.2 in
        let at_b = placed b.0 (j, b.1) place b.2 in
        let same : a.0 ≡ b.0 = have.once (link_place place) a.0 b.0 at_a at_b in
        list.once i j a.0 a.1 (b.1 ∙ ap (λ (k : ℕ). Some k) (sym same));
  }
    where
      placed : (low : ℕ) → ((i : ℕ) × (slice_get keys i ≡ Some low)) → (place : Place) → place_under s.entries low ≡ place → IsAt s.entries (link_place place) low
      placed low g place is =
          let p = has_place s.entries ((list.each low).1 g) in
          subst (λ (q : Place). IsAt s.entries (link_place q) low) (sym (under_at s.entries p.0 low p.1) ∙ is) p.1
