-- What places show, by the keys that stand there.
use Rattle.std.proofs.Common.{◌≡◌, ℕ, zero, suc, true, false, cond, List, [], ◌∷◌, filter_map, Option, Some, None, option_and_then, option_map, ◌↔◌, refl, sym, ap, ◌∙◌, arith}
use Rattle.std.specs.FinMap.{find, get-from_entries}
use Rattle.std.specs.List.{cons_option}
use Rattle.std.specs.Ordering.{eq_by_cmp}
use Rattle.l4_nodes.specs.declared.Place.{Place as LinkPlace}
use Rattle.l4_links.specs.declared.Standing.{Standing}
use Rattle.l4_links.specs.declared.Entry.{Entry}
use Rattle.l4_links.specs.Leads.{step, steps}
use Rattle.l4_links.specs.Entries.{Entries, Linked, entry_at, standing_at, IsAt, HavePlaces, AreTrees}
use Rattle.l4_links.specs.Entries as links
use Rattle.l4_mapdb.specs.declared.Place.{Place}
use Rattle.l4_mapdb.specs.declared.Mapping.{Mapping}
use Rattle.l4_mapdb.specs.Mappings.{place_cmp, shown, parent_of, Descends, child, further}
use Rattle.l4_mapdb.proofs.Places.{places_total, same_option, same_mappings}
use Rattle.l4_mapdb.proofs.EntriesLemmas.{tie, untie}
use Rattle.l4_mapdb.proofs.Unique.{same_value}
use Rattle.l4_mapdb.specs.View.{link_place, map_place, place_at, mapping_of, shown_by, shown_in, mappings_of}
use Rattle.l4_mapdb.specs.Inside.View.{IsShown}

pub same_places : (a b : LinkPlace) → map_place a ≡ map_place b → a ≡ b
same_places a b e = ap link_place e

-- the places where something stands in these slots
abbrev pick : Entries → Entries → List (Place × Mapping)
pick s slots = filter_map (shown_by s) slots

-- this stands in these slots
record IsUnder (s slots : Entries) (q : Place) (m : Mapping) : Type 0 where
  key : ℕ
  entry : Entry
  standing : Standing
  at : entry_at slots key ≡ Some entry
  place_is : map_place entry.place ≡ q
  stands : entry.stands ≡ Some standing
  mapping : mapping_of s standing ≡ m

further_under : (s : Entries) (slot : Option Entry) (slots : Entries) (q : Place) (m : Mapping) → IsUnder s slots q m → IsUnder s (slot ∷ slots) q m
further_under s slot slots q m u = record { key = suc u.key; entry = u.entry; standing = u.standing; at = u.at; place_is = u.place_is; stands = u.stands; mapping = u.mapping }

found_under : (s slots : Entries) (q : Place) (m : Mapping) → find place_cmp q (pick s slots) ≡ Some m → IsUnder s slots q m
found_under s [] q m h = absurd (let k : ◌≡◌ {A = Option Mapping} None (Some m) = h in cc)
found_under s (None ∷ slots) q m h = further_under s None slots q m (found_under s slots q m h)
found_under s (Some e ∷ slots) q m h =
    elim e.stands as (λ v. e.stands ≡ v → find place_cmp q (cons_option (option_map (λ (t : Standing). (map_place e.place, mapping_of s t)) v) (pick s slots)) ≡ Some m → IsUnder s (Some e ∷ slots) q m) [
      | None ↦ λ t is. further_under s (Some e) slots q m (found_under s slots q m is)
      | Some w ↦ λ t is.
          elim (eq_by_cmp place_cmp q (map_place e.place)) as (λ b. eq_by_cmp place_cmp q (map_place e.place) ≡ b → cond b (Some (mapping_of s w)) (find place_cmp q (pick s slots)) ≡ Some m → IsUnder s (Some e ∷ slots) q m) [
            | true ↦ λ same is. record { key = 0; entry = e; standing = w; at = refl; place_is = sym (untie q (map_place e.place) same); stands = t; mapping = same_value is }
            | false ↦ λ same is. further_under s (Some e) slots q m (found_under s slots q m is)
          ] refl is
    ] refl h

-- of a place where something stands something is found
some_found : (s slots : Entries) (key : ℕ) (e : Entry) (t : Standing) → entry_at slots key ≡ Some e → e.stands ≡ Some t
    → (k : Mapping) × (find place_cmp (map_place e.place) (pick s slots) ≡ Some k)
some_found s [] key e t at stands = absurd (let k : ◌≡◌ {A = Option Entry} None (Some e) = at in cc)
some_found s (slot ∷ slots) zero e t at stands = (
  mapping_of s t,
  ap (λ (o : Option Entry). find place_cmp (map_place e.place) (cons_option (shown_by s o) (pick s slots))) at
      ∙ ap (λ (v : Option Standing). find place_cmp (map_place e.place) (cons_option (option_map (λ (t : Standing). (map_place e.place, mapping_of s t)) v) (pick s slots))) stands
      ∙ ap (λ b. cond b (Some (mapping_of s t)) (find place_cmp (map_place e.place) (pick s slots))) (tie (map_place e.place) (map_place e.place) refl),
)
some_found s (slot ∷ slots) (suc key) e t at stands =
    let more = some_found s slots key e t at stands in
    elim (shown_by s slot) as (λ v. (k : Mapping) × (find place_cmp (map_place e.place) (cons_option v (pick s slots)) ≡ Some k)) [
      | None ↦ more
      | Some p ↦ elim (eq_by_cmp place_cmp (map_place e.place) p.0) as (λ b. (k : Mapping) × (cond b (Some p.1) (find place_cmp (map_place e.place) (pick s slots)) ≡ Some k)) [
        | true ↦ (p.1, refl)
        | false ↦ more
      ]
    ]

-- the entry's page has the key
pub at_place : (s : Entries) (key : ℕ) (e : Entry) → entry_at s key ≡ Some e → IsAt s e.place key
at_place s key e at = ap (option_map {T = Entry} (λ e. e.place)) at

pub some_entry : (s : Entries) (place : LinkPlace) (key : ℕ) → IsAt s place key → (e : Entry) × (entry_at s key ≡ Some e) × (e.place ≡ place)
some_entry s place key at = grind arith

pub some_standing : (s : Entries) (key : ℕ) (t : Standing) → standing_at s key ≡ Some t → (e : Entry) × (entry_at s key ≡ Some e) × (e.stands ≡ Some t)
some_standing s key t at = grind arith

pub stands_at : (s : Entries) (key : ℕ) (e : Entry) (t : Standing) → entry_at s key ≡ Some e → e.stands ≡ Some t → standing_at s key ≡ Some t
stands_at s key e t at stands = ap (option_and_then (λ (e : Entry). e.stands)) at ∙ stands

-- nothing stands under a key that has no entry
pub no_standing : (s : Entries) (key : ℕ) (t : Standing) → entry_at s key ≡ None → standing_at s key ≡ Some t → ⊥
no_standing s key t none at = grind arith

-- entries of one page are one
pub one_entry : (s : Linked) → HavePlaces s → (j k : ℕ) (a b : Entry) → entry_at s.entries j ≡ Some a → entry_at s.entries k ≡ Some b → a.place ≡ b.place → a ≡ b
one_entry s have j k a b at_j at_k same = grind (arith, at_place, ap, Some, sym, same_value)

shown_is : (s : Linked) (place : Place) → shown (mappings_of s) place ≡ find place_cmp place (pick s.entries s.entries)
unfolding shown_in
shown_is s place = get-from_entries places_total (pick s.entries s.entries) place

shown_to : (s : Linked) (place : Place) (m : Mapping) → shown (mappings_of s) place ≡ Some m → IsShown s.entries place m
shown_to s place m h =
    let u = found_under s.entries s.entries place m (sym (shown_is s place) ∙ h) in
    record { key = u.key; entry = u.entry; standing = u.standing; at = u.at; place_is = same_places u.entry.place (link_place place) u.place_is; stands = u.stands; mapping = u.mapping }

-- what stands under a key is shown
pub key_shows : (s : Linked) → HavePlaces s → (key : ℕ) (e : Entry) (t : Standing) → entry_at s.entries key ≡ Some e → e.stands ≡ Some t
    → shown (mappings_of s) (map_place e.place) ≡ Some (mapping_of s.entries t)
key_shows s have key e t at stands =
    let some = some_found s.entries s.entries key e t at stands in
    let found : shown (mappings_of s) (map_place e.place) ≡ Some some.0 = shown_is s (map_place e.place) ∙ some.1 in
    let u = shown_to s (map_place e.place) some.0 found in
    let same : u.entry ≡ e = one_entry s have u.key key u.entry e u.at at u.place_is in
    let standing : u.standing ≡ t = same_value (sym u.stands ∙ ap (λ (e : Entry). e.stands) same ∙ stands) in
    found ∙ ap (λ (x : Mapping). Some x) (sym u.mapping) ∙ ap (λ (t : Standing). Some (mapping_of s.entries t)) standing

-- a place shows what stands under its key
pub shown_by_key : (s : Linked) → HavePlaces s → (place : Place) (m : Mapping) → (shown (mappings_of s) place ≡ Some m) ↔ IsShown s.entries place m
shown_by_key s have place m = (
  shown_to s place m,
  λ u. ap (λ (p : LinkPlace). shown (mappings_of s) (map_place p)) (sym u.place_is) ∙ key_shows s have u.key u.entry u.standing u.at u.stands ∙ ap (λ (x : Mapping). Some x) u.mapping,
)

-- where nothing stands nothing is shown
pub blank_shows : (s : Linked) → HavePlaces s → (key : ℕ) (e : Entry) → entry_at s.entries key ≡ Some e → e.stands ≡ None → shown (mappings_of s) (map_place e.place) ≡ None
blank_shows s have key e at blank =
    elim (shown (mappings_of s) (map_place e.place)) as (λ v. shown (mappings_of s) (map_place e.place) ≡ v → v ≡ None) [
      | None ↦ λ is. refl
      | Some m ↦ λ is.
          let u = shown_to s (map_place e.place) m is in
          let same : u.entry ≡ e = one_entry s have u.key key u.entry e u.at at u.place_is in
          let k : ◌≡◌ {A = Option Standing} None (Some u.standing) = sym blank ∙ ap (λ (e : Entry). e.stands) (sym same) ∙ u.stands in
          cc
    ] refl

-- a page without a key shows nothing
pub none_shows : (s : Linked) → HavePlaces s → (place : Place) → ((key : ℕ) → ¬ (IsAt s.entries (link_place place) key)) → shown (mappings_of s) place ≡ None
none_shows s have place none =
    elim (shown (mappings_of s) place) as (λ v. shown (mappings_of s) place ≡ v → v ≡ None) [
      | None ↦ λ is. refl
      | Some m ↦ λ is.
          let u = shown_to s place m is in
          absurd (none u.key (at_place s.entries u.key u.entry u.at ∙ ap (λ (p : LinkPlace). Some p) u.place_is))
    ] refl

-- the parent's key
pub parent_is : (s : Entries) (key : ℕ) (t : Standing) → standing_at s key ≡ Some t → links.parent_of s key ≡ t.parent
parent_is s key t at = ap (option_and_then (λ (t : Standing). t.parent)) at

pub some_parent : (s : Entries) (low high : ℕ) → links.parent_of s low ≡ Some high → (t : Standing) × (standing_at s low ≡ Some t) × (t.parent ≡ Some high)
some_parent s low high up = grind arith

-- the key of the place that a key's place has as its parent
pub some_key : (s : Entries) (key : Option ℕ) (q : Place) → option_and_then (place_at s) key ≡ Some q → (k : ℕ) × (key ≡ Some k) × IsAt s (link_place q) k
some_key s None q h = absurd (let k : ◌≡◌ {A = Option Place} None (Some q) = h in cc)
some_key s (Some k) q h = grind (arith, option_map, Some, None, Option, refl, at_place, ap, same_places, same_value)

key_place : (s : Entries) (q : Place) (key : ℕ) → IsAt s (link_place q) key → place_at s key ≡ Some q
key_place s q key at = grind arith

-- what is a parent stands
abbrev pub ParentsStand : Entries → Type 0
ParentsStand s = (low high : ℕ) → links.parent_of s low ≡ Some high → (t : Standing) × (standing_at s high ≡ Some t)

pub parents_stand : (s : Entries) → AreTrees s → ParentsStand s
parents_stand s trees low high up =
    let t = some_parent s low high up in
    let above = trees.parents low t.0 high t.1 t.2 in
    (above.above, above.at)

module _ (s : Linked) (have : HavePlaces s) where
  -- one step of places is one of keys
  pub step_down : (low : ℕ) (p q : Place) → IsAt s.entries (link_place p) low → parent_of (mappings_of s) p ≡ Some q
      → (high : ℕ) × (links.parent_of s.entries low ≡ Some high) × IsAt s.entries (link_place q) high
  step_down low p q at up =
      elim (shown (mappings_of s) p) as (λ v. shown (mappings_of s) p ≡ v → option_and_then (λ (m : Mapping). m.parent) v ≡ Some q
      → (high : ℕ) × (links.parent_of s.entries low ≡ Some high) × IsAt s.entries (link_place q) high) [
        | None ↦ λ is h. absurd (let k : ◌≡◌ {A = Option Place} None (Some q) = h in cc)
        | Some m ↦ λ is h.
            let u = shown_to s p m is in
            let key : u.key ≡ low = have.once (link_place p) u.key low (at_place s.entries u.key u.entry u.at ∙ ap (λ (p : LinkPlace). Some p) u.place_is) at in
            let parent = some_key s.entries u.standing.parent q (ap (λ (m : Mapping). m.parent) u.mapping ∙ h) in
            (parent.0, ap (links.parent_of s.entries) (sym key) ∙ parent_is s.entries u.key u.standing (stands_at s.entries u.key u.entry u.standing u.at u.stands) ∙ parent.1, parent.2)
      ] refl up

  -- one step of keys is one of places
  pub step_up : (low high : ℕ) (p q : Place) → IsAt s.entries (link_place p) low → links.parent_of s.entries low ≡ Some high → IsAt s.entries (link_place q) high
      → parent_of (mappings_of s) p ≡ Some q
  step_up low high p q at_low up at_high =
      let t = some_parent s.entries low high up in
      let e = some_standing s.entries low t.0 t.1 in
      let place : e.0.place ≡ link_place p = same_value (sym (at_place s.entries low e.0 e.1) ∙ at_low) in
      let shows = key_shows s have low e.0 t.0 e.1 e.2 in
      ap (λ (x : LinkPlace). parent_of (mappings_of s) (map_place x)) (sym place)
      ∙ ap (option_and_then (λ (m : Mapping). m.parent)) shows
      ∙ ap (option_and_then (place_at s.entries)) t.2
      ∙ key_place s.entries q high at_high

  down_by_key : {p q : Place} → Descends (mappings_of s) p q → (low high : ℕ) → IsAt s.entries (link_place p) low → IsAt s.entries (link_place q) high → links.Descends s.entries low high
  down_by_key {p} {q} (child up) low high at_low at_high =
      let one = step_down low p q at_low up in
      let key : one.0 ≡ high = have.once (link_place q) one.0 high one.2 at_high in
      step (one.1 ∙ ap (λ (k : ℕ). Some k) key)
  down_by_key {p} {q} (further {middle = c} up rest) low high at_low at_high =
      let one = step_down low p c at_low up in
      steps one.1 (down_by_key rest one.0 high one.2 at_high)

  up_by_key : ParentsStand s.entries → {low high : ℕ} → links.Descends s.entries low high → (p q : Place) → IsAt s.entries (link_place p) low → IsAt s.entries (link_place q) high → Descends (mappings_of s) p q
  up_by_key stand {low} {high} (step up) p q at_low at_high = child (step_up low high p q at_low up at_high)
  up_by_key stand {low} {high} (steps {middle = c} up rest) p q at_low at_high =
      let above = stand low c up in
      let e = some_standing s.entries c above.0 above.1 in
      let at_c = at_place s.entries c e.0 e.1 in
      further (step_up low c p (map_place e.0.place) at_low up at_c) (up_by_key stand rest (map_place e.0.place) q at_c at_high)

  -- each place on a chain has a key
  pub key_above : {p q : Place} → Descends (mappings_of s) p q → (low : ℕ) → IsAt s.entries (link_place p) low → (high : ℕ) × IsAt s.entries (link_place q) high × links.Descends s.entries low high
  key_above {p} {q} (child up) low at_low =
      let one = step_down low p q at_low up in
      (one.0, one.2, step one.1)
  key_above {p} {q} (further {middle = c} up rest) low at_low =
      let one = step_down low p c at_low up in
      let more = key_above rest one.0 one.2 in
      (more.0, more.1, steps one.1 more.2)

-- a place descends from another where its key descends from that one's
pub descends_by_parents : (s : Linked) → HavePlaces s → ParentsStand s.entries → (low high : ℕ) (p q : Place) → IsAt s.entries (link_place p) low → IsAt s.entries (link_place q) high
    → Descends (mappings_of s) p q ↔ links.Descends s.entries low high
descends_by_parents s have stand low high p q at_low at_high = grind (arith, down_by_key, up_by_key)

pub descends_by_key : (s : Linked) → HavePlaces s → AreTrees s.entries → (low high : ℕ) (p q : Place) → IsAt s.entries (link_place p) low → IsAt s.entries (link_place q) high
    → Descends (mappings_of s) p q ↔ links.Descends s.entries low high
descends_by_key s have trees = descends_by_parents s have (parents_stand s.entries trees)

-- mappings are one where each place shows the same by its key
pub same_view : (a b : Linked) → HavePlaces a → HavePlaces b → a.spaces ≡ b.spaces
    → ((place : Place) (m : Mapping) → IsShown a.entries place m ↔ IsShown b.entries place m) → mappings_of a ≡ mappings_of b
same_view a b have_a have_b spaces same =
    same_mappings (mappings_of a) (mappings_of b) spaces
    (λ place. same_option (IsShown b.entries place) (shown (mappings_of a) place) (shown (mappings_of b) place)
    (λ m. (λ h. (same place m).0 ((shown_by_key a have_a place m).0 h), λ h. (shown_by_key a have_a place m).1 ((same place m).1 h)))
    (λ m. shown_by_key b have_b place m))
