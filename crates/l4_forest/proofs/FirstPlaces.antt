-- The places at the start, frame by frame.
use Rattle.std.proofs.Common.{◌≡◌, ◌≢◌, ℕ, zero, suc, ◌+◌, ◌≤◌, ◌++◌, [], ◌∷◌, length, List, true, false, Option, Some, None, inl, inr, refl, sym, ap, ◌∙◌, slice_get, option_map, arith}
use Rattle.std.specs.Ordering.{nat_cmp}
use Rattle.std.specs.FinSet as set
use Rattle.l4_fpage.specs.Rights.{RightsSet, all_rights}
use Rattle.l4_nodes.specs.declared.Place.{Place as LinkPlace}
use Rattle.l4_links.specs.declared.Standing.{Standing}
use Rattle.l4_links.specs.declared.Entry.{Entry}
use Rattle.l4_links.specs.Entries.{Entries, Linked, entry_at, IsAt, HavePlaces, AddsBlank, Stands}
use Rattle.l4_mapdb.specs.declared.Mapping.{Mapping}
use Rattle.l4_mapdb.specs.Mappings.{shown}
use Rattle.l4_forest.specs.Boot.{IsFirst}
use Rattle.l4_forest.proofs.ForestEnds.{first_forest}
use Rattle.l4_mapdb.proofs.Unique.{same_value}
use Rattle.l4_forest.specs.declared.Forest.TheInside.{Inside}
use Rattle.l4_mapdb.specs.View.{link_place, mapping_of, mappings_of}
use Rattle.l4_forest.specs.Inside.Kept.{IsKept, OwnsFirst, own_entry}
use Rattle.l4_mapdb.specs.Delivering.{IsClean, RootsKnown}
use Rattle.l4_mapdb.proofs.View.{some_entry, some_standing, shown_by_key, key_shows}
use Rattle.l4_mapdb.proofs.Deciding.{same_or}

get_front : {A : Type 0} (xs ys : List A) (i : ℕ) (x : A) → slice_get xs i ≡ Some x → slice_get (xs ++ ys) i ≡ Some x
get_front {A} [] ys i x h = absurd (let k : ◌≡◌ {A = Option A} None (Some x) = h in cc)
get_front (y ∷ xs) ys zero x h = h
get_front (y ∷ xs) ys (suc i) x h = get_front xs ys i x h

get_last : {A : Type 0} (xs : List A) (x : A) → slice_get (xs ++ x ∷ []) (length xs) ≡ Some x
get_last [] x = refl
get_last (y ∷ xs) x = get_last xs x

one_longer : {A : Type 0} (xs : List A) (x : A) → length (xs ++ x ∷ []) ≡ length xs + 1
one_longer [] x = refl
one_longer (y ∷ xs) x = let e = one_longer xs x in omega (arith, e)

nothing : (s : Entries) → s ≡ [] → (key : ℕ) (e : Entry) → entry_at s key ≡ Some e → ⊥
nothing s empty key e at = let k : ◌≡◌ {A = Option Entry} None (Some e) = ap (λ (s : Entries). entry_at s key) (sym empty) ∙ at in cc

pub owns_none : (s : Entries) (roots : List ℕ) → s ≡ [] → roots ≡ [] → OwnsFirst 0 s roots
owns_none s roots empty no_roots = record {
  only = λ key e at. absurd (nothing s empty key e at);
  each = λ frame less. absurd (omega (arith, less));
  count = ap length no_roots;
}

-- the next frame's page has no key yet
pub owns_free : (frame : ℕ) (s : Entries) (roots : List ℕ) → OwnsFirst frame s roots → (key : ℕ) → ¬ (IsAt s (record { space = 0; page = frame }) key)
owns_free frame s roots owns key at =
    let e = some_entry s (record { space = 0; page = frame }) key at in
    let o = owns.only key e.0 e.1 in
    let same : o.0 ≡ frame = ap (λ (x : Entry). x.place.page) (sym o.2) ∙ ap (λ (p : LinkPlace). p.page) e.2 in
    omega (arith, same, o.1)

-- the next frame
pub owns_more : (frame : ℕ) (old mid new : Entries) (roots after : List ℕ) (key : ℕ) (rights : RightsSet) → OwnsFirst frame old roots
    → AddsBlank (record { space = 0; page = frame }) old mid key → rights ≡ all_rights
    → Stands key (record { frame = frame; rights = rights; source = false; granted = None; parent = None }) mid new → after ≡ roots ++ key ∷ [] → OwnsFirst (frame + 1) new after
owns_more frame old mid new roots after key rights owns adds all stands pushed = record {
  only = λ k e at. elim (same_or k key) [
    | inl same ↦ (frame, omega arith, same_value (sym at ∙ ap (entry_at new) same ∙ here))
    | inr ne ↦ let o = owns.only k e (sym (adds.others k ne) ∙ sym (stands.others k ne) ∙ at) in (o.0, omega (arith, o.1), o.2)
  ];
  each = λ f less. elim (same_or f frame) [
    | inl same ↦ (
      key,
      here ∙ ap (λ (n : ℕ). Some (own_entry n)) (sym same),
      ap (λ (r : List ℕ). slice_get r f) pushed ∙ ap (slice_get (roots ++ key ∷ [])) (same ∙ sym owns.count) ∙ get_last roots key,
    )
    | inr ne ↦
        let o = owns.each f (omega (arith, less, ne)) in
        let other : o.0 ≢ key = λ e. let k : ◌≡◌ {A = Option Entry} None (Some (own_entry f)) = sym adds.vacant ∙ ap (entry_at old) (sym e) ∙ o.1 in cc in
        (o.0, stands.others o.0 other ∙ adds.others o.0 other ∙ o.1, ap (λ (r : List ℕ). slice_get r f) pushed ∙ get_front roots (key ∷ []) f o.0 o.2)
  ];
  count = ap length pushed ∙ one_longer roots key ∙ ap (λ (n : ℕ). n + 1) owns.count;
} where
  here : entry_at new key ≡ Some (own_entry frame)
  here =
      stands.here
      ∙ ap (option_map {T = Entry} (λ e. record e { stands = Some (record { frame = frame; rights = rights; source = false; granted = None; parent = None }) })) adds.filled
      ∙ ap (λ (r : RightsSet). Some (record (own_entry frame) { stands = Some (record { frame = frame; rights = r; source = false; granted = None; parent = None }) })) all

module _ (frames : ℕ) (s : Linked) (roots : List ℕ) (have : HavePlaces s) (owns : OwnsFirst frames s.entries roots) where
  pub owns_first : s.spaces ≡ set.insert set.empty 0 → IsFirst frames (mappings_of s)
  owns_first spaces = record {
    spaces = spaces;
    places = λ place m. (
      λ h.
          let u = (shown_by_key s have place m).0 h in
          let o = owns.only u.key u.entry u.at in
          let at_place : record { space = 0; page = o.0 } ≡ link_place place = ap (λ (e : Entry). e.place) (sym o.2) ∙ u.place_is in
          let page : o.0 ≡ place.page = ap (λ (p : LinkPlace). p.page) at_place in
          let t : u.standing ≡ record { frame = o.0; rights = all_rights; source = false; granted = None; parent = None } = same_value (sym u.stands ∙ ap (λ (e : Entry). e.stands) o.2) in (
            sym (ap (λ (p : LinkPlace). p.space) at_place),
            omega (arith, o.1, page),
            sym u.mapping ∙ ap (mapping_of s.entries) t ∙ ap (λ (n : ℕ). record { frame = n; rights = all_rights; parent = None }) page,
          ),
      λ h.
          let o = owns.each place.page h.1 in
          ap (λ (n : ℕ). shown (mappings_of s) (record { space = n; page = place.page })) h.0
          ∙ key_shows s have o.0 (own_entry place.page) (record { frame = place.page; rights = all_rights; source = false; granted = None; parent = None }) o.1 refl
          ∙ ap (λ (x : Mapping). Some x) (sym h.2),
    );
  }

  pub owns_clean : IsClean s
  owns_clean key e at =
      let o = owns.only key e at in
      record {
        standing = record { frame = o.0; rights = all_rights; source = false; granted = None; parent = None };
        stands = ap (λ (e : Entry). e.stands) o.2;
        some_right = λ none. let k : true ≡ false = ap (λ (r : RightsSet). r.r) none in cc;
        unwanted = ap (λ (e : Entry). e.wanted) o.2;
        no_source = refl;
        not_granted = refl;
      }

  pub owns_roots : RootsKnown s.entries roots
  owns_roots key t at top =
      let e = some_standing s.entries key t at in
      let o = owns.only key e.0 e.1 in
      let own = owns.each o.0 o.1 in
      let frame : t.frame ≡ o.0 = ap (λ (t : Standing). t.frame) (same_value (sym e.2 ∙ ap (λ (e : Entry). e.stands) o.2)) in
      let one : own.0 ≡ key = have.once (record { space = 0; page = o.0 }) own.0 key (ap (option_map {T = Entry} (λ e. e.place)) own.1) (ap (option_map {T = Entry} (λ e. e.place)) (e.1 ∙ ap (λ (e : Entry). Some e) o.2)) in
      ap (slice_get roots) frame ∙ own.2 ∙ ap (λ (k : ℕ). Some k) one

pub kept_first : (frames : ℕ) (a : Inside) → frames ≤ 4096 → HavePlaces a.links → OwnsFirst frames a.links.entries a.roots.items → a.links.spaces ≡ set.insert set.empty 0 → IsKept a
kept_first frames a le have owns spaces = record {
  clean = owns_clean frames a.links a.roots.items have owns;
  known = owns_roots frames a.links a.roots.items have owns;
  forest = first_forest frames (mappings_of a.links) le (owns_first frames a.links a.roots.items have owns spaces);
}

-- the only space is 0
pub first_space : (s t : Linked) → s.spaces ≡ set.empty → t ≡ record s { spaces = set.insert s.spaces 0 } → t.spaces ≡ set.insert set.empty 0
first_space s t empty is = ap (λ (x : Linked). x.spaces) is ∙ ap (λ (v : set.FinSet nat_cmp). set.insert v 0) empty
