-- Which places are present, and where the roots stand, by the keys.
use Rattle.std.proofs.Common.{◌≡◌, ℕ, true, false, List, Option, Some, None, is_some, IsTrue, refl, sym, ap, ◌∙◌, subst, slice_get, option_and_then, option_map, MatchOption, OnOk, OnErr, Result, Ok, Err, length, ◌<◌, slice_index_or}
use Rattle.std.proofs.lemmas.Option.{slice_get-get_or}
use Rattle.std.specs.FinSet as set
use Rattle.l4_nodes.specs.declared.Place.{Place as LinkPlace}
use Rattle.l4_links.specs.declared.Standing.{Standing}
use Rattle.l4_links.specs.declared.Entry.{Entry}
use Rattle.l4_links.specs.Entries.{Linked, standing_at, IsAt, HaveRights, HasKey, NoKeyFrom, IsNextKey, HavePlaces, AreTrees}
use Rattle.l4_mapdb.specs.declared.Place.{Place}
use Rattle.l4_mapdb.specs.declared.Mapping.{Mapping}
use Rattle.l4_mapdb.specs.Mappings.{shown, IsPresent, IsRoot}
use Rattle.l4_forest.specs.Places.{NonePresentFrom, IsNextPresent}
use Rattle.l4_forest.proofs.ForestEnds.{begins_keeps}
use Rattle.l4_mapdb.proofs.Unique.{same_value}
use Rattle.l4_forest.specs.declared.Forest.TheInside.{Inside}
use Rattle.l4_mapdb.specs.View.{link_place, map_place, place_at, mapping_of, mappings_of}
use Rattle.l4_mapdb.specs.Delivering.{IsClean, RootsKnown}
use Rattle.l4_forest.specs.Inside.Kept.{IsKept, IsRootKey, NoRootKey, kept_at}
use Rattle.l4_mapdb.proofs.View.{at_place, some_entry, some_standing, stands_at, shown_by_key, key_shows, blank_shows}

module _ (s : Linked) (have : HavePlaces s) where
  pub shows_standing : (place : Place) (key : ℕ) (t : Standing) → IsAt s.entries (link_place place) key → standing_at s.entries key ≡ Some t → shown (mappings_of s) place ≡ Some (mapping_of s.entries t)
  shows_standing place key t at stands =
      let e = some_entry s.entries (link_place place) key at in
      let here : e.0.stands ≡ Some t = sym (ap (option_and_then (λ (e : Entry). e.stands)) e.1) ∙ stands in
      ap (λ (p : LinkPlace). shown (mappings_of s) (map_place p)) (sym e.2) ∙ key_shows s have key e.0 t e.1 here

  pub shows_blank : (place : Place) (key : ℕ) → IsAt s.entries (link_place place) key → standing_at s.entries key ≡ None → shown (mappings_of s) place ≡ None
  shows_blank place key at stands =
      let e = some_entry s.entries (link_place place) key at in
      let here : e.0.stands ≡ None = sym (ap (option_and_then (λ (e : Entry). e.stands)) e.1) ∙ stands in
      ap (λ (p : LinkPlace). shown (mappings_of s) (map_place p)) (sym e.2) ∙ blank_shows s have key e.0 e.1 here

  module _ (clean : IsClean s) where
    key_present : (space page : ℕ) → HasKey s.entries space page → IsPresent (mappings_of s) (record { space = space; page = page })
    key_present space page has =
        let e = some_entry s.entries (record { space = space; page = page }) has.0 has.1 in
        let p = clean has.0 e.0 e.1 in
        ap is_some (ap (λ (p : LinkPlace). shown (mappings_of s) (map_place p)) (sym e.2) ∙ key_shows s have has.0 e.0 p.standing e.1 p.stands)

    present_key : (space page : ℕ) → IsPresent (mappings_of s) (record { space = space; page = page }) → HasKey s.entries space page
    present_key space page present =
        elim (shown (mappings_of s) (record { space = space; page = page })) as (λ o. shown (mappings_of s) (record { space = space; page = page }) ≡ o → IsTrue (is_some o) → HasKey s.entries space page) [
          | None ↦ λ _ h. absurd (let k : false ≡ true = h in cc)
          | Some m ↦ λ is _.
              let u = (shown_by_key s have (record { space = space; page = page }) m).0 is in
              (u.key, at_place s.entries u.key u.entry u.at ∙ ap (λ (p : LinkPlace). Some p) u.place_is)
        ] refl present

    pub next_of : (space page : ℕ) (result : Option ℕ) → MatchOption result (NoKeyFrom s.entries space page) (IsNextKey s.entries space page)
        → MatchOption result (NonePresentFrom (mappings_of s) space page) (IsNextPresent (mappings_of s) space page)
    next_of space page None none = λ other le present. none other le (present_key space other present)
    next_of space page (Some next) is = record {
      present = key_present space next is.there;
      from = is.from;
      least = λ other le present. is.least other le (present_key space other present);
    }

  module _ (trees : AreTrees s.entries) where
    -- a root stands without a parent
    root_key : (frame : ℕ) (place : Place) → IsRoot (mappings_of s) frame place → (key : ℕ) × (t : Standing) × IsAt s.entries (link_place place) key × (standing_at s.entries key ≡ Some t) × (t.frame ≡ frame) × (t.parent ≡ None)
    root_key frame place root =
        let u = (shown_by_key s have place root.mapping).0 root.at in
        let t = u.standing in
        let at = stands_at s.entries u.key u.entry t u.at u.stands in (
          u.key,
          t,
          at_place s.entries u.key u.entry u.at ∙ ap (λ (p : LinkPlace). Some p) u.place_is,
          at,
          ap (λ (m : Mapping). m.frame) u.mapping ∙ root.frame_is,
          no_parent u.key t at (ap (λ (m : Mapping). m.parent) u.mapping ∙ root.top),
        )
      where
        no_parent : (key : ℕ) (t : Standing) → standing_at s.entries key ≡ Some t → option_and_then (place_at s.entries) t.parent ≡ None → t.parent ≡ None
        no_parent key t at none = elim t.parent as (λ o. t.parent ≡ o → o ≡ None) [
          | None ↦ λ _. refl
          | Some p ↦ λ up.
              let above = trees.parents key t p at up in
              let e = some_standing s.entries p above.above above.at in
              let placed : place_at s.entries p ≡ Some (map_place e.0.place) = ap (option_map {T = Entry} (λ e. map_place e.place)) e.1 in
              let k : ◌≡◌ {A = Option Place} None (Some (map_place e.0.place)) = sym none ∙ ap (option_and_then (place_at s.entries)) up ∙ placed in
              cc
        ] refl

    pub no_root : (roots : List ℕ) (frame : ℕ) → RootsKnown s.entries roots → kept_at roots frame ≡ None → (place : Place) → ¬ (IsRoot (mappings_of s) frame place)
    no_root roots frame known none place root =
        let r = root_key frame place root in
        let at : slice_get roots frame ≡ Some r.0 = ap (slice_get roots) (sym r.4) ∙ known r.0 r.1 r.3 r.5 in
        let k : ◌≡◌ {A = Option ℕ} None (Some r.0) = sym none ∙ at in
        cc

    pub root_is : (roots : List ℕ) (frame key : ℕ) (result : Option Place) → RootsKnown s.entries roots → kept_at roots frame ≡ Some key
        → MatchOption result (NoRootKey s.entries frame key) (IsRootKey s.entries frame key)
        → MatchOption result ((place : Place) → ¬ (IsRoot (mappings_of s) frame place)) (IsRoot (mappings_of s) frame)
    root_is roots frame key None known at none = λ place root.
        let r = root_key frame place root in
        let known_at : slice_get roots frame ≡ Some r.0 = ap (slice_get roots) (sym r.4) ∙ known r.0 r.1 r.3 r.5 in
        let one : r.0 ≡ key = same_value (sym known_at ∙ at) in
        none r.1 (ap (standing_at s.entries) (sym one) ∙ r.3) r.4 r.5
    root_is roots frame key (Some place) known at is = record {
      mapping = mapping_of s.entries is.standing;
      at = ap (λ (p : LinkPlace). shown (mappings_of s) (map_place p)) (sym is.place_is) ∙ key_shows s have key is.entry is.standing is.at is.stands;
      frame_is = is.frame_is;
      top = ap (option_and_then (place_at s.entries)) is.top;
    }

-- a new space
pub kept_begun : {A E : Type 0} (a : Inside) (new : Linked) (space : ℕ) (result : Result A E) → OnOk result (new ≡ record a.links { spaces = set.insert a.links.spaces space }) → OnErr result (new ≡ a.links)
    → IsKept a → IsKept (record { links = new; roots = a.roots })
kept_begun a new space (Ok _) ok err kept = subst (λ (s : Linked). IsKept (record { links = s; roots = a.roots })) (sym ok)
    (record { clean = kept.clean; known = kept.known; forest = begins_keeps (mappings_of a.links) space kept.forest })
kept_begun a new space (Err _) ok err kept = subst (λ (s : Linked). IsKept (record { links = s; roots = a.roots })) (sym err) kept

pub kept_within : (roots : List ℕ) (frame : ℕ) → frame < length roots → Some (slice_index_or roots frame 0) ≡ kept_at roots frame
kept_within roots frame less = sym (slice_get-get_or roots frame 0 less)

-- what stands where nothing is marked has a right
pub clean_rights : (s : Linked) → IsClean s → HaveRights s.entries
clean_rights s clean key t at empty =
    let e = some_standing s.entries key t at in
    let plain = clean key e.0 e.1 in
    let one : t ≡ plain.standing = same_value (sym e.2 ∙ plain.stands) in
    plain.some_right (sym (ap (λ (t : Standing). t.rights) one) ∙ empty)
