-- Clean entries whose roots are known show a forest.
use Rattle.std.proofs.Common.{◌≡◌, ℕ, zero, suc, ◌<◌, ◌≤◌, ◌⊎◌, inl, inr, List, length, Option, Some, None, IsTrue, option_and_then, option_map, refl, sym, ap, ◌∙◌, subst, slice_get, arith}
use Rattle.std.proofs.lemmas.Bool.{cases_lt}
use Rattle.std.proofs.lemmas.List.{get_or_past}
use Rattle.std.specs.FinSet as set
use Rattle.l4_fpage.specs.Pages.{most_pages}
use Rattle.l4_fpage.specs.Rights.{RightsSet, has}
use Rattle.l4_nodes.specs.declared.Place.{Place as LinkPlace}
use Rattle.l4_links.specs.declared.Standing.{Standing}
use Rattle.l4_links.specs.declared.Entry.{Entry}
use Rattle.l4_links.specs.Leads.{step, steps}
use Rattle.l4_links.specs.Entries.{Entries, Linked, entry_at, standing_at, HavePlaces, AreTrees}
use Rattle.l4_links.specs.Entries as links
use Rattle.l4_mapdb.specs.declared.Place.{Place}
use Rattle.l4_mapdb.specs.declared.Mapping.{Mapping}
use Rattle.l4_mapdb.specs.Mappings.{shown, IsOrDescends, IsRoot, ParentHolds, IsForest}
use Rattle.l4_mapdb.specs.View.{link_place, map_place, place_at, mapping_of, mappings_of}
use Rattle.l4_mapdb.specs.Delivering.{IsClean, RootsKnown}
use Rattle.l4_mapdb.proofs.Caps.{has_common}
use Rattle.l4_mapdb.proofs.Nothing.{clean_rights}
use Rattle.l4_mapdb.proofs.Unique.{same_value}
use Rattle.l4_mapdb.proofs.View.{at_place, some_standing, stands_at, shown_by_key, key_shows, some_key, parent_is, descends_by_key}

-- one more, where that is so
counted : {D : Type 0} → D ⊎ ¬ D → ℕ → ℕ
counted (inl _) n = suc n
counted (inr _) n = n

counted_le : {A B : Type 0} (a : A ⊎ ¬ A) (b : B ⊎ ¬ B) → (A → B) → {m n : ℕ} → m ≤ n → counted a m ≤ counted b n
unfolding counted
counted_le (inl a) (inl b) f le = omega (arith, le)
counted_le (inl a) (inr b) f le = absurd (b (f a))
counted_le (inr a) (inl b) f le = omega (arith, le)
counted_le (inr a) (inr b) f le = le

counted_lt : {A B : Type 0} (a : A ⊎ ¬ A) (b : B ⊎ ¬ B) → (A → B) → {m n : ℕ} → m < n → counted a m < counted b n
unfolding counted
counted_lt (inl a) (inl b) f lt = omega (arith, lt)
counted_lt (inl a) (inr b) f lt = absurd (b (f a))
counted_lt (inr a) (inl b) f lt = omega (arith, lt)
counted_lt (inr a) (inr b) f lt = lt

counted_own : {A B : Type 0} (a : A ⊎ ¬ A) (b : B ⊎ ¬ B) → ¬ A → B → {m n : ℕ} → m ≤ n → counted a m < counted b n
unfolding counted
counted_own (inl a) b out in_b le = absurd (out a)
counted_own (inr a) (inl b) out in_b le = omega (arith, le)
counted_own (inr a) (inr b) out in_b le = absurd (b in_b)

module _ (s : Linked) (have : HavePlaces s) (trees : AreTrees s.entries) (clean : IsClean s) (roots : List ℕ) (known : RootsKnown s.entries roots) where
  -- of so many keys, those that the key descends from
  above_count : ℕ → ℕ → ℕ
  above_count key zero = 0
  above_count key (suc n) = counted (trees.decided key n) (above_count key n)

  up_more : (key parent : ℕ) → links.parent_of s.entries key ≡ Some parent → (high : ℕ) → links.Descends s.entries parent high → links.Descends s.entries key high
  up_more key parent up high d = steps up d

  count_le : (key parent : ℕ) → links.parent_of s.entries key ≡ Some parent → (n : ℕ) → above_count parent n ≤ above_count key n
  unfolding above_count counted
  count_le key parent up zero = omega arith
  count_le key parent up (suc n) = counted_le (trees.decided parent n) (trees.decided key n) (up_more key parent up n) (count_le key parent up n)

  -- the parent descends from fewer
  count_lt : (key parent : ℕ) → links.parent_of s.entries key ≡ Some parent → (n : ℕ) → parent < n → above_count parent n < above_count key n
  unfolding above_count counted
  count_lt key parent up zero lt = absurd (omega (arith, lt))
  count_lt key parent up (suc n) lt = elim (cases_lt parent n) [
    | inl less ↦ counted_lt (trees.decided parent n) (trees.decided key n) (up_more key parent up n) (count_lt key parent up n less)
    | inr ge ↦
        let own : parent ≡ n = omega (arith, ge, lt) in
        counted_own (trees.decided parent n) (trees.decided key n) (λ d. trees.apart parent (subst (λ (x : ℕ). links.Descends s.entries parent x) (sym own) d)) (subst (λ (x : ℕ). links.Descends s.entries key x) own (step up)) (count_le key parent up n)
  ]

  -- the root that a key is, or descends from
  record HasRoot (key : ℕ) (t : Standing) : Type 0 where
    top : ℕ
    root : Standing
    at : standing_at s.entries top ≡ Some root
    none : root.parent ≡ None
    frame : root.frame ≡ t.frame
    below : (key ≡ top) ⊎ links.Descends s.entries key top

  within : (key : ℕ) (t : Standing) → standing_at s.entries key ≡ Some t → key < length s.entries
  within key t at = grind (arith, cases_lt, length, inl, inr, Option, None, Some, sym, ap, option_and_then, get_or_past)

  root_of : (fuel key : ℕ) (t : Standing) → standing_at s.entries key ≡ Some t → above_count key (length s.entries) < fuel → HasRoot key t
  root_of zero key t at lt = absurd (omega (arith, lt))
  root_of (suc fuel) key t at lt = elim t.parent as (λ (o : Option ℕ). t.parent ≡ o → HasRoot key t) [
    | None ↦ λ none. record { top = key; root = t; at = at; none = none; frame = refl; below = inl refl }
    | Some p ↦ λ up.
        let above = trees.parents key t p at up in
        let step_up : links.parent_of s.entries key ≡ Some p = parent_is s.entries key t at ∙ up in
        let fewer = count_lt key p step_up (length s.entries) (within p above.above above.at) in
        let r = root_of fuel p above.above above.at (omega (arith, fewer, lt)) in
        record { top = r.top; root = r.root; at = r.at; none = r.none; frame = r.frame ∙ sym above.frame; below = inr (elim r.below [ inl e ↦ step (step_up ∙ ap (λ (k : ℕ). Some k) e) | inr d ↦ steps step_up d ]) }
  ] refl

  parents_hold : (place : Place) (m : Mapping) (parent : Place) → shown (mappings_of s) place ≡ Some m → m.parent ≡ Some parent → ParentHolds (mappings_of s) m parent
  parents_hold place m parent at up =
      let u = (shown_by_key s have place m).0 at in
      let k = some_key s.entries u.standing.parent parent (ap (λ (x : Mapping). x.parent) u.mapping ∙ up) in
      let above = trees.parents u.key u.standing k.0 (stands_at s.entries u.key u.entry u.standing u.at u.stands) k.1 in
      let e = some_standing s.entries k.0 above.above above.at in
      let here : e.0.place ≡ link_place parent = same_value (sym (at_place s.entries k.0 e.0 e.1) ∙ k.2) in
      record {
        above = mapping_of s.entries above.above;
        at = ap (λ (p : LinkPlace). shown (mappings_of s) (map_place p)) (sym here) ∙ key_shows s have k.0 e.0 above.above e.1 e.2;
        same_frame = sym above.frame ∙ ap (λ (x : Mapping). x.frame) u.mapping;
        within = λ right h. ((has_common u.standing.rights above.above.rights right).0 (subst (λ (r : RightsSet). IsTrue (has r right)) (ap (λ (x : Mapping). x.rights) (sym u.mapping) ∙ sym above.within) h)).1;
      }

  root_shown : (place : Place) (m : Mapping) → shown (mappings_of s) place ≡ Some m → (root : Place) × IsOrDescends (mappings_of s) place root × IsRoot (mappings_of s) m.frame root
  root_shown place m at =
      let u = (shown_by_key s have place m).0 at in
      let stands = stands_at s.entries u.key u.entry u.standing u.at u.stands in
      let r = root_of (suc (above_count u.key (length s.entries))) u.key u.standing stands (omega arith) in
      let e = some_standing s.entries r.top r.root r.at in
      let place_is : map_place u.entry.place ≡ place = ap map_place u.place_is in (
        map_place e.0.place,
        grind (arith, inl, sym, ap, same_value, inr, descends_by_key, at_place, Some),
        record {
          mapping = mapping_of s.entries r.root;
          at = key_shows s have r.top e.0 r.root e.1 e.2;
          frame_is = r.frame ∙ ap (λ (x : Mapping). x.frame) u.mapping;
          top = ap (option_and_then (place_at s.entries)) r.none;
        },
      )

  -- the key of a root is the one that is kept for its frame
  root_key : (frame : ℕ) (place : Place) → IsRoot (mappings_of s) frame place → (key : ℕ) × links.IsAt s.entries (link_place place) key × (slice_get roots frame ≡ Some key)
  root_key frame place root =
      let u = (shown_by_key s have place root.mapping).0 root.at in
      let stands = stands_at s.entries u.key u.entry u.standing u.at u.stands in
      let no_parent : u.standing.parent ≡ None = by_parent u.key u.standing stands u.standing.parent refl (ap (λ (x : Mapping). x.parent) u.mapping ∙ root.top) in (
        u.key,
        at_place s.entries u.key u.entry u.at ∙ ap (λ (p : LinkPlace). Some p) u.place_is,
        ap (slice_get roots) (sym root.frame_is ∙ ap (λ (x : Mapping). x.frame) (sym u.mapping)) ∙ known u.key u.standing stands no_parent,
      )
    where
      by_parent : (key : ℕ) (t : Standing) → standing_at s.entries key ≡ Some t → (o : Option ℕ) → t.parent ≡ o → option_and_then (place_at s.entries) t.parent ≡ None → t.parent ≡ None
      by_parent key t at None up none = up
      by_parent key t at (Some p) up none =
          let above = trees.parents key t p at up in
          let e = some_standing s.entries p above.above above.at in
          absurd (let z : ◌≡◌ {A = Option Place} None (Some (map_place e.0.place)) = sym none ∙ ap (option_and_then (place_at s.entries)) up ∙ ap (option_map {T = Entry} (λ x. map_place x.place)) e.1 in cc)

  pub are_forest : IsForest (mappings_of s)
  are_forest = record {
    in_space = λ place m at. let u = (shown_by_key s have place m).0 at in subst (λ (p : LinkPlace). IsTrue (set.contains s.spaces p.space)) u.place_is (have.housed u.key u.entry u.at);
    page_fits = λ place m at. let u = (shown_by_key s have place m).0 at in subst (λ (p : LinkPlace). p.page < most_pages) u.place_is (have.fits u.key u.entry u.at);
    some_right = clean_rights s have clean;
    parents = parents_hold;
    rooted = root_shown;
    one_root = λ frame a b x y.
        let k = root_key frame a x in
        let l = root_key frame b y in
        let same : Some (link_place a) ≡ Some (link_place b) = sym k.1 ∙ ap (λ (n : ℕ). option_map {T = Entry} (λ x. x.place) (entry_at s.entries n)) (same_value (sym k.2 ∙ l.2)) ∙ l.1 in
        ap map_place (same_value same);
  }
