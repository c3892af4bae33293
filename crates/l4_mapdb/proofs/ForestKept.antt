-- A forest stays a forest where places lose rights, and with them all that they passed on.
use Rattle.std.proofs.Common.{◌≡◌, ◌≢◌, ℕ, ◌<◌, Bool, true, false, Option, Some, None, IsTrue, refl, sym, ap, ◌∙◌, ◌↔◌, subst, inl, inr, ◌⊎◌, option_and_then, arith}
use Rattle.std.specs.FinSet as set
use Rattle.l4_fpage.specs.Rights.{RightsSet, Right, Read, Write, Execute, has, no_rights}
use Rattle.l4_mapdb.specs.declared.Place.{Place}
use Rattle.l4_mapdb.specs.declared.Mapping.{Mapping}
use Rattle.l4_mapdb.specs.Mappings.{Mappings, shown, parent_of, child, further, Descends, IsOrDescends, IsRoot, IsForest, ParentHolds}
use Rattle.l4_mapdb.proofs.Unique.{same_value, same_rights}
use Rattle.l4_mapdb.specs.Losing.{IsLeft, LosesRights}
use Rattle.l4_fpage.specs.Pages.{most_pages}

-- what follows from a decision follows, where it is a contradiction
pub decide : (P : Type 0) → (P ⊎ ¬ P → ⊥) → ⊥
decide P f = f (inr (λ p. f (inl p)))

pub left : {L : Type 0} → L ⊎ ¬ L → Bool → Bool
left (inl lost) b = false
left (inr kept) b = b

pub left_is : {L : Type 0} (d : L ⊎ ¬ L) (b : Bool) → IsTrue (left d b) ↔ (IsTrue b × ¬ L)
unfolding left
left_is (inl lost) b = (λ h. absurd (let k : false ≡ true = h in cc), λ h. absurd (h.1 lost))
left_is (inr kept) b = (λ h. (h, kept), λ h. h.0)

pub no_right : (k : Right) → ¬ (IsTrue (has no_rights k))
no_right Read h = let e : false ≡ true = h in cc
no_right Write h = let e : false ≡ true = h in cc
no_right Execute h = let e : false ≡ true = h in cc

-- a present place's parent is present and shows the same frame, and has all its rights but for those that are to be lost
pub record LooseParent (Lost : Place → Right → Type 0) (s : Mappings) (q : Place) (m : Mapping) (parent : Place) : Type 0 where
  pub above : Mapping
  pub at : shown s parent ≡ Some above
  pub same_frame : above.frame ≡ m.frame
  pub within : (k : Right) → IsTrue (has m.rights k) → ¬ (Lost q k) → IsTrue (has above.rights k)

-- a forest but for rights that are to be lost
pub record IsLoose (Lost : Place → Right → Type 0) (s : Mappings) : Type 0 where
  pub in_space : (place : Place) (m : Mapping) → shown s place ≡ Some m → IsTrue (set.contains s.spaces place.space)
  pub page_fits : (place : Place) (m : Mapping) → shown s place ≡ Some m → place.page < most_pages
  pub parents : (place : Place) (m : Mapping) (parent : Place) → shown s place ≡ Some m → m.parent ≡ Some parent → LooseParent Lost s place m parent
  pub rooted : (place : Place) (m : Mapping) → shown s place ≡ Some m → (root : Place) × IsOrDescends s place root × IsRoot s m.frame root
  pub one_root : (frame : ℕ) (a b : Place) → IsRoot s frame a → IsRoot s frame b → a ≡ b

pub forest_loose : (Lost : Place → Right → Type 0) (s : Mappings) → IsForest s → IsLoose Lost s
forest_loose Lost s f = record {
  in_space = f.in_space;
  page_fits = f.page_fits;
  parents = λ q m p at up. let h = f.parents q m p at up in record { above = h.above; at = h.at; same_frame = h.same_frame; within = λ k t _. h.within k t };
  rooted = f.rooted;
  one_root = f.one_root;
}

module _ (Lost : Place → Right → Type 0) (old new : Mappings)
    (down : (low high : Place) (k : Right) → parent_of old low ≡ Some high → Lost high k → Lost low k)
    (forest : IsLoose Lost old) (loses : LosesRights Lost old new) where
  parent_is : (s : Mappings) (q : Place) (m : Mapping) → shown s q ≡ Some m → parent_of s q ≡ m.parent
  parent_is s q m at = ap (option_and_then (λ (x : Mapping). x.parent)) at

  -- a right is kept by the parent where its child keeps it
  kept_above : (q p : Place) (b a : Mapping) (m : Mapping) → shown old q ≡ Some b → b.parent ≡ Some p → ((k : Right) → IsTrue (has b.rights k) → ¬ (Lost q k) → IsTrue (has a.rights k)) → IsLeft (Lost q) b m
      → (k : Right) → IsTrue (has m.rights k) → IsTrue (has a.rights k) × ¬ (Lost p k)
  kept_above q p b a m at up within left k h = grind arith

  -- unless a place that is to keep a right is absent, whatever is lost there can be told from what isn't
  not_absent : (p : Place) (a : Mapping) → shown old p ≡ Some a → (keeps : RightsSet) → keeps ≢ no_rights
      → ((k : Right) → IsTrue (has keeps k) → IsTrue (has a.rights k) × ¬ (Lost p k)) → shown new p ≡ None → ⊥
  not_absent p a at keeps some both absent =
      decide (Lost p Read) (λ r. decide (Lost p Write) (λ w. decide (Lost p Execute) (λ x.
      let rest : RightsSet = record { r = left r a.rights.r; w = left w a.rights.w; x = left x a.rights.x } in
      let m : Mapping = record { frame = a.frame; rights = rest; parent = a.parent } in
      let rights : (k : Right) → IsTrue (has rest k) ↔ (IsTrue (has a.rights k) × ¬ (Lost p k)) =
      λ k. elim k as (λ v. IsTrue (has rest v) ↔ (IsTrue (has a.rights v) × ¬ (Lost p v))) [ Read ↦ left_is r a.rights.r | Write ↦ left_is w a.rights.w | Execute ↦ left_is x a.rights.x ] in
      let some_left : rest ≢ no_rights = λ none.
      some (same_rights keeps no_rights (λ k. (λ h. subst (λ (v : RightsSet). IsTrue (has v k)) none ((rights k).1 (both k h)), λ h. absurd (no_right k h)))) in
      let l : IsLeft (Lost p) a m = record { frame = refl; parent = refl; rights = rights; some_right = some_left } in
      let there : shown new p ≡ Some m = (loses.places p m).1 (a, at, l) in
      let e : ◌≡◌ {A = Option Mapping} None (Some m) = sym absent ∙ there in
      cc)))

  parents_kept : (q : Place) (m : Mapping) (p : Place) → shown new q ≡ Some m → m.parent ≡ Some p → ParentHolds new m p
  parents_kept q m p at up =
      let was = (loses.places q m).0 at in
      let left = was.2 in
      let up_old : was.0.parent ≡ Some p = sym left.parent ∙ up in
      let holds = forest.parents q was.0 p was.1 up_old in
      let keeps = kept_above q p was.0 holds.above m was.1 up_old holds.within left in
      elim (shown new p) as (λ o. shown new p ≡ o → ParentHolds new m p) [
        | None ↦ λ h. absurd (not_absent p holds.above holds.at m.rights left.some_right keeps h)
        | Some a ↦ λ h.
            let it = (loses.places p a).0 h in
            let same : it.0 ≡ holds.above = same_value (sym it.1 ∙ holds.at) in
            let l : IsLeft (Lost p) holds.above a = subst (λ (x : Mapping). IsLeft (Lost p) x a) same it.2 in
            grind arith
      ] refl

  -- each ancestor of a place that stays is there, by the same chain
  chain_kept : {q r : Place} → Descends old q r → (m : Mapping) → shown new q ≡ Some m → Descends new q r × ((a : Mapping) × (shown new r ≡ Some a))
  chain_kept {q} {r} (child up) m at =
      let was = (loses.places q m).0 at in
      let m_up : m.parent ≡ Some r = was.2.parent ∙ sym (parent_is old q was.0 was.1) ∙ up in
      let p = parents_kept q m r at m_up in
      (child (parent_is new q m at ∙ m_up), (p.above, p.at))
  chain_kept {q} {r} (further {middle = c} up rest) m at =
      let was = (loses.places q m).0 at in
      let m_up : m.parent ≡ Some c = was.2.parent ∙ sym (parent_is old q was.0 was.1) ∙ up in
      let p = parents_kept q m c at m_up in
      let more = chain_kept rest p.above p.at in
      (further (parent_is new q m at ∙ m_up) more.0, more.1)

  root_kept : (frame : ℕ) (r : Place) → IsRoot old frame r → (a : Mapping) → shown new r ≡ Some a → IsRoot new frame r
  root_kept frame r root a at =
      let was = (loses.places r a).0 at in
      let same : was.0 ≡ root.mapping = same_value (sym was.1 ∙ root.at) in
      grind arith

  root_was : (frame : ℕ) (r : Place) → IsRoot new frame r → IsRoot old frame r
  root_was frame r root =
      let was = (loses.places r root.mapping).0 root.at in
      record { mapping = was.0; at = was.1; frame_is = sym was.2.frame ∙ root.frame_is; top = sym was.2.parent ∙ root.top }

  pub forest_kept : IsForest new
  forest_kept = record {
    in_space = λ q m at. let was = (loses.places q m).0 at in
        subst (λ (s : set.FinSet _). IsTrue (set.contains s q.space)) (sym loses.spaces) (forest.in_space q was.0 was.1);
    page_fits = λ q m at. let was = (loses.places q m).0 at in forest.page_fits q was.0 was.1;
    some_right = λ q m at. ((loses.places q m).0 at).2.some_right;
    parents = parents_kept;
    rooted = λ q m at.
        let was = (loses.places q m).0 at in
        let r = forest.rooted q was.0 was.1 in
        let frames : was.0.frame ≡ m.frame = sym was.2.frame in
        let root : IsRoot old m.frame r.0 = subst (λ (f : ℕ). IsRoot old f r.0) frames r.2 in
        elim r.1 [
          | inl same ↦ (r.0, inl same, root_kept m.frame r.0 root m (ap (shown new) (sym same) ∙ at))
          | inr chain ↦ let c = chain_kept chain m at in (r.0, inr c.0, root_kept m.frame r.0 root c.1.0 c.1.1)
        ];
    one_root = λ f a b x y. forest.one_root f a b (root_was f a x) (root_was f b y);
  }
