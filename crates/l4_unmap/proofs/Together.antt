-- Rights that are lost in two steps are lost in one.
use Rattle.std.proofs.Common.{◌≡◌, ◌≢◌, Option, Some, None, IsTrue, refl, sym, ◌∙◌, ◌↔◌, subst, inl, inr, ◌⊎◌}
use Rattle.l4_fpage.specs.Rights.{RightsSet, Right, Read, Write, Execute, has, no_rights}
use Rattle.l4_mapdb.specs.declared.Place.{Place}
use Rattle.l4_mapdb.specs.declared.Mapping.{Mapping}
use Rattle.l4_mapdb.specs.Mappings.{Mappings, shown}
use Rattle.l4_mapdb.specs.Losing.{IsLeft, LosesRights}
use Rattle.l4_mapdb.proofs.ForestKept.{decide, left, left_is, no_right}
use Rattle.l4_mapdb.proofs.Unique.{same_value, same_rights}

-- a place that keeps a right is there
not_absent : (Lost : Place → Right → Type 0) (old new : Mappings) → LosesRights Lost old new → (q : Place) (b : Mapping) → shown old q ≡ Some b
    → (keeps : RightsSet) → keeps ≢ no_rights → ((k : Right) → IsTrue (has keeps k) → IsTrue (has b.rights k) × ¬ (Lost q k)) → shown new q ≡ None → ⊥
not_absent Lost old new loses q b at keeps some both absent =
    decide (Lost q Read) (λ r. decide (Lost q Write) (λ w. decide (Lost q Execute) (λ x.
    let rest : RightsSet = record { r = left r b.rights.r; w = left w b.rights.w; x = left x b.rights.x } in
    let m : Mapping = record { frame = b.frame; rights = rest; parent = b.parent } in
    let rights : (k : Right) → IsTrue (has rest k) ↔ (IsTrue (has b.rights k) × ¬ (Lost q k)) =
    λ k. elim k as (λ v. IsTrue (has rest v) ↔ (IsTrue (has b.rights v) × ¬ (Lost q v))) [ Read ↦ left_is r b.rights.r | Write ↦ left_is w b.rights.w | Execute ↦ left_is x b.rights.x ] in
    let some_left : rest ≢ no_rights = λ none.
    some (same_rights keeps no_rights (λ k. (λ h. subst (λ (v : RightsSet). IsTrue (has v k)) none ((rights k).1 (both k h)), λ h. absurd (no_right k h)))) in
    let there : shown new q ≡ Some m = (loses.places q m).1 (b, at, record { frame = refl; parent = refl; rights = rights; some_right = some_left }) in
    let e : ◌≡◌ {A = Option Mapping} None (Some m) = sym absent ∙ there in
    cc)))

-- two losses, and one that says the same of each place that is there between them
module _ (First Second Both : Place → Right → Type 0) (old mid new : Mappings) (first : LosesRights First old mid) (second : LosesRights Second mid new)
    (from_first : (q : Place) (k : Right) → First q k → Both q k)
    (from_second : (q : Place) (m : Mapping) → shown mid q ≡ Some m → (k : Right) → Second q k → Both q k)
    (from_both : (q : Place) (m : Mapping) → shown mid q ≡ Some m → (k : Right) → Both q k → First q k ⊎ Second q k) where
  left_both : (q : Place) (b a m : Mapping) → shown mid q ≡ Some a → IsLeft (First q) b a → IsLeft (Second q) a m → IsLeft (Both q) b m
  left_both q b a m at x y = record {
    frame = y.frame ∙ x.frame;
    parent = y.parent ∙ x.parent;
    rights = λ k. (
      λ h. let w = (y.rights k).0 h in let v = (x.rights k).0 w.0 in (v.0, λ l. elim (from_both q a at k l) [ inl e ↦ v.1 e | inr e ↦ w.1 e ]),
      λ h. (y.rights k).1 ((x.rights k).1 (h.0, λ e. h.1 (from_first q k e)), λ e. h.1 (from_second q a at k e)),
    );
    some_right = y.some_right;
  }

  left_second : (q : Place) (b a m : Mapping) → shown mid q ≡ Some a → IsLeft (First q) b a → IsLeft (Both q) b m → IsLeft (Second q) a m
  left_second q b a m at x l = record {
    frame = l.frame ∙ sym x.frame;
    parent = l.parent ∙ sym x.parent;
    rights = λ k. (
      λ h. let w = (l.rights k).0 h in ((x.rights k).1 (w.0, λ e. w.1 (from_first q k e)), λ e. w.1 (from_second q a at k e)),
      λ h. let v = (x.rights k).0 h.0 in (l.rights k).1 (v.0, λ e. elim (from_both q a at k e) [ inl y ↦ v.1 y | inr y ↦ h.1 y ]),
    );
    some_right = l.some_right;
  }

  pub loses_both : LosesRights Both old new
  loses_both = record {
    spaces = second.spaces ∙ first.spaces;
    places = λ q m. (
      λ at. let w = (second.places q m).0 at in let v = (first.places q w.0).0 w.1 in (v.0, v.1, left_both q v.0 w.0 m w.1 v.2 w.2),
      λ h. elim (shown mid q) as (λ o. shown mid q ≡ o → shown new q ≡ Some m) [
        | None ↦ λ e.
            absurd (not_absent First old mid first q h.0 h.1 m.rights h.2.some_right
            (λ k t. let w = (h.2.rights k).0 t in (w.0, λ l. w.1 (from_first q k l))) e)
        | Some a ↦ λ e.
            let v = (first.places q a).0 e in
            let same : v.0 ≡ h.0 = same_value (sym v.1 ∙ h.1) in
            let x : IsLeft (First q) h.0 a = subst (λ (b : Mapping). IsLeft (First q) b a) same v.2 in
            (second.places q m).1 (a, e, left_second q h.0 a m e x h.2)
      ] refl,
    );
  }
