-- The first mappings are a forest, and a forest stays one where a space begins or ends.
use Rattle.std.proofs.Common.{◌≡◌, ◌≢◌, ℕ, ◌<◌, ◌≤◌, ◌&&◌, ◌||◌, not, Bool, true, false, Option, Some, None, refl, sym, ap, ◌∙◌, inl, inr, option_and_then, arith}
use Rattle.std.specs.Ordering.{nat_cmp, eq_by_cmp}
use Rattle.std.specs.Cmp.{nat_cmp_total}
use Rattle.std.specs.FinMap.{nat_cmp-IsAntisymmetric}
use Rattle.std.specs.FinSet as set
use Rattle.l4_fpage.specs.Rights.{RightsSet}
use Rattle.l4_mapdb.specs.declared.Place.{Place}
use Rattle.l4_mapdb.specs.declared.Mapping.{Mapping}
use Rattle.l4_mapdb.specs.Mappings.{Mappings, shown, parent_of, child, further, Descends, IsOrDescends, IsRoot, IsForest, ParentHolds}
use Rattle.l4_forest.specs.Losing.{EndsSpace, GoesWithSpace}
use Rattle.l4_forest.specs.Boot.{IsFirst}
use Rattle.l4_mapdb.proofs.EntriesLemmas.{is_equal}
use Rattle.l4_mapdb.proofs.Unique.{same_value}

or_right : (a b : Bool) → b ≡ true → (a || b) ≡ true
or_right true b h = refl
or_right false b h = h

-- sigma0's places alone are a forest
pub first_forest : (frames : ℕ) (s : Mappings) → frames ≤ 4096 → IsFirst frames s → IsForest s
first_forest frames s le first = record {
  in_space = λ q m at. let f = (first.places q m).0 at in
      ap (λ v. set.contains v q.space) first.spaces ∙ ap (set.contains (set.insert set.empty 0)) f.0 ∙ set.contains-insert nat_cmp_total set.empty 0 0;
  page_fits = λ q m at. let f = (first.places q m).0 at in let lt : q.page < frames = f.1 in omega arith;
  some_right = λ q m at e. let f = (first.places q m).0 at in
      let k : true ≡ false = ap (λ (v : Mapping). v.rights.r) (sym f.2) ∙ ap (λ (v : RightsSet). v.r) e in cc;
  parents = λ q m p at up. let f = (first.places q m).0 at in
      absurd (let k : ◌≡◌ {A = Option Place} None (Some p) = ap (λ (v : Mapping). v.parent) (sym f.2) ∙ up in cc);
  rooted = λ q m at. let f = (first.places q m).0 at in
      (q, inl refl, record { mapping = m; at = at; frame_is = refl; top = ap (λ (v : Mapping). v.parent) f.2 });
  one_root = λ f a b x y.
      let p = (first.places a x.mapping).0 x.at in
      let q = (first.places b y.mapping).0 y.at in
      let space : a.space ≡ b.space = p.0 ∙ sym q.0 in
      let page : a.page ≡ b.page = ap (λ (v : Mapping). v.frame) (sym p.2) ∙ x.frame_is ∙ sym y.frame_is ∙ ap (λ (v : Mapping). v.frame) q.2 in
      λ i. record { space = space i; page = page i };
}

-- a new space shows nothing
pub begins_keeps : (s : Mappings) (space : ℕ) → IsForest s → IsForest (record s { spaces = set.insert s.spaces space })
begins_keeps s space f = record {
  in_space = λ q m at. set.contains-insert nat_cmp_total s.spaces space q.space ∙ or_right (eq_by_cmp nat_cmp q.space space) _ (f.in_space q m at);
  page_fits = f.page_fits;
  some_right = f.some_right;
  parents = λ q m p at up. let h = f.parents q m p at up in record { above = h.above; at = h.at; same_frame = h.same_frame; within = h.within };
  rooted = λ q m at. let r = f.rooted q m at in (r.0, along r.1, root r.2);
  one_root = λ g a b x y. f.one_root g a b (back x) (back y);
} where
  chain : {low high : Place} → Descends s low high → Descends (record s { spaces = set.insert s.spaces space }) low high
  chain h = h

  along : {low high : Place} → IsOrDescends s low high → IsOrDescends (record s { spaces = set.insert s.spaces space }) low high
  along (inl e) = inl e
  along (inr d) = inr (chain d)

  root : {g : ℕ} {p : Place} → IsRoot s g p → IsRoot (record s { spaces = set.insert s.spaces space }) g p
  root r = record { mapping = r.mapping; at = r.at; frame_is = r.frame_is; top = r.top }

  back : {g : ℕ} {p : Place} → IsRoot (record s { spaces = set.insert s.spaces space }) g p → IsRoot s g p
  back r = record { mapping = r.mapping; at = r.at; frame_is = r.frame_is; top = r.top }

module _ (space : ℕ) (old new : Mappings) (forest : IsForest old) (ends : EndsSpace space old new) where
  -- what descends from a place that goes goes
  goes_down : (q p : Place) (m : Mapping) → shown old q ≡ Some m → m.parent ≡ Some p → GoesWithSpace old space p → GoesWithSpace old space q
  goes_down q p m at up g =
      let step : parent_of old q ≡ Some p = ap (option_and_then (λ (v : Mapping). v.parent)) at ∙ up in
      (g.0, g.1, inr (elim g.2 [ inl e ↦ child (step ∙ ap (λ (v : Place). Some v) e) | inr d ↦ further step d ]))

  parents_stay : (q : Place) (m : Mapping) (p : Place) → shown new q ≡ Some m → m.parent ≡ Some p → ParentHolds new m p
  parents_stay q m p at up =
      let was = (ends.places q m).0 at in
      let h = forest.parents q m p was.0 up in
      record { above = h.above; at = (ends.places p h.above).1 (h.at, λ g. was.1 (goes_down q p m was.0 up g)); same_frame = h.same_frame; within = h.within }

  parent_is : (q : Place) (m : Mapping) → shown new q ≡ Some m → parent_of new q ≡ m.parent
  parent_is q m at = ap (option_and_then (λ (v : Mapping). v.parent)) at

  chain_stays : {q r : Place} → Descends old q r → (m : Mapping) → shown new q ≡ Some m → Descends new q r × ((a : Mapping) × (shown new r ≡ Some a))
  chain_stays {q} {r} (child up) m at =
      let was = (ends.places q m).0 at in
      let m_up : m.parent ≡ Some r = sym (ap (option_and_then (λ (v : Mapping). v.parent)) was.0) ∙ up in
      let p = parents_stay q m r at m_up in
      (child (parent_is q m at ∙ m_up), (p.above, p.at))
  chain_stays {q} {r} (further {middle = c} up rest) m at =
      let was = (ends.places q m).0 at in
      let m_up : m.parent ≡ Some c = sym (ap (option_and_then (λ (v : Mapping). v.parent)) was.0) ∙ up in
      let p = parents_stay q m c at m_up in
      let more = chain_stays rest p.above p.at in
      (further (parent_is q m at ∙ m_up) more.0, more.1)

  root_stays : (frame : ℕ) (r : Place) (a : Mapping) → IsRoot old frame r → shown new r ≡ Some a → IsRoot new frame r
  root_stays frame r a root at =
      let was = (ends.places r a).0 at in
      let e : a ≡ root.mapping = same_value (sym was.0 ∙ root.at) in
      record { mapping = a; at = at; frame_is = ap (λ (v : Mapping). v.frame) e ∙ root.frame_is; top = ap (λ (v : Mapping). v.parent) e ∙ root.top }

  other_space : (q : Place) → ¬ (GoesWithSpace old space q) → q.space ≢ space
  other_space q n e = n (q, e, inl refl)

  differs : (a b : ℕ) → a ≢ b → eq_by_cmp nat_cmp a b ≡ false
  differs a b ne = elim (eq_by_cmp nat_cmp a b) as (λ v. eq_by_cmp nat_cmp a b ≡ v → v ≡ false) [
    | true ↦ λ h. absurd (ne (nat_cmp-IsAntisymmetric a b (is_equal (nat_cmp a b) h)))
    | false ↦ λ _. refl
  ] refl

  pub ends_keeps : IsForest new
  ends_keeps = record {
    in_space = λ q m at.
        let was = (ends.places q m).0 at in
        ap (λ v. set.contains v q.space) ends.spaces ∙ set.contains-remove nat_cmp_total old.spaces space q.space
        ∙ (λ i. not (differs q.space space (other_space q was.1) i) && forest.in_space q m was.0 i);
    page_fits = λ q m at. forest.page_fits q m ((ends.places q m).0 at).0;
    some_right = λ q m at. forest.some_right q m ((ends.places q m).0 at).0;
    parents = parents_stay;
    rooted = λ q m at.
        let was = (ends.places q m).0 at in
        let r = forest.rooted q m was.0 in
        elim r.1 [
          | inl same ↦ (r.0, inl same, root_stays m.frame r.0 m r.2 (ap (shown new) (sym same) ∙ at))
          | inr chain ↦ let c = chain_stays chain m at in (r.0, inr c.0, root_stays m.frame r.0 c.1.0 r.2 c.1.1)
        ];
    one_root = λ f a b x y.
        forest.one_root f a b
        (record { mapping = x.mapping; at = ((ends.places a x.mapping).0 x.at).0; frame_is = x.frame_is; top = x.top })
        (record { mapping = y.mapping; at = ((ends.places b y.mapping).0 y.at).0; frame_is = y.frame_is; top = y.top });
  }
