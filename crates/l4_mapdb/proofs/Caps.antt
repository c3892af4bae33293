-- What caps of granted pages leave.
use Rattle.std.proofs.Common.{◌≡◌, ℕ, Bool, true, false, ◌&&◌, Option, Some, None, option_and_then, ◌↔◌, ◌⊎◌, inl, inr, IsTrue, refl, sym, ap, ◌∙◌, subst, arith}
use Rattle.std.specs.Option.{option_map}
use Rattle.l4_fpage.specs.Rights.{RightsSet, Right, Read, Write, Execute, has, common, no_rights}
use Rattle.l4_nodes.specs.declared.Place.{Place}
use Rattle.l4_links.specs.declared.Standing.{Standing}
use Rattle.l4_links.specs.declared.Entry.{Entry}
use Rattle.l4_links.specs.Entries.{Entries, entry_at, standing_at, parent_of, Descends, CapsTree, capped}
use Rattle.l4_mapdb.specs.Inside.Cutting.{bare, tidied, IsGrantedAt, IsOrBelow, LeavesRights, Capped}
use Rattle.l4_mapdb.proofs.Unique.{same_value}
use Rattle.l4_mapdb.proofs.Leading.{leads_along}
use Rattle.l4_mapdb.proofs.Marking.{by_key}

both_true : (x y : Bool) → IsTrue (x && y) ↔ (IsTrue x × IsTrue y)
both_true true y = (λ h. (refl, h), λ h. h.1)
both_true false y = (λ h. absurd (let e : false ≡ true = h in cc), λ h. absurd (let e : false ≡ true = h.0 in cc))

-- a right that both have
pub has_common : (a b : RightsSet) (k : Right) → IsTrue (has (common a b) k) ↔ (IsTrue (has a k) × IsTrue (has b k))
has_common a b Read = both_true a.r b.r
has_common a b Write = both_true a.w b.w
has_common a b Execute = both_true a.x b.x

-- what an entry says apart from rights

abbrev stands_of : Option Entry → Option Standing
stands_of o = option_and_then (λ (e : Entry). e.stands) o

abbrev pub rightless : Option Standing → Option Standing
rightless o = option_map (λ (t : Standing). record t { rights = no_rights }) o

abbrev granted_of : Option Entry → Option RightsSet
granted_of o = option_and_then (λ (t : Standing). t.granted) (stands_of o)

granted_bare : (o : Option Entry) → granted_of (bare o) ≡ granted_of o
granted_bare None = refl
granted_bare (Some e) = elim e.stands as (λ (o : Option Standing). option_and_then (λ (t : Standing). t.granted) (rightless o) ≡ option_and_then (λ (t : Standing). t.granted) o) [ None ↦ refl | Some t ↦ refl ]

place_bare : (o : Option Entry) → option_map {T = Entry} (λ e. e.place) (bare o) ≡ option_map {T = Entry} (λ e. e.place) o
place_bare None = refl
place_bare (Some e) = refl

-- what stands there apart from marks and rights, with its page
abbrev pub base : Option Entry → Option (Place × Standing)
base o = option_and_then (λ (e : Entry). option_map (λ (t : Standing). (let p : Place × Standing = (e.place, record t { source = false; granted = None; rights = no_rights }) in p)) e.stands) o

base_bare : (o : Option Entry) → base (bare o) ≡ base o
base_bare None = refl
base_bare (Some e) = elim e.stands as (λ (o : Option Standing). base (bare (Some (record e { stands = o }))) ≡ base (Some (record e { stands = o }))) [ None ↦ refl | Some t ↦ refl ]

base_tidied : (o : Option Entry) → base (tidied o) ≡ base o
base_tidied None = refl
base_tidied (Some e) = elim e.stands as (λ (o : Option Standing). base (tidied (Some (record e { stands = o }))) ≡ base (Some (record e { stands = o }))) [ None ↦ refl | Some t ↦ refl ]

pub bare_tidied : (o : Option Entry) → bare (tidied o) ≡ tidied (bare o)
bare_tidied None = refl
bare_tidied (Some e) = elim e.stands as (λ (o : Option Standing). bare (tidied (Some (record e { stands = o }))) ≡ tidied (bare (Some (record e { stands = o })))) [ None ↦ refl | Some t ↦ refl ]

-- what a key is, apart from marks and rights, stays
pub base_kept : (old new : Option Entry) (Touched : Type 0) → (bare new ≡ bare old) ⊎ (Touched × (bare new ≡ tidied (bare old))) → base new ≡ base old
base_kept old new Touched (inl same) = sym (base_bare new) ∙ ap base same ∙ base_bare old
base_kept old new Touched (inr tidy) = sym (base_bare new) ∙ ap base tidy.1 ∙ base_tidied (bare old) ∙ base_bare old

parent_base : (o : Option Entry) → option_and_then (λ (p : Place × Standing). p.1.parent) (base o) ≡ option_and_then (λ (t : Standing). t.parent) (stands_of o)
parent_base None = refl
parent_base (Some e) = elim e.stands as (λ (o : Option Standing). option_and_then (λ (p : Place × Standing). p.1.parent) (base (Some (record e { stands = o }))) ≡ option_and_then (λ (t : Standing). t.parent) o) [ None ↦ refl | Some t ↦ refl ]

-- where the same is under each key, marks and rights apart, the same descends from it
pub below_base : (a b : Entries) → ((key : ℕ) → base (entry_at b key) ≡ base (entry_at a key)) → (low high : ℕ) → IsOrBelow a low high → IsOrBelow b low high
below_base a b same low high (inl e) = inl e
below_base a b same low high (inr d) = inr (leads_along (parent_of a) (parent_of b) (λ key. sym (parent_base (entry_at a key)) ∙ ap (option_and_then (λ (p : Place × Standing). p.1.parent)) (sym (same key)) ∙ parent_base (entry_at b key)) d)

-- what an entry is with other rights has its page and its note
pub place_same : (o n : Option Entry) → bare n ≡ bare o → option_map {T = Entry} (λ e. e.place) n ≡ option_map {T = Entry} (λ e. e.place) o
place_same o n same = sym (place_bare n) ∙ ap (option_map {T = Entry} (λ e. e.place)) same ∙ place_bare o

pub granted_same : (o n : Option Entry) → bare n ≡ bare o → granted_of n ≡ granted_of o
granted_same o n same = sym (granted_bare n) ∙ ap granted_of same ∙ granted_bare o

-- what stands there stands here, at the same page, with the same frame and the same parent
pub record IsSameBase (e f : Entry) (t u : Standing) : Type 0 where
  pub place : f.place ≡ e.place
  pub frame : u.frame ≡ t.frame
  pub parent : u.parent ≡ t.parent

pub turned : {e f : Entry} {t u : Standing} → IsSameBase e f t u → IsSameBase f e u t
turned s = record { place = sym s.place; frame = sym s.frame; parent = sym s.parent }

pub base_stands : (a b : Option Entry) → base b ≡ base a → (e : Entry) (t : Standing) → a ≡ Some e → e.stands ≡ Some t → (f : Entry) × (u : Standing) × (b ≡ Some f) × (f.stands ≡ Some u) × IsSameBase e f t u
base_stands a b same e t at stands = go b refl
  where
    left : Standing → Standing
    left x = record x { source = false; granted = None; rights = no_rights }

    is : base b ≡ Some (e.place, left t)
    is = same ∙ ap base at ∙ ap (option_map (λ (x : Standing). (let p : Place × Standing = (e.place, left x) in p))) stands

    by_stands : (f : Entry) → b ≡ Some f → (o : Option Standing) → f.stands ≡ o → (f : Entry) × (u : Standing) × (b ≡ Some f) × (f.stands ≡ Some u) × IsSameBase e f t u
    by_stands f here None none = absurd (let z : ◌≡◌ {A = Option (Place × Standing)} None (Some (e.place, left t)) = sym (ap base here ∙ ap (option_map (λ (x : Standing). (let p : Place × Standing = (f.place, left x) in p))) none) ∙ is in cc)
    by_stands f here (Some u) there =
        let both : (f.place, left u) ≡ (e.place, left t) = same_value (sym (ap base here ∙ ap (option_map (λ (x : Standing). (let p : Place × Standing = (f.place, left x) in p))) there) ∙ is) in
        (f, u, here, there, record { place = ap (λ (x : Place × Standing). x.0) both; frame = ap (λ (x : Place × Standing). x.1.frame) both; parent = ap (λ (x : Place × Standing). x.1.parent) both })

    go : (o : Option Entry) → b ≡ o → (f : Entry) × (u : Standing) × (b ≡ Some f) × (f.stands ≡ Some u) × IsSameBase e f t u
    go None none = absurd (let z : ◌≡◌ {A = Option (Place × Standing)} None (Some (e.place, left t)) = sym (ap base none) ∙ is in cc)
    go (Some f) here = by_stands f here f.stands refl

-- what loses nothing keeps its rights
pub leaves_none : (Done : ℕ → Type 0) (s : Entries) → ((top : ℕ) (cap : RightsSet) → Done top → IsGrantedAt s top cap → ⊥) → LeavesRights Done s s
leaves_none Done s none key t u at_t at_u right = grind arith

-- the same pages, said in another way
pub leaves_as : (Done Other : ℕ → Type 0) (old new : Entries) → ((key : ℕ) → Done key ↔ Other key) → LeavesRights Done old new → LeavesRights Other old new
leaves_as Done Other old new how a key t u at_t at_u right =
    let r = a key t u at_t at_u right in
    (λ h. ((r.0 h).0, λ top cap d granted below. (r.0 h).1 top cap ((how top).1 d) granted below), λ h. r.1 (h.0, λ top cap d granted below. h.1 top cap ((how top).0 d) granted below))

-- the cap of one tree
module _ (old new : Entries) (top : ℕ) (cap : RightsSet) (caps : CapsTree top cap old new) (decided : (low high : ℕ) → Descends old low high ⊎ ¬ (Descends old low high)) where
  bare_all : (key : ℕ) → bare (entry_at new key) ≡ bare (entry_at old key)
  bare_all key = grind arith

  stands_capped : (o : Option Entry) (t : Standing) → stands_of o ≡ Some t → stands_of (option_map (capped cap) o) ≡ Some (record t { rights = common t.rights cap })
  stands_capped None t h = absurd (let z : ◌≡◌ {A = Option Standing} None (Some t) = h in cc)
  stands_capped (Some e) t h = ap (option_map (λ (x : Standing). record x { rights = common x.rights cap })) h

  inside_tree : (key : ℕ) (t u : Standing) → entry_at new key ≡ option_map (capped cap) (entry_at old key) → standing_at old key ≡ Some t → standing_at new key ≡ Some u → u ≡ record t { rights = common t.rights cap }
  inside_tree key t u is at_t at_u = same_value (sym at_u ∙ ap stands_of is ∙ stands_capped (entry_at old key) t at_t)

  -- only the top is such a page
  pub capped_tree : (Done : ℕ → Type 0) → Done top → IsGrantedAt old top cap → ((key : ℕ) → Done key → key ≡ top) → Capped Done old new
  capped_tree Done done granted only = record {
    same = bare_all;
    rights = λ key t u at_t at_u right. elim (decided key top) [
      | inl d ↦ within key t u (inside_tree key t u (caps.below_capped key d) at_t at_u) (inr d) right
      | inr n ↦ by_key key top
          (λ e. within key t u (inside_tree key t u (subst (λ (k : ℕ). entry_at new k ≡ option_map (capped cap) (entry_at old k)) (sym e) caps.top_capped) at_t at_u) (inl e) right)
          (λ ne. outside key t u (same_value (sym at_u ∙ ap stands_of (caps.kept key ne n) ∙ at_t)) (λ b. elim b [ inl s ↦ ne s | inr d ↦ n d ]) right)
    ];
  }
    where
      same_cap : (c : RightsSet) (k : ℕ) → Done k → IsGrantedAt old k c → c ≡ cap
      same_cap c k d g = same_value (sym g ∙ ap (λ (j : ℕ). option_and_then (λ (t : Standing). t.granted) (standing_at old j)) (only k d) ∙ granted)

      within : (key : ℕ) (t u : Standing) → u ≡ record t { rights = common t.rights cap } → IsOrBelow old key top → (right : Right)
          → IsTrue (has u.rights right) ↔ (IsTrue (has t.rights right) × ((k : ℕ) (c : RightsSet) → Done k → IsGrantedAt old k c → IsOrBelow old key k → IsTrue (has c right)))
      within key t u is below right =
          let c = has_common t.rights cap right in (
            λ h.
                let both = c.0 (subst (λ (x : Standing). IsTrue (has x.rights right)) is h) in
                (both.0, λ k d done' g b. subst (λ (x : RightsSet). IsTrue (has x right)) (sym (same_cap d k done' g)) both.1),
            λ h. subst (λ (x : Standing). IsTrue (has x.rights right)) (sym is) (c.1 (h.0, h.1 top cap done granted below)),
          )

      outside : (key : ℕ) (t u : Standing) → u ≡ t → ¬ (IsOrBelow old key top) → (right : Right)
          → IsTrue (has u.rights right) ↔ (IsTrue (has t.rights right) × ((k : ℕ) (c : RightsSet) → Done k → IsGrantedAt old k c → IsOrBelow old key k → IsTrue (has c right)))
      outside key t u is out right = (
        λ h. (subst (λ (x : Standing). IsTrue (has x.rights right)) is h, λ k c d g b. absurd (out (subst (λ (j : ℕ). IsOrBelow old key j) (only k d) b))),
        λ h. subst (λ (x : Standing). IsTrue (has x.rights right)) (sym is) h.0,
      )
