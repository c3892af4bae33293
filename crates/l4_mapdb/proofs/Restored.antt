-- What was marked and is marked no longer is as it was.
use Rattle.std.proofs.Common.{◌≡◌, ℕ, ◌^◌, Bool, true, false, List, length, Option, Some, None, option_and_then, option_map, refl, sym, ap, ◌∙◌, subst, slice_get, inl, inr, ◌⊎◌, arith}
use Rattle.std.proofs.lemmas.Option.{slice_get_within}
use Rattle.l4_fpage.specs.Rights.{RightsSet, no_rights}
use Rattle.l4_msg.specs.Moves.{MovePairs}
use Rattle.l4_nodes.specs.declared.Place.{Place as LinkPlace}
use Rattle.l4_links.specs.declared.Standing.{Standing}
use Rattle.l4_links.specs.declared.Entry.{Entry}
use Rattle.l4_links.specs.Entries.{Entries, Linked, entry_at, standing_at, IsStanding, parent_of, IsAt, IsSource, Descends}
use Rattle.l4_msg.specs.declared.items.ItemMove.{ItemMove}
use Rattle.l4_mapdb.proofs.Unique.{same_value, same_rights}
use Rattle.l4_mapdb.specs.declared.sources.UsedMove.{UsedMove}
use Rattle.l4_mapdb.specs.Delivering.{IsClean}
use Rattle.l4_mapdb.specs.Inside.Messages.{plain, stand_at, StandAlike, IsMoved, IsWaiting, Marks, AreMarked, OfItems, Wants, IsFilled}
use Rattle.l4_mapdb.specs.Inside.Cutting.{bare, tidied, IsGrantedAt, Tidies}
use Rattle.l4_mapdb.proofs.Caps.{bare_tidied}
use Rattle.l4_mapdb.specs.Inside.Tangles.{Clashes, Tangles, HasTangle}
use Rattle.l4_mapdb.proofs.Leading.{leads_along}
use Rattle.l4_mapdb.proofs.Moves.{stand_of, stands_as, with_place, is_at}
use Rattle.l4_mapdb.proofs.Marking.{moved_alike, alike_on}
use Rattle.l4_mapdb.proofs.Rooming.{wants_alike}

-- a bool is one or the other
pub by_bool : {A : Type 0} (b : Bool) → (b ≡ true → A) → (b ≡ false → A) → A
by_bool true f g = f refl
by_bool false f g = g refl

-- what stands without a mark
plain_is : (t : Standing) → t.source ≡ false → t.granted ≡ None → plain t ≡ t
plain_is t source granted = λ i. record { frame = t.frame; rights = t.rights; source = (sym source) i; granted = (sym granted) i; parent = t.parent }

-- an entry without a mark
pub unmarked_is : (e : Entry) (t : Standing) → e.wanted ≡ false → e.stands ≡ Some t → t.source ≡ false → t.granted ≡ None → Some e ≡ tidied (Some e)
unmarked_is e t unwanted stands source granted = grind arith

-- clean entries are what they are without their marks
clean_none : (old : Linked) → IsClean old → (key : ℕ) → stand_at old.entries key ≡ None → entry_at old.entries key ≡ None
clean_none old clean key none = elim (entry_at old.entries key) as (λ (o : Option Entry). entry_at old.entries key ≡ o → o ≡ None) [
  | None ↦ λ _. refl
  | Some e ↦ λ at.
      let p = clean key e at in
      absurd (let k : ◌≡◌ {A = Option (LinkPlace × Standing)} None (Some (e.place, plain p.standing)) = sym none ∙ stands_as old.entries key e p.standing at p.stands in cc)
] refl

clean_some : (old : Linked) → IsClean old → (key : ℕ) (place : LinkPlace) (t : Standing) → stand_at old.entries key ≡ Some (place, t) → entry_at old.entries key ≡ Some (record { place = place; wanted = false; stands = Some t })
clean_some old clean key place t is =
    let o = stand_of old.entries key place t is in
    let p = clean key o.entry o.at in
    let same : p.standing ≡ o.standing = same_value (sym p.stands ∙ o.stands) in
    let source : o.standing.source ≡ false = ap (λ (x : Standing). x.source) (sym same) ∙ p.no_source in
    let granted : o.standing.granted ≡ None = ap (λ (x : Standing). x.granted) (sym same) ∙ p.not_granted in
    let stands : o.entry.stands ≡ Some t = o.stands ∙ ap (λ (x : Standing). Some x) (sym (plain_is o.standing source granted) ∙ o.plain_is) in
    o.at ∙ (λ i. Some (record { place = o.place_is i; wanted = p.unwanted i; stands = stands i }))

-- what is left of an entry without its marks is what was there
tidied_was : (old : Linked) → IsClean old → (cur : Entries) (key : ℕ) → stand_at cur key ≡ stand_at old.entries key → tidied (entry_at cur key) ≡ entry_at old.entries key
tidied_was old clean cur key alike = grind (arith, Option, option_and_then, option_map, with_place, None, sym, clean_none, Some, false, clean_some)

-- entries that are the same apart from rights, and have the same rights, are one
by_rights : (o n : Option Standing) → option_map (λ (t : Standing). record t { rights = no_rights }) n ≡ option_map (λ (t : Standing). record t { rights = no_rights }) o → ((t u : Standing) → o ≡ Some t → n ≡ Some u → u.rights ≡ t.rights) → n ≡ o
by_rights None None same rights = refl
by_rights None (Some u) same rights = absurd (let z : ◌≡◌ {A = Option Standing} (Some (record u { rights = no_rights })) None = same in cc)
by_rights (Some t) None same rights = absurd (let z : ◌≡◌ {A = Option Standing} None (Some (record t { rights = no_rights })) = same in cc)
by_rights (Some t) (Some u) same rights =
    let one : record u { rights = no_rights } ≡ record t { rights = no_rights } = same_value same in
    λ i. Some (record { frame = (one i).frame; rights = rights t u refl refl i; source = (one i).source; granted = (one i).granted; parent = (one i).parent })

bare_exact : (o n : Option Entry) → bare n ≡ bare o → ((t u : Standing) → option_and_then (λ (e : Entry). e.stands) o ≡ Some t → option_and_then (λ (e : Entry). e.stands) n ≡ Some u → u.rights ≡ t.rights) → n ≡ o
bare_exact None None same rights = refl
bare_exact None (Some f) same rights = absurd (let z : ◌≡◌ {A = Option Entry} (bare (Some f)) None = same in cc)
bare_exact (Some e) None same rights = absurd (let z : ◌≡◌ {A = Option Entry} None (bare (Some e)) = same in cc)
bare_exact (Some e) (Some f) same rights =
    let is = same_value same in
    let stands : f.stands ≡ e.stands = by_rights e.stands f.stands (ap (λ (x : Entry). x.stands) is) rights in
    λ i. Some (record { place = (is i).place; wanted = (is i).wanted; stands = stands i })

tidied_stands : (o : Option Entry) (t : Standing) → option_and_then (λ (e : Entry). e.stands) (tidied o) ≡ Some t → (u : Standing) × (option_and_then (λ (e : Entry). e.stands) o ≡ Some u) × (u.rights ≡ t.rights)
tidied_stands None t at = absurd (let z : ◌≡◌ {A = Option Standing} None (Some t) = at in cc)
tidied_stands (Some e) t at = grind arith

-- a used move is of pages that the items name
pub target_in : (from to : ℕ) (items : List ItemMove) (item : ℕ) (by : ItemMove) (source : ℕ) (place : LinkPlace) → slice_get items item ≡ Some by → place.space ≡ to → MovePairs (Some by.mv) source place.page → OfItems from to items (length items) place
target_in from to items item by source place at space pages =
    let size : 2 ^ by.mv.source.log ≡ 2 ^ by.mv.target.log = ap (λ (n : ℕ). 2 ^ n) by.mv.same_size in
    let i = pages.within in
    let p = pages.target_is in
    (item, by, slice_get_within items item by at, at, inr (space, omega (arith, p), omega (arith, p, i, size)))

pub source_in : (from to : ℕ) (items : List ItemMove) (item : ℕ) (by : ItemMove) (target : ℕ) (place : LinkPlace) → slice_get items item ≡ Some by → place.space ≡ from → MovePairs (Some by.mv) place.page target → OfItems from to items (length items) place
source_in from to items item by target place at space pages =
    let i = pages.within in
    let p = pages.source_is in
    (item, by, slice_get_within items item by at, at, inl (space, omega (arith, p), omega (arith, p, i)))

module _ (old : Linked) (clean : IsClean old) (from to : ℕ) (items : List ItemMove) where
  abbrev Used : UsedMove → Type 0
  Used = IsMoved old.entries from to items

  module _ (cur : Entries) (marks : Marks Used old.entries cur) where
    waiting_named : (key : ℕ) (e : Entry) → entry_at cur key ≡ Some e → IsWaiting e → OfItems from to items (length items) e.place
    waiting_named key e at waits =
        let t = marks.targets key e at waits in
        subst (λ (p : LinkPlace). OfItems from to items (length items) p) t.2 (target_in from to items t.0.item t.1.by t.0.page t.0.target t.1.item t.1.to_space t.1.pages)

    marked_named : (key : ℕ) (e : Entry) (t : Standing) → entry_at cur key ≡ Some e → e.stands ≡ Some t → t.source ≡ true → OfItems from to items (length items) e.place
    marked_named key e t at stands source =
        let is : IsSource cur key = ap (λ (o : Option Entry). option_map (λ (x : Standing). x.source) (option_and_then (λ (x : Entry). x.stands) o)) at ∙ ap (option_map (λ (x : Standing). x.source)) stands ∙ ap (λ (b : Bool). Some b) source in
        let m = marks.sources key is in
        let o = stand_of old.entries m.0.source (record { space = from; page = m.0.page }) m.1.standing m.1.stands in
        let here : stand_at cur key ≡ Some (record { space = from; page = m.0.page }, m.1.standing) = marks.alike key ∙ ap (stand_at old.entries) (sym m.2) ∙ m.1.stands in
        let c = stand_of cur key (record { space = from; page = m.0.page }) m.1.standing here in
        let same : c.entry ≡ e = same_value (sym c.at ∙ at) in
        subst (λ (p : LinkPlace). OfItems from to items (length items) p) (sym c.place_is ∙ ap (λ (x : Entry). x.place) same) (source_in from to items m.0.item m.1.by m.0.target.page (record { space = from; page = m.0.page }) m.1.item refl m.1.pages)

    module _ (new : Entries) (tidies : Tidies (OfItems from to items (length items)) cur new) where
      not_noted : (key : ℕ) (cap : RightsSet) → ¬ (IsGrantedAt cur key cap)
      not_noted key cap granted = elim (standing_at cur key) as (λ (o : Option Standing). standing_at cur key ≡ o → ⊥) [
        | None ↦ λ none. let z : ◌≡◌ {A = Option RightsSet} None (Some cap) = sym (ap (option_and_then (λ (t : Standing). t.granted)) none) ∙ granted in cc
        | Some t ↦ λ at. let z : ◌≡◌ {A = Option RightsSet} None (Some cap) = sym (marks.not_granted key t at) ∙ sym (ap (option_and_then (λ (t : Standing). t.granted)) at) ∙ granted in cc
      ] refl

      -- as no page was granted, what stands keeps its rights
      rights_kept : (key : ℕ) (t u : Standing) → standing_at cur key ≡ Some t → standing_at new key ≡ Some u → u.rights ≡ t.rights
      rights_kept key t u at_t at_u = same_rights u.rights t.rights (λ right. let r = tidies.rights key t u at_t at_u right in (λ h. (r.0 h).0, λ h. r.1 (h, λ top cap _ granted _. absurd (not_noted top cap granted))))

      -- an entry that no item names has no mark
      unnamed_tidy : (key : ℕ) (e : Entry) → entry_at cur key ≡ Some e → entry_at new key ≡ Some e → ((named : OfItems from to items (length items) e.place) → entry_at new key ≡ tidied (Some e)) → entry_at new key ≡ tidied (Some e)
      unnamed_tidy key e at same here = by_bool e.wanted
          (λ wanted. here (waiting_named key e at (inl wanted)))
          (λ unwanted. elim e.stands as (λ (o : Option Standing). e.stands ≡ o → entry_at new key ≡ tidied (Some e)) [
            | None ↦ λ none. here (waiting_named key e at (inr none))
            | Some t ↦ λ stands. by_bool t.source
                (λ source. here (marked_named key e t at stands source))
                (λ source. same ∙ unmarked_is e t unwanted stands source (marks.not_granted key t (ap (option_and_then (λ (x : Entry). x.stands)) at ∙ stands)))
          ] refl)

      tidy : (key : ℕ) → bare (entry_at new key) ≡ tidied (bare (entry_at cur key)) → entry_at new key ≡ tidied (entry_at cur key)
      tidy key is = bare_exact (tidied (entry_at cur key)) (entry_at new key) (is ∙ sym (bare_tidied (entry_at cur key)))
          (λ t u at_t at_u. let w = tidied_stands (entry_at cur key) t at_t in rights_kept key w.0 u w.1 at_u ∙ w.2)

      -- once the marks are taken away all is as it was
      pub restored : (key : ℕ) → entry_at new key ≡ entry_at old.entries key
      restored key = elim (tidies.each key) [
        | inr is ↦ tidy key is.1 ∙ tidied_was old clean cur key (marks.alike key)
        | inl is ↦
            let same = bare_exact (entry_at cur key) (entry_at new key) is (rights_kept key) in
            elim (entry_at cur key) as (λ (o : Option Entry). entry_at cur key ≡ o → entry_at new key ≡ entry_at old.entries key) [
              | None ↦ λ none.
                  let gone : stand_at old.entries key ≡ None = sym (marks.alike key) ∙ ap (option_and_then (λ (e : Entry). option_map (with_place e.place) e.stands)) none in
                  same ∙ none ∙ sym (clean_none old clean key gone)
              | Some e ↦ λ at.
                  unnamed_tidy key e at (same ∙ at) (λ named. tidy key (tidies.here key (e.place, named, is_at cur key e e.place at refl)) ∙ ap tidied at)
                  ∙ ap tidied (sym at) ∙ tidied_was old clean cur key (marks.alike key)
            ] refl
      ]

  -- what is only looked at keeps its marks
  marks_same : (a b : Entries) → ((key : ℕ) → entry_at b key ≡ entry_at a key) → Marks Used old.entries a → Marks Used old.entries b
  marks_same a b same marks = grind arith

  pub marked_same : (a b : Entries) → ((key : ℕ) → entry_at b key ≡ entry_at a key) → AreMarked Used old.entries a → AreMarked Used old.entries b
  marked_same a b same marked = grind arith

  pub wants_stands : (A : LinkPlace → Type 0) (o n : Option Entry) → Wants A o n → option_and_then (λ (x : Entry). x.stands) n ≡ option_and_then (λ (x : Entry). x.stands) o
  wants_stands A o n (inl same) = ap (option_and_then (λ (x : Entry). x.stands)) same
  wants_stands A o n (inr (inl w)) = ap (option_and_then (λ (x : Entry). x.stands)) w.3 ∙ sym (ap (option_and_then (λ (x : Entry). x.stands)) w.1)
  wants_stands A o n (inr (inr w)) = ap (option_and_then (λ (x : Entry). x.stands)) w.3 ∙ sym (ap (option_and_then (λ (x : Entry). x.stands)) w.1)

  wants_waits : (A : LinkPlace → Type 0) (o n : Option Entry) (e : Entry) → Wants A o n → n ≡ Some e → (o ≡ Some e) ⊎ A e.place
  wants_waits A o n e (inl same) at = inl (sym same ∙ at)
  wants_waits A o n e (inr (inl w)) at = let one : record w.0 { wanted = true } ≡ e = same_value (sym w.3 ∙ at) in inr (subst A (ap (λ (x : Entry). x.place) one) w.2)
  wants_waits A o n e (inr (inr w)) at = let one : record { place = w.0; wanted = true; stands = None } ≡ e = same_value (sym w.3 ∙ at) in inr (subst A (ap (λ (x : Entry). x.place) one) w.2)

  -- what is wanted for the targets is marked for them
  pub marks_wanted : (a b : Entries) → ((key : ℕ) → Wants (IsFilled (IsMoved a from to items)) (entry_at a key) (entry_at b key)) → Marks Used old.entries a → Marks Used old.entries b
  marks_wanted a b wants marks = record {
    alike = alike_on old.entries a b marks.alike (wants_alike (IsFilled (IsMoved a from to items)) a b wants);
    sources = grind arith;
    targets = λ key e at waits. elim (wants_waits (IsFilled (IsMoved a from to items)) (entry_at a key) (entry_at b key) e (wants key) at) [
      | inl was ↦ marks.targets key e was waits
      | inr f ↦ (f.0, moved_alike old.entries a from to items marks.alike f.0 f.1, f.2)
    ];
    not_granted = λ key t stands. marks.not_granted key t (sym (wants_stands (IsFilled (IsMoved a from to items)) (entry_at a key) (entry_at b key) (wants key)) ∙ stands);
  }

-- what stands alike has the same parents

stand_parent : (o : Option (LinkPlace × Standing)) → Option ℕ
stand_parent o = option_and_then (λ (p : LinkPlace × Standing). p.1.parent) o

parent_stand : (s : Entries) (key : ℕ) → parent_of s key ≡ stand_parent (stand_at s key)
unfolding stand_parent
parent_stand s key = elim (entry_at s key) as (λ (o : Option Entry). option_and_then (λ (t : Standing). t.parent) (option_and_then (λ (x : Entry). x.stands) o)
    ≡ option_and_then (λ (p : LinkPlace × Standing). p.1.parent) (option_and_then (λ (e : Entry). option_map (with_place e.place) e.stands) o)) [
      | None ↦ refl
      | Some e ↦ elim e.stands as (λ (o : Option Standing). option_and_then (λ (t : Standing). t.parent) o ≡ option_and_then (λ (p : LinkPlace × Standing). p.1.parent) (option_map (with_place e.place) o)) [
        | None ↦ refl
        | Some t ↦ refl
      ]
    ]

pub alike_parent : (a b : Entries) → StandAlike a b → (key : ℕ) → parent_of b key ≡ parent_of a key
alike_parent a b alike key = parent_stand b key ∙ ap stand_parent (alike key) ∙ sym (parent_stand a key)

pub alike_descends : (a b : Entries) → StandAlike a b → (low high : ℕ) → Descends b low high → Descends a low high
alike_descends a b alike low high d = leads_along (parent_of b) (parent_of a) (alike_parent a b alike) d

-- a key where something stands is of the same page
pub alike_at : (a b : Entries) → StandAlike a b → (place : LinkPlace) (key : ℕ) → IsAt b place key → IsStanding b key → IsAt a place key × IsStanding a key
alike_at a b alike place key at stands = grind arith

-- a message that is entangled is where the same stands
module _ (a b : Entries) (alike : StandAlike a b) (from to : ℕ) (items : List ItemMove) where
  alike_clashes : (m : UsedMove) → Clashes (IsMoved b from to items) m → Clashes (IsMoved a from to items) m
  alike_clashes m (inl f) = inl (record { other = f.other; used = moved_alike a b from to items alike f.other f.used; differ = f.differ; target = f.target })
  alike_clashes m (inr g) = inr (g.0, record { other = g.1.other; used = moved_alike a b from to items alike g.1.other g.1.used; differ = g.1.differ; page_is = g.1.page_is })

  pub alike_tangles : (m : UsedMove) → Tangles (IsMoved b from to items) b m → Tangles (IsMoved a from to items) a m
  alike_tangles m (inl clash) = inl (alike_clashes m clash)
  alike_tangles m (inr r) =
      let k = alike_at a b alike m.target r.key r.at r.stands in
      inr (record {
        key = r.key;
        at = k.0;
        stands = k.1;
        other = r.other;
        used = moved_alike a b from to items alike r.other r.used;
        above = elim r.above [ inl e ↦ inl e | inr d ↦ inr (alike_descends a b alike r.other.source r.key d) ];
      })

  pub tangle_alike : HasTangle (IsMoved b from to items) b → HasTangle (IsMoved a from to items) a
  tangle_alike h = record { move = h.move; used = moved_alike a b from to items alike h.move h.used; tangles = alike_tangles h.move h.tangles }
