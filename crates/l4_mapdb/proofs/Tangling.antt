-- When the used moves of a message contradict each other, by keys.
use Rattle.std.proofs.Common.{◌≡◌, ◌≢◌, ℕ, ◌+◌, ◌-◌, ◌<◌, ◌≤◌, Bool, true, false, List, length, Option, Some, None, IsTrue, MatchOption, option_map, refl, sym, ap, ◌∙◌, ◌↔◌, subst, slice_get, inl, inr, ◌⊎◌, arith}
use Rattle.std.proofs.lemmas.Bool.{false≢true}
use Rattle.l4_nodes.specs.declared.Place.{Place as LinkPlace}
use Rattle.l4_links.specs.declared.Standing.{Standing}
use Rattle.l4_links.specs.Leads.{Leads, step, steps}
use Rattle.l4_links.specs.Entries.{Entries, standing_at, IsAt, IsSource, Descends}
use Rattle.l4_msg.specs.declared.items.ItemMove.{ItemMove}
use Rattle.l4_mapdb.proofs.Unique.{same_value}
use Rattle.l4_mapdb.specs.declared.sources.UsedMove.{UsedMove}
use Rattle.l4_mapdb.specs.Inside.Messages.{IsMoved, AreMarked}
use Rattle.l4_mapdb.specs.Inside.Tangles.{Replaces, Clashes, ClashesWith, Tangles, HasTangle, AboveSource}
use Rattle.l4_mapdb.proofs.Moves.{one_by, move_item}
use Rattle.l4_mapdb.proofs.Marking.{moved_alike, moved_still, source_of}
use Rattle.l4_mapdb.proofs.Restored.{alike_tangles, tangle_alike}

module _ (s : Entries) (from to : ℕ) (items : List ItemMove) where
  abbrev Used : UsedMove → Type 0
  Used = IsMoved s from to items

  -- what is known of the move out of the page is known of the move into the place
  pub into_of : (item : ℕ) (by : ItemMove) (place : LinkPlace) (answer : Option UsedMove) → slice_get items item ≡ Some by → place.space ≡ to → by.mv.target.first ≤ place.page
      → MatchOption answer ((u : UsedMove) → Used u → u.item ≡ item → u.page ≢ place.page - by.mv.target.first + by.mv.source.first)
      (λ m. Used m × (m.item ≡ item) × (m.page ≡ place.page - by.mv.target.first + by.mv.source.first))
      → MatchOption answer ((u : UsedMove) → Used u → u.item ≡ item → u.target ≢ place) (λ m. Used m × (m.item ≡ item) × (m.target ≡ place))
  into_of item by place None at here le h = λ u used item_is target.
      let same : used.by ≡ by = one_by items item used.by by (ap (slice_get items) (sym item_is) ∙ used.item) at in
      let first : used.by.mv.source.first ≡ by.mv.source.first = ap (λ (x : ItemMove). x.mv.source.first) same in
      let second : used.by.mv.target.first ≡ by.mv.target.first = ap (λ (x : ItemMove). x.mv.target.first) same in
      let a : u.page ≡ used.by.mv.source.first + used.pages.index = used.pages.source_is in
      let b : u.target.page ≡ used.by.mv.target.first + used.pages.index = used.pages.target_is in
      let c : u.target.page ≡ place.page = ap (λ (x : LinkPlace). x.page) target in
      h u used item_is (omega (arith, a, b, c, first, second))
  into_of item by place (Some m) at here le h = grind arith

  -- no used move of the item has the target, and none of it is out of what is granted
  pub no_clash : (m : UsedMove) (item : ℕ) → ((u : UsedMove) → Used u → u.item ≡ item → u.target ≢ m.target) → (IsTrue m.grant → (u : UsedMove) → Used u → u.item ≡ item → u.page ≢ m.page) → ¬ (ClashesWith Used m item)
  no_clash m item none out c = elim c.meets [
    | inl t ↦ none c.other c.used c.item_is t
    | inr g ↦ out g.0 c.other c.used c.item_is g.1
  ]

  -- who clashes does so with one of the items
  pub clashes_in : (m : UsedMove) → Clashes Used m → (item : ℕ) × (item < length items) × ClashesWith Used m item
  clashes_in m (inl f) = (f.other.item, move_item s from to items f.other f.used, record { other = f.other; used = f.used; item_is = refl; differ = f.differ; meets = inl f.target })
  clashes_in m (inr g) = (g.1.other.item, move_item s from to items g.1.other g.1.used, record { other = g.1.other; used = g.1.used; item_is = refl; differ = g.1.differ; meets = inr (g.0, g.1.page_is) })

-- chains of parents

pub no_leads : (parent : ℕ → Option ℕ) {low high : ℕ} → parent low ≡ None → Leads parent low high → ⊥
no_leads parent none (step is) = let k : ◌≡◌ {A = Option ℕ} None (Some _) = sym none ∙ is in cc
no_leads parent none (steps is rest) = let k : ◌≡◌ {A = Option ℕ} None (Some _) = sym none ∙ is in cc

-- what a known truth value says of a question
pub so : {A : Type 0} → A → IsTrue true ↔ A
so a = (λ _. a, λ _. refl)

pub not_so : {A : Type 0} → ¬ A → IsTrue false ↔ A
not_so out = (λ h. absurd (let k : false ≡ true = h in cc), λ a. absurd (out a))

module _ (old cur : Entries) (from to : ℕ) (items : List ItemMove) (marked : AreMarked (IsMoved old from to items) old cur) where
  -- sources are marked, so what is above a mark is above a source
  above_replaces : (place : LinkPlace) → AboveSource cur place ↔ Replaces (IsMoved cur from to items) cur place
  above_replaces place = (
    λ a.
        let u = marked.marks.sources a.low a.source in
        record { key = a.key; at = a.at; stands = a.stands; other = u.0; used = moved_still old cur from to items marked.marks.alike u.0 u.1; above = subst (λ (k : ℕ). (k ≡ a.key) ⊎ Descends cur k a.key) (sym u.2) a.above },
    λ r. record { key = r.key; at = r.at; stands = r.stands; low = r.other.source; source = marked.sources r.other (moved_alike old cur from to items marked.marks.alike r.other r.used); above = r.above },
  )

  pub tangled : (m : UsedMove) → IsMoved cur from to items m → Clashes (IsMoved cur from to items) m ⊎ AboveSource cur m.target → HasTangle (IsMoved old from to items) old
  tangled m used is = tangle_alike old cur marked.marks.alike from to items (record { move = m; used = used; tangles = elim is [ inl clash ↦ inl clash | inr above ↦ inr ((above_replaces m.target).0 above) ] })

  pub not_tangled : (m : UsedMove) → ¬ (Clashes (IsMoved cur from to items) m) → ¬ (AboveSource cur m.target) → ¬ (Tangles (IsMoved old from to items) old m)
  not_tangled m apart below t = elim (alike_tangles cur old (λ k. sym (marked.marks.alike k)) from to items m t) [ inl clash ↦ apart clash | inr r ↦ below ((above_replaces m.target).1 r) ]

module _ (s : Entries) (place : LinkPlace) where
  pub above_none : ((key : ℕ) → ¬ (IsAt s place key)) → ¬ (AboveSource s place)
  above_none none a = none a.key a.at

  module _ (key : ℕ) (one : (k : ℕ) → IsAt s place k → k ≡ key) where
    pub above_blank : standing_at s key ≡ None → ¬ (AboveSource s place)
    above_blank none a = a.stands (ap (standing_at s) (one a.key a.at) ∙ none)

    pub above_here : (t : Standing) → IsAt s place key → standing_at s key ≡ Some t → t.source ≡ true → AboveSource s place
    above_here t here stands source = record {
      key = key;
      at = here;
      stands = λ none. let k : ◌≡◌ {A = Option Standing} None (Some t) = sym none ∙ stands in cc;
      low = key;
      source = ap (option_map (λ (x : Standing). x.source)) stands ∙ ap (λ (b : Bool). Some b) source;
      above = inl refl;
    }

    pub above_below : (t : Standing) (answer : Bool) → IsAt s place key → standing_at s key ≡ Some t → t.source ≡ false
        → (answer ≡ true → (low : ℕ) × Descends s low key × IsSource s low) → (answer ≡ false → (low : ℕ) → Descends s low key → ¬ (IsSource s low)) → IsTrue answer ↔ AboveSource s place
    above_below t true here stands plain yes_is no_is = so (record {
      key = key;
      at = here;
      stands = λ none. let k : ◌≡◌ {A = Option Standing} None (Some t) = sym none ∙ stands in cc;
      low = (yes_is refl).0;
      source = (yes_is refl).2;
      above = inr (yes_is refl).1;
    })
    above_below t false here stands plain yes_is no_is = not_so (λ a. elim a.above [
      | inl e ↦
          let u = source_of s a.low a.source in
          let same : u.0 ≡ t = same_value (sym u.1 ∙ ap (standing_at s) (e ∙ one a.key a.at) ∙ stands) in
          false≢true (sym plain ∙ ap (λ (x : Standing). x.source) (sym same) ∙ u.2)
      | inr d ↦ no_is refl a.low (subst (λ (k : ℕ). Descends s a.low k) (one a.key a.at) d) a.source
    ])
