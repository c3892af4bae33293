-- Items whose pages rise share none.
use Rattle.std.proofs.Common.{◌≡◌, ◌≢◌, ℕ, ◌+◌, ◌<◌, ◌≤◌, ◌^◌, ◌⊎◌, Bool, true, false, ◌||◌, List, length, Some, ap, sym, ◌∙◌, slice_get, inl, inr, arith}
use Rattle.std.proofs.lemmas.Bool.{cases_lt}
use Rattle.l4_nodes.specs.declared.Place.{Place as LinkPlace}
use Rattle.l4_links.specs.Entries.{Entries, AreApart}
use Rattle.l4_msg.specs.declared.items.ItemMove.{ItemMove}
use Rattle.l4_mapdb.specs.declared.sources.UsedMove.{UsedMove}
use Rattle.l4_mapdb.specs.Inside.Messages.{IsMoved}
use Rattle.l4_mapdb.specs.Inside.Tangles.{Replaces, Clashes, HasTangle}
use Rattle.l4_mapdb.proofs.Moves.{one_by, move_item}

-- the items before this number end before these pages, and grant only where that is said
pub record EndBy (items : List ItemMove) (end source target : ℕ) (grants : Bool) : Type 0 where
  pub sources : (item : ℕ) (by : ItemMove) → item < end → slice_get items item ≡ Some by → by.mv.source.first + 2 ^ by.mv.source.log ≤ source
  pub targets : (item : ℕ) (by : ItemMove) → item < end → slice_get items item ≡ Some by → by.mv.target.first + 2 ^ by.mv.target.log ≤ target
  pub none : grants ≡ false → (item : ℕ) (by : ItemMove) → item < end → slice_get items item ≡ Some by → by.grant ≡ false

module _ (items : List ItemMove) (item source target : ℕ) (grants : Bool) (by : ItemMove) (at : slice_get items item ≡ Some by) (t : target ≤ by.mv.target.first) (ends : EndBy items item source target grants) where
  same_item : (k : ℕ) (other : ItemMove) → k ≡ item → slice_get items k ≡ Some other → other ≡ by
  same_item k other e is = one_by items item other by (ap (slice_get items) (sym e) ∙ is) at

  -- one more
  pub ends_more : (own next_source next_target : ℕ) → source ≤ next_source → own ≤ next_source → own ≡ by.mv.source.first + 2 ^ by.mv.source.log → next_target ≡ by.mv.target.first + 2 ^ by.mv.target.log
      → EndBy items (item + 1) next_source next_target (grants || by.grant)
  ends_more own next_source next_target source_on own_on source_end target_end = grind arith

  pub apart_more : (grants || by.grant ≡ true → source ≤ by.mv.source.first) → AreApart items item → AreApart items (item + 1)
  apart_more s apart low high a b less lt is_low is_high = grind arith

module _ (s : Entries) (from to : ℕ) (items : List ItemMove) (apart : AreApart items (length items)) where
  abbrev Used : UsedMove → Type 0
  Used = IsMoved s from to items

  -- used moves of an item and of a later one fill no page in common, and where one of them grants they move none
  rising : (m n : UsedMove) → Used m → Used n → m.item < n.item → ((m.grant ≡ true) ⊎ (n.grant ≡ true) → m.page ≢ n.page) × (m.target.page ≢ n.target.page)
  rising m n a b less =
      let ends = apart m.item n.item a.by b.by less (move_item s from to items n b) a.item b.item in
      let size : 2 ^ a.by.mv.source.log ≡ 2 ^ a.by.mv.target.log = ap (λ (k : ℕ). 2 ^ k) a.by.mv.same_size in
      let target = ends.target in
      let within = a.pages.within in
      let from_a : m.page ≡ a.by.mv.source.first + a.pages.index = a.pages.source_is in
      let into_a : m.target.page ≡ a.by.mv.target.first + a.pages.index = a.pages.target_is in
      let from_b : n.page ≡ b.by.mv.source.first + b.pages.index = b.pages.source_is in
      let into_b : n.target.page ≡ b.by.mv.target.first + b.pages.index = b.pages.target_is in (
        (λ one e.
            let source = ends.source (elim one [ inl x ↦ inl (sym a.grant ∙ x) | inr y ↦ inr (sym b.grant ∙ y) ]) in
            absurd (omega (arith, source, within, from_a, from_b, e))),
        λ e. absurd (omega (arith, target, within, into_a, into_b, e, size)),
      )

  differing : (m n : UsedMove) → Used m → Used n → m.item ≢ n.item → (m.grant ≡ true → m.page ≢ n.page) × (m.target.page ≢ n.target.page)
  differing m n a b ne = elim (cases_lt m.item n.item) [
    | inl less ↦ let r = rising m n a b less in (λ g. r.0 (inl g), r.1)
    | inr ge ↦ let r = rising n m b a (omega (arith, ge, ne)) in (λ g e. r.0 (inr g) (sym e), λ e. r.1 (sym e))
  ]

  pub none_clashes : (m : UsedMove) → Used m → ¬ (Clashes Used m)
  none_clashes m used (inl f) = (differing m f.other used f.used f.differ).1 (ap (λ (p : LinkPlace). p.page) (sym f.target))
  none_clashes m used (inr g) = (differing m g.1.other used g.1.used g.1.differ).0 g.0 (sym g.1.page_is)

  pub none_tangled : ((m : UsedMove) → Used m → ¬ (Replaces Used s m.target)) → ¬ (HasTangle Used s)
  none_tangled spared h = elim h.tangles [ inl clash ↦ none_clashes h.move h.used clash | inr r ↦ spared h.move h.used r ]
