-- Where a walk over the items begins and what it passes over.
use Rattle.std.proofs.Common.{◌≡◌, ◌≢◌, ℕ, ◌+◌, ◌≤◌, length, Bool, true, false, List, Some, IsTrue, refl, ◌⊎◌, inl, inr, sym, ap, ◌∙◌, slice_get, arith}
use Rattle.std.proofs.lemmas.Bool.{cases_lt}
use Rattle.std.proofs.lemmas.Option.{slice_get_within}
use Rattle.l4_links.specs.Entries.{Linked}
use Rattle.l4_msg.specs.declared.items.ItemMove.{ItemMove}
use Rattle.l4_mapdb.specs.Transfer.{PageMove}
use Rattle.l4_mapdb.specs.Inside.Placing.{Used, IsBefore, earlier, same, IsDone, Placed}
use Rattle.l4_mapdb.proofs.Placed.{placed_as}
use Rattle.l4_mapdb.proofs.Unique.{same_value}

module _ (start now : Linked) (from to : ℕ) (items : List ItemMove) (kind : Bool) where
  abbrev Moves : PageMove → Type 0
  Moves = Used start from to items

  module _ (item : ℕ) (by : ItemMove) (item_at : slice_get items item ≡ Some by) where
    kind_of : (v : PageMove) → Moves v → v.item ≡ item → v.grant ≡ by.grant
    kind_of v used item_is =
        let by_is : used.by ≡ by = same_value (sym used.item ∙ ap (slice_get items) item_is ∙ item_at) in
        used.grant ∙ ap (λ (x : ItemMove). x.grant) by_is

    from_first : (v : PageMove) → Moves v → v.item ≡ item → by.mv.source.first ≤ v.source.page
    from_first v used item_is =
        let by_is : used.by ≡ by = same_value (sym used.item ∙ ap (slice_get items) item_is ∙ item_at) in
        let f : used.by.mv.source.first ≡ by.mv.source.first = ap (λ (x : ItemMove). x.mv.source.first) by_is in
        let s = used.pages.source_is in
        omega (arith, f, s)

    begun : (v : PageMove) → IsBefore start from to items item 0 v → IsBefore start from to items item by.mv.source.first v
    begun v (earlier lt) = earlier lt
    begun v (same i lt) = absurd (omega (arith, lt))

    not_begun : (v : PageMove) → Moves v → IsBefore start from to items item by.mv.source.first v → IsBefore start from to items item 0 v
    not_begun v used (earlier lt) = earlier lt
    not_begun v used (same i lt) = absurd (let f = from_first v used i in omega (arith, lt, f))

    -- no page before the block's first one is moved
    pub begin_item : Placed start from to items (IsDone start from to items kind item 0) now → Placed start from to items (IsDone start from to items kind item by.mv.source.first) now
    begin_item p = placed_as start from to items (IsDone start from to items kind item 0) (IsDone start from to items kind item by.mv.source.first) now (λ v used. (there v, back v used)) p
      where
        there : (v : PageMove) → IsDone start from to items kind item 0 v → IsDone start from to items kind item by.mv.source.first v
        there v (inl n) = inl n
        there v (inr d) = inr (d.0, begun v d.1)

        back : (v : PageMove) → Moves v → IsDone start from to items kind item by.mv.source.first v → IsDone start from to items kind item 0 v
        back v used (inl n) = inl n
        back v used (inr d) = inr (d.0, not_begun v used d.1)

    later_item : (v : PageMove) → IsBefore start from to items item 0 v → IsBefore start from to items (item + 1) 0 v
    later_item v (earlier lt) = earlier (omega (arith, lt))
    later_item v (same i lt) = absurd (omega (arith, lt))

    -- the move is of an item before this one, or of this one
    last_item : (v : PageMove) → IsBefore start from to items (item + 1) 0 v → IsBefore start from to items item 0 v ⊎ (v.item ≡ item)
    last_item v (earlier lt) = elim (cases_lt v.item item) [ inl less ↦ inl (earlier less) | inr ge ↦ inr (omega (arith, lt, ge)) ]
    last_item v (same i lt) = absurd (omega (arith, lt))

    -- an item of the other kind is passed over
    pub over_item : by.grant ≢ kind → Placed start from to items (IsDone start from to items kind item 0) now → Placed start from to items (IsDone start from to items kind (item + 1) 0) now
    over_item other p = placed_as start from to items (IsDone start from to items kind item 0) (IsDone start from to items kind (item + 1) 0) now (λ v used. (there v, back v used)) p
      where
        there : (v : PageMove) → IsDone start from to items kind item 0 v → IsDone start from to items kind (item + 1) 0 v
        there v (inl n) = inl n
        there v (inr d) = inr (d.0, later_item v d.1)

        back : (v : PageMove) → Moves v → IsDone start from to items kind (item + 1) 0 v → IsDone start from to items kind item 0 v
        back v used (inl n) = inl n
        back v used (inr d) = elim (last_item v d.1) [
          | inl h ↦ inr (d.0, h)
          | inr i ↦ absurd (other (sym (kind_of v used i) ∙ d.0))
        ]

  none_yet : (v : PageMove) → ¬ (IsBefore start from to items 0 0 v)
  none_yet v (earlier lt) = omega (arith, lt)
  none_yet v (same i lt) = omega (arith, lt)

  -- the moves of all items of a kind are done
  pub all_of_kind : (count : ℕ) → length items ≤ count → Placed start from to items (IsDone start from to items kind count 0) now → Placed start from to items (IsDone start from to items kind (length items) 0) now
  all_of_kind count all p = placed_as start from to items (IsDone start from to items kind count 0) (IsDone start from to items kind (length items) 0) now (λ v used. (there v used, back v)) p
    where
      there : (v : PageMove) → Moves v → IsDone start from to items kind count 0 v → IsDone start from to items kind (length items) 0 v
      there v used (inl n) = inl n
      there v used (inr d) = inr (d.0, earlier (slice_get_within items v.item used.by used.item))

      back : (v : PageMove) → IsDone start from to items kind (length items) 0 v → IsDone start from to items kind count 0 v
      back v (inl n) = inl n
      back v (inr (g, earlier lt)) = inr (g, earlier (omega (arith, lt, all)))
      back v (inr (g, same i lt)) = absurd (omega (arith, lt))

-- once all map items are done, grant items follow
pub grants_next : (start now : Linked) (from to : ℕ) (items : List ItemMove) → Placed start from to items (IsDone start from to items false (length items) 0) now → Placed start from to items (IsDone start from to items true 0 0) now
grants_next start now from to items p = placed_as start from to items (IsDone start from to items false (length items) 0) (IsDone start from to items true 0 0) now (λ v used. (there v, back v used)) p
  where
    there : (v : PageMove) → IsDone start from to items false (length items) 0 v → IsDone start from to items true 0 0 v
    there v (inl n) = absurd (let z : false ≡ true = n.0 in cc)
    there v (inr d) = inl (refl, λ g. let z : false ≡ true = sym d.0 ∙ g in cc)

    by_kind : (v : PageMove) → Used start from to items v → (k : Bool) → v.grant ≡ k → ¬ (IsTrue v.grant) → IsDone start from to items false (length items) 0 v
    by_kind v used true is n = absurd (n is)
    by_kind v used false is n = inr (is, earlier (slice_get_within items v.item used.by used.item))

    back : (v : PageMove) → Used start from to items v → IsDone start from to items true 0 0 v → IsDone start from to items false (length items) 0 v
    back v used (inl n) = by_kind v used v.grant refl n.1
    back v used (inr d) = absurd (none_yet start now from to items true v d.1)
