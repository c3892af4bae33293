-- The walk over the pages of an item of the kind whose moves are carried out.
use Rattle.std.proofs.Common.{◌≡◌, ℕ, ◌+◌, ◌-◌, ◌<◌, ◌≤◌, ◌^◌, Bool, true, false, List, Some, option_map, ◌⊎◌, inl, inr, sym, ap, ◌∙◌, subst, slice_get, arith}
use Rattle.std.proofs.lemmas.Bool.{cases_lt}
use Rattle.l4_nodes.specs.declared.Place.{Place as LinkPlace}
use Rattle.l4_links.specs.declared.Entry.{Entry}
use Rattle.l4_links.specs.declared.Standing.{Standing}
use Rattle.l4_links.specs.Entries.{Linked, entry_at, IsAt, HasKey, HavePlaces}
use Rattle.l4_msg.specs.declared.items.ItemMove.{ItemMove}
use Rattle.l4_mapdb.specs.Transfer.{PageMove, IsGone}
use Rattle.l4_mapdb.proofs.UsedMoves.{known_moves}
use Rattle.l4_mapdb.specs.View.{link_place, map_place, mappings_of}
use Rattle.l4_mapdb.specs.Inside.Placing.{IsStart, Used, blank_for, HasGone, IsBefore, earlier, same, IsDone, MapsPage, GrantsPage, MovesPage, MovesNone, HasBlank, Placed}
use Rattle.l4_mapdb.proofs.Placed.{same_link, placed_as, placed_map, placed_grant}
use Rattle.l4_mapdb.proofs.Sourced.{source_stays, stood, MoveHere, move_here, none_here, blank_here}
use Rattle.l4_mapdb.proofs.Unique.{same_value}

module _ (start now : Linked) (from to : ℕ) (items : List ItemMove) (ready : IsStart start from to items) (have : HavePlaces now) (kind : Bool)
    (item : ℕ) (by : ItemMove) (item_at : slice_get items item ≡ Some by) (of_kind : by.grant ≡ kind) (begin : ℕ) (first : by.mv.source.first ≤ begin)
    (placed : Placed start from to items (IsDone start from to items kind item begin) now) where
  abbrev ItemMoves : PageMove → Type 0
  ItemMoves = Used start from to items

  -- a move of the item from here on is still to be done
  undone : (v : PageMove) → v.grant ≡ kind → v.item ≡ item → begin ≤ v.source.page → ¬ (IsDone start from to items kind item begin v)
  undone v g i le (inl (t, n)) = n (g ∙ t)
  undone v g i le (inr (k, earlier lt)) = omega (arith, i, lt)
  undone v g i le (inr (k, same j lt)) = omega (arith, le, lt)

  same_by : (v : PageMove) (used : ItemMoves v) → v.item ≡ item → used.by ≡ by
  same_by v used item_is = same_value (sym used.item ∙ ap (slice_get items) item_is ∙ item_at)

  kind_of : (v : PageMove) → ItemMoves v → v.item ≡ item → v.grant ≡ by.grant
  kind_of v used item_is = used.grant ∙ ap (λ (x : ItemMove). x.grant) (same_by v used item_is)

  block_of : (v : PageMove) → ItemMoves v → v.item ≡ item → (by.mv.source.first ≤ v.source.page) × (v.source.page < by.mv.source.first + 2 ^ by.mv.source.log)
  block_of v used item_is = grind arith

  -- of a move that is still to be done the source is as it was
  not_gone : (v : PageMove) → ItemMoves v → v.item ≡ item → begin ≤ v.source.page → ¬ (HasGone start from to items (IsDone start from to items kind item begin) (link_place v.source))
  not_gone v used item_is le g = grind arith

  has_key : (v : PageMove) → ItemMoves v → v.item ≡ item → begin ≤ v.source.page → HasKey now.entries from v.source.page
  has_key v used item_is le =
      let s = stood start now from to items ready (IsDone start from to items kind item begin) placed have v used in
      let l = placed.kept s.key s.entry s.standing s.at s.stands
      (λ g. source_stays start now from to items ready (IsDone start from to items kind item begin) placed have v used (subst (λ (p : LinkPlace). IsGone ItemMoves (mappings_of start) (map_place p)) s.place_is g))
      (λ g. not_gone v used item_is le (record { move = g.move; used = g.used; done = g.done; grant = g.grant; source = g.source ∙ s.place_is })) in
      let place : s.entry.place ≡ record { space = from; page = v.source.page } = s.place_is ∙ (λ i. record { space = used.from_space i; page = v.source.page }) in
      (s.key, ap (option_map {T = Entry} (λ e. e.place)) l.at ∙ ap Some place)

  -- what is done so far is done as far as there, and nothing else of this kind
  walked : (i p : ℕ) → ((v : PageMove) → IsBefore start from to items item begin v → IsBefore start from to items i p v) → ((v : PageMove) → ItemMoves v → IsBefore start from to items i p v → IsBefore start from to items item begin v)
      → Placed start from to items (IsDone start from to items kind i p) now
  walked i p on back = placed_as start from to items (IsDone start from to items kind item begin) (IsDone start from to items kind i p) now (λ v used. (
    λ d. elim d [ inl n ↦ inl n | inr k ↦ inr (k.0, on v k.1) ],
    λ d. elim d [ inl n ↦ inl n | inr k ↦ inr (k.0, back v used k.1) ],
  )) placed

  -- pages without a key are passed by
  pub pass_page : (page : ℕ) → begin ≤ page → ((other : ℕ) → begin ≤ other → other < page → ¬ (HasKey now.entries from other)) → Placed start from to items (IsDone start from to items kind item page) now
  pass_page page le none = walked item page before back_before
    where
      before : (v : PageMove) → IsBefore start from to items item begin v → IsBefore start from to items item page v
      before v (earlier lt) = earlier lt
      before v (same i lt) = same i (omega (arith, lt, le))

      back_before : (v : PageMove) → ItemMoves v → IsBefore start from to items item page v → IsBefore start from to items item begin v
      back_before v used (earlier lt) = earlier lt
      back_before v used (same i lt) = elim (cases_lt v.source.page begin) [
        | inl less ↦ same i less
        | inr ge ↦ absurd (none v.source.page (omega (arith, ge)) lt (has_key v used i (omega (arith, ge))))
      ]

  -- at the end of the block the item is done
  pub end_page : (end : ℕ) → end ≡ by.mv.source.first + 2 ^ by.mv.source.log → ((other : ℕ) → begin ≤ other → other < end → ¬ (HasKey now.entries from other)) → Placed start from to items (IsDone start from to items kind (item + 1) 0) now
  end_page end end_is none = walked (item + 1) 0 before back_before
    where
      before : (v : PageMove) → IsBefore start from to items item begin v → IsBefore start from to items (item + 1) 0 v
      before v (earlier lt) = earlier (omega (arith, lt))
      before v (same i lt) = earlier (omega (arith, i))

      back_before : (v : PageMove) → ItemMoves v → IsBefore start from to items (item + 1) 0 v → IsBefore start from to items item begin v
      back_before v used (earlier lt) = elim (cases_lt v.item item) [
        | inl less ↦ earlier less
        | inr ge ↦
            let i : v.item ≡ item = omega (arith, ge, lt) in
            let b = block_of v used i in
            elim (cases_lt v.source.page begin) [
              | inl less ↦ same i less
              | inr ge' ↦ absurd (none v.source.page (omega (arith, ge')) (omega (arith, b.1, end_is)) (has_key v used i (omega (arith, ge'))))
            ]
      ]
      back_before v used (same i lt) = absurd (omega (arith, lt))

-- one page more
module _ (start now new : Linked) (from to : ℕ) (items : List ItemMove) (ready : IsStart start from to items) (have : HavePlaces now) (spaces : new.spaces ≡ now.spaces) (kind : Bool)
    (item : ℕ) (by : ItemMove) (item_at : slice_get items item ≡ Some by) (of_kind : by.grant ≡ kind) (page : ℕ) (first : by.mv.source.first ≤ page) (last : page < by.mv.source.first + 2 ^ by.mv.source.log)
    (placed : Placed start from to items (IsDone start from to items kind item page) now) where
  abbrev PageMoves : PageMove → Type 0
  PageMoves = Used start from to items

  abbrev source_here : LinkPlace
  source_here = record { space = from; page = page }

  abbrev target_here : LinkPlace
  target_here = record { space = to; page = page - by.mv.source.first + by.mv.target.first }

  page_undone : (v : PageMove) → PageMoves v → v.item ≡ item → v.source.page ≡ page → ¬ (IsDone start from to items kind item page v)
  page_undone v used i p d = undone start now from to items ready have kind item by item_at of_kind page first placed v (kind_of start now from to items ready have kind item by item_at of_kind page first placed v used i ∙ of_kind) i (omega (arith, p)) d

  pub blank_page : HasBlank source_here target_here by.rights now.entries
  blank_page = blank_here start now from to items ready (IsDone start from to items kind item page) placed have item by item_at page first last page_undone

  before_here : (v : PageMove) → IsBefore start from to items item page v → IsBefore start from to items item (page + 1) v
  before_here v (earlier lt) = earlier lt
  before_here v (same i lt) = same i (omega (arith, lt))

  pub none_page : MovesNone source_here by.rights now.entries → Placed start from to items (IsDone start from to items kind item (page + 1)) now
  none_page none = walked start now from to items ready have kind item by item_at of_kind page first placed item (page + 1) before_here back_before
    where
      back_before : (v : PageMove) → PageMoves v → IsBefore start from to items item (page + 1) v → IsBefore start from to items item page v
      back_before v used (earlier lt) = earlier lt
      back_before v used (same i lt) = elim (cases_lt v.source.page page) [
        | inl less ↦ same i less
        | inr ge ↦
            let p : v.source.page ≡ page = omega (arith, ge, lt) in
            absurd (none_here start now from to items ready (IsDone start from to items kind item page) placed have item by item_at page first last none v used i p
            (not_gone start now from to items ready have kind item by item_at of_kind page first placed v used i (omega (arith, ge))))
      ]

  -- the page is moved, as its item says
  module _ (source : ℕ) (standing : Standing) (m : MoveHere start now from to items ready (IsDone start from to items kind item page) placed have item by item_at page first last source standing) where
    source_page_is : m.move.source.page ≡ page
    source_page_is = ap (λ (p : LinkPlace). p.page) m.source

    not_done : ¬ (IsDone start from to items kind item page m.move)
    not_done = page_undone m.move m.used m.item_is source_page_is

    abbrev NowDone : PageMove → Type 0
    NowDone v = IsDone start from to items kind item page v ⊎ (v ≡ m.move)

    by_is : slice_get items m.move.item ≡ Some by
    by_is = ap (slice_get items) m.item_is ∙ item_at

    b : (key : ℕ) × (entry_at now.entries key ≡ Some (blank_for start from to items m.move))
    b = placed.blank m.move m.used not_done

    blank_at : (blank : ℕ) → IsAt now.entries target_here blank → entry_at now.entries blank ≡ Some (blank_for start from to items m.move)
    blank_at blank at =
        let same_blank : b.0 ≡ blank = have.once (link_place m.move.target) b.0 blank (ap (option_map {T = Entry} (λ e. e.place)) b.1) (at ∙ ap Some (sym m.target)) in
        ap (entry_at now.entries) (sym same_blank) ∙ b.1

    before_new : (v : PageMove) → v ≡ m.move → IsBefore start from to items item (page + 1) v
    before_new v e = same (ap (λ (x : PageMove). x.item) e ∙ m.item_is) (let p : v.source.page ≡ page = ap (λ (x : PageMove). x.source.page) e ∙ source_page_is in omega (arith, p))

    there : (v : PageMove) → NowDone v → IsDone start from to items kind item (page + 1) v
    there v (inl (inl n)) = inl n
    there v (inl (inr d)) = inr (d.0, before_here v d.1)
    there v (inr e) = inr (ap (λ (x : PageMove). x.grant) e ∙ m.grant ∙ of_kind, before_new v e)

    back_before : (v : PageMove) → PageMoves v → IsBefore start from to items item (page + 1) v → IsBefore start from to items item page v ⊎ (v ≡ m.move)
    back_before v used (earlier lt) = inl (earlier lt)
    back_before v used (same i lt) = elim (cases_lt v.source.page page) [
      | inl less ↦ inl (same i less)
      | inr ge ↦
          let p : v.source.page ≡ page = omega (arith, ge, lt) in
          let place : v.source ≡ m.move.source = same_link v.source m.move.source ((λ k. record { space = used.from_space k; page = p k }) ∙ sym m.source) in
          inr ((known_moves (mappings_of start) from to items).same_source v m.move used m.used (i ∙ sym m.item_is) place)
    ]

    back : (v : PageMove) → PageMoves v → IsDone start from to items kind item (page + 1) v → NowDone v
    back v used (inl n) = inl (inl n)
    back v used (inr d) = elim (back_before v used d.1) [ inl h ↦ inl (inr (d.0, h)) | inr e ↦ inr e ]

    as_done : Placed start from to items NowDone new → Placed start from to items (IsDone start from to items kind item (page + 1)) new
    as_done = placed_as start from to items NowDone (IsDone start from to items kind item (page + 1)) new (λ v used. (there v, back v used))

  maps_page : kind ≡ false → MapsPage source_here target_here by.rights now.entries new.entries → Placed start from to items (IsDone start from to items kind item (page + 1)) new
  maps_page maps s = as_done s.key s.is.standing m
      (placed_map start from to items (known_moves (mappings_of start) from to items) ready (IsDone start from to items kind item page) now new placed spaces m.move m.used (not_done s.key s.is.standing m) by (by_is s.key s.is.standing m)
      s.blank (blank_at s.key s.is.standing m s.blank s.at) (λ g. let z : false ≡ true = sym maps ∙ sym of_kind ∙ sym m.grant ∙ g in cc) s.key (ap (option_map {T = Entry} (λ e. e.place)) m.stood.at ∙ ap Some (m.stood.place_is ∙ sym m.source)) s.is.standing s.is.stands m.frame m.rights s.sprouts)
    where
      m : MoveHere start now from to items ready (IsDone start from to items kind item page) placed have item by item_at page first last s.key s.is.standing
      m = move_here start now from to items ready (IsDone start from to items kind item page) placed have item by item_at page first last s.key s.is

  grants_page : kind ≡ true → GrantsPage source_here target_here by.rights now.entries new.entries → Placed start from to items (IsDone start from to items kind item (page + 1)) new
  grants_page grants s = as_done s.key s.is.standing m
      (placed_grant start from to items (known_moves (mappings_of start) from to items) ready (IsDone start from to items kind item page) now new placed spaces m.move m.used (not_done s.key s.is.standing m) by (by_is s.key s.is.standing m)
      s.blank (blank_at s.key s.is.standing m s.blank s.at) (m.grant ∙ of_kind ∙ grants) s.key m.stood.before m.stood.standing m.stood.at (m.stood.place_is ∙ sym m.source) m.stood.stands m.stood.unwanted m.stood.no_grant m.stood.at_now s.takes)
    where
      m : MoveHere start now from to items ready (IsDone start from to items kind item page) placed have item by item_at page first last s.key s.is.standing
      m = move_here start now from to items ready (IsDone start from to items kind item page) placed have item by item_at page first last s.key s.is

  pub more_page : MovesPage kind source_here target_here by.rights now.entries new.entries → Placed start from to items (IsDone start from to items kind item (page + 1)) new
  more_page (inl s) = maps_page s.0 s.1
  more_page (inr s) = grants_page s.0 s.1
