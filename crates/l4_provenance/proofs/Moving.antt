-- The used moves of an item, page by page, and of a letter, item by item.
use Rattle.std.proofs.Common.{◌≡◌, ◌⊎◌, ℕ, ◌+◌, ◌-◌, ◌<◌, ◌≤◌, true, false, nat_lt, max, Option, MatchOption, Some, None, is_some, List, length, inl, inr, refl, sym, ap, ◌∙◌, subst, arith}
use Rattle.std.proofs.lemmas.Bool.Decides.{nat_tests}
use Rattle.std.proofs.lemmas.Option.{slice_get_within}
use Rattle.std.specs.Prelude.{slice_get}
use Rattle.l4_fpage.specs.Pages.{InBlock}
use Rattle.l4_fpage.specs.Rights.{RightsSet, common, no_rights}
use Rattle.l4_fpage.specs.Fpages.{Bytes, bytes_of, rights_of}
use Rattle.l4_fpage.specs.declared.fpages.Fpage.{Fpage}
use Rattle.l4_fpage.specs.declared.sizes.PageSize.{PageSize}
use Rattle.l4_forest.specs.Places.{NonePresentFrom, IsNextPresent}
use Rattle.l4_msg.specs.Moves.{ItemMoves, MovePairs, Shifts, Takes, part_of, base_of, fpage_of, is_grant}
use Rattle.l4_msg.specs.declared.items.Item.{Item}
use Rattle.l4_msg.specs.declared.items.Move.{Move}
use Rattle.l4_mapdb.specs.declared.Mapping.{Mapping}
use Rattle.l4_mapdb.specs.Mappings.{Mappings, shown, IsPresent}
use Rattle.l4_mapdb.specs.Transfer.{PageMove}
use Rattle.l4_ipc.specs.declared.steps.Step.{Step}
use Rattle.l4_ipc.specs.Machine.{Machine}
use Rattle.l4_ipc.specs.Moving.{IsUsedBy}
use Rattle.l4_ipc.proofs.OneState.{same_value}
use Rattle.l4_record.specs.Inside.Carrying.{AreParties}
use Rattle.l4_record.proofs.Carried.{same_parties}
use Rattle.l4_record.proofs.Written.{place_at}
use Rattle.l4_provenance.specs.Moved.{IsMoved, IsFrom, IsNextMove, NoneMovedFrom}
use Rattle.l4_provenance.specs.Inside.Moves.{IsMoveOf, IsOfItem, MovesPage, KeepsPage, MovesNext, MovesNone}
use Rattle.l4_provenance.specs.declared.moves.MovedPage.{MovedPage}

below_or : (a b : ℕ) → (a < b) ⊎ (b ≤ a)
below_or a b =
    elim (nat_lt a b) as (λ v. nat_lt a b ≡ v → (a < b) ⊎ (b ≤ a)) [
      | true ↦ λ t. inl (let lt : a < b = grind (arith, nat_tests) in lt)
      | false ↦ λ f. inr (let le : b ≤ a = grind (arith, nat_tests) in le)
    ] refl

module _ (size : PageSize) (s : Mappings) («from» to : ℕ) (items : List Item) (window : Fpage) (item : ℕ) where
  source_is : (move : PageMove) (page : ℕ) → (h : IsOfItem size s «from» to items window item move) → move.source.page ≡ page → move.source ≡ place_at «from» page
  source_is move page h same = λ i. record { space = h.0.moves.from_space i; page = same i }

  by_is : (move : PageMove) (by : Item) → (h : IsOfItem size s «from» to items window item move) → slice_get items item ≡ Some by → h.0.by ≡ by
  by_is move by h at = same_value (sym h.0.item ∙ ap (slice_get items) h.1 ∙ at)

  -- no right is shared
  pub keeps_page : (page : ℕ) (by : Item) (shows : Mapping) → slice_get items item ≡ Some by → shown s (place_at «from» page) ≡ Some shows → common shows.rights (rights_of (fpage_of by)) ≡ no_rights
      → KeepsPage size s «from» to items window item page
  keeps_page page by shows at is none move h same =
      let there : move.shows ≡ shows = same_value (sym h.0.moves.present ∙ ap (shown s) (source_is move page h same) ∙ is) in
      let named = by_is move by h at in
      h.0.moves.some_right (h.0.moves.rights_are ∙ (λ i. common (there i).rights (rights_of (fpage_of (named i)))) ∙ none)

  pub moves_page : (page : ℕ) (pages : Move) (shows : Mapping) (rights : RightsSet) (m : IsMoveOf size items window item pages) → InBlock pages.source.first pages.source.log page
      → shown s (place_at «from» page) ≡ Some shows → rights ≡ common shows.rights (rights_of (fpage_of m.by)) → ¬ (rights ≡ no_rights)
      → MovesPage size s «from» to items window item page (record { item = item; source = page; space = to; target = pages.target.first + (page - pages.source.first); rights = rights })
  moves_page page pages shows rights m within is are some =
      let target : ℕ = pages.target.first + (page - pages.source.first) in
      let a = within.«from» in
      let b = within.below in
      record {
        move = record { item = item; source = place_at «from» page; target = place_at to target; grant = is_grant m.by; shows = shows; rights = rights };
        is = (
          record {
            by = m.by;
            item = m.at;
            moves = record {
              from_space = refl;
              to_space = refl;
              pages = (m.pairs page target).0 (record { index = page - pages.source.first; within = omega (arith, a, b); source_is = omega (arith, a); target_is = refl });
              grant_is = refl;
              present = is;
              rights_are = are;
              some_right = some;
            };
          },
          refl,
        );
        page_is = refl;
        told = record { item = refl; source = refl; space = refl; target = refl; rights = refl };
      }

  -- a used move of the item is of one of its pages
  within_pages : (pages : Move) (move : PageMove) → IsMoveOf size items window item pages → IsOfItem size s «from» to items window item move → InBlock pages.source.first pages.source.log move.source.page
  within_pages pages move m h =
      let shift : MovePairs (Some pages) move.source.page move.target.page =
      (m.pairs move.source.page move.target.page).1 (subst (λ (by : Item). ItemMoves size by window move.source.page move.target.page) (by_is move m.by h m.at) h.0.moves.pages) in
      record { «from» = omega (arith, shift.source_is); below = omega (arith, shift.source_is, shift.within) }

  -- the pages from this one on that were looked at, up to the next one, do not move
  pub record Looked (start page : ℕ) : Type 0 where
    pub low : start ≤ page
    pub none : (move : PageMove) → IsOfItem size s «from» to items window item move → start ≤ move.source.page → page ≤ move.source.page

  pub looked_first : (start page : ℕ) (pages : Move) → IsMoveOf size items window item pages → page ≡ max start pages.source.first → Looked start page
  looked_first start page pages m is = record {
    low = omega (arith, is);
    none = λ move h low. let w = (within_pages pages move m h).«from» in omega (arith, is, w);
  }

  present_at : (move : PageMove) → IsOfItem size s «from» to items window item move → IsPresent s (place_at «from» move.source.page)
  present_at move h = let at : shown s (place_at «from» move.source.page) ≡ Some move.shows = ap (shown s) (sym (source_is move move.source.page h refl)) ∙ h.0.moves.present in ap is_some at

  pub none_left : (start page : ℕ) → Looked start page → NonePresentFrom s «from» page → MovesNone size s «from» to items window item start
  none_left start page l none move h low = none move.source.page (l.none move h low) (present_at move h)

  pub none_within : (start page next : ℕ) (pages : Move) → IsMoveOf size items window item pages → Looked start page → IsNextPresent s «from» page next
      → ¬ (InBlock pages.source.first pages.source.log next) → pages.source.first ≤ page → MovesNone size s «from» to items window item start
  none_within start page next pages m l is out first move h low =
      let w = within_pages pages move m h in
      let a = is.least move.source.page (l.none move h low) (present_at move h) in
      let b = is.«from» in
      let c = w.below in
      out (record { «from» = omega (arith, first, b); below = omega (arith, a, c) })

  pub looked_on : (start page next : ℕ) → Looked start page → IsNextPresent s «from» page next → KeepsPage size s «from» to items window item next → Looked start (next + 1)
  looked_on start page next l is keeps = record {
    low = let a = l.low in let b = is.«from» in omega (arith, a, b);
    none = λ move h low.
        let a : next ≤ move.source.page = is.least move.source.page (l.none move h low) (present_at move h) in
        elim (below_or next move.source.page) [
          | inl below ↦ omega (arith, below)
          | inr above ↦ absurd (keeps move h (omega (arith, a, above)))
        ];
  }

  -- the next page that is present moves
  pub next_moves : (start page next : ℕ) (pages : Move) (moved : MovedPage) → Looked start page → IsNextPresent s «from» page next → InBlock pages.source.first pages.source.log next
      → MovesPage size s «from» to items window item next moved → MovesNext size s «from» to items window item start moved
  next_moves start page next pages moved l is within m =
      let a = l.low in
      let b = is.«from» in
      let same = m.page_is in
      record {
        move = m.move;
        is = m.is;
        reached = omega (arith, a, b, same);
        least = λ other h low. let c = is.least other.source.page (l.none other h low) (present_at other h) in omega (arith, c, same);
        told = m.told;
        small = let below = within.below in let inside = pages.source.block.inside in let source = m.told.source in omega (arith, below, inside, source, same);
      }

-- OVER THE LETTER OF A STEP

pub parties_of : (m : Machine) (step : Step) (move : PageMove) → (h : IsMoved m step move) → AreParties m step h.«from».space h.to.space h.sends.items.items h.takes.window
parties_of m step move h = record {
  sender = h.sender;
  receiver = h.receiver;
  step_is = h.step_is;
  giver = h.«from»;
  taker = h.to;
  sends = h.sends;
  takes = h.takes;
  giver_at = h.from_at;
  taker_at = h.to_at;
  giver_state = h.from_state;
  taker_state = h.to_state;
  from_is = refl;
  to_is = refl;
  items_is = refl;
  window_is = refl;
}

-- from this item and page on, no item before the next one moves a page; in the next item, the pages from this one on are looked at
pub record Passed (m : Machine) (step : Step) (item page number start : ℕ) : Type 0 where
  pub low : item ≤ number
  pub none : (move : PageMove) → IsMoved m step move → IsFrom item page move → number ≤ move.item
  pub start_is : ((number ≡ item) × (start ≡ page)) ⊎ ((item < number) × (start ≡ 0))

module _ (m : Machine) (step : Step) («from» to : ℕ) (items : List Item) (window : Fpage) (parties : AreParties m step «from» to items window) where
  -- a used move of the letter is one of the step, and the other way round
  pub moved_used : (move : PageMove) → IsMoved m step move → IsUsedBy m.size m.mappings «from» to items window move
  moved_used move h =
      let same = same_parties m step h.«from».space «from» h.to.space to h.sends.items.items items h.takes.window window (parties_of m step move h) parties in
      subst (λ (v : Fpage). IsUsedBy m.size m.mappings «from» to items v move) same.window
      (subst (λ (l : List Item). IsUsedBy m.size m.mappings «from» to l h.takes.window move) same.items
      (subst (λ (k : ℕ). IsUsedBy m.size m.mappings «from» k h.sends.items.items h.takes.window move) same.to
      (subst (λ (k : ℕ). IsUsedBy m.size m.mappings k h.to.space h.sends.items.items h.takes.window move) same.«from» h.used)))

  pub used_moved : (move : PageMove) → IsUsedBy m.size m.mappings «from» to items window move → IsMoved m step move
  used_moved move u = record {
    sender = parties.sender;
    receiver = parties.receiver;
    step_is = parties.step_is;
    «from» = parties.giver;
    to = parties.taker;
    sends = parties.sends;
    takes = parties.takes;
    from_at = parties.giver_at;
    to_at = parties.taker_at;
    from_state = parties.giver_state;
    to_state = parties.taker_state;
    used =
        subst (λ (v : Fpage). IsUsedBy m.size m.mappings parties.giver.space parties.taker.space parties.sends.items.items v move) parties.window_is
        (subst (λ (l : List Item). IsUsedBy m.size m.mappings parties.giver.space parties.taker.space l window move) parties.items_is
        (subst (λ (k : ℕ). IsUsedBy m.size m.mappings parties.giver.space k items window move) parties.to_is
        (subst (λ (k : ℕ). IsUsedBy m.size m.mappings k to items window move) parties.from_is u)));
  }

  pub passed_first : (item page : ℕ) → Passed m step item page item page
  passed_first item page = record {
    low = omega arith;
    none = λ move h reached. elim reached [ inl later ↦ omega (arith, later) | inr same ↦ let e = same.0 in omega (arith, e) ];
    start_is = inl (refl, refl);
  }

  -- the move of this item is from the page that is looked at on
  from_start : (item page number start : ℕ) (move : PageMove) → Passed m step item page number start → IsFrom item page move → move.item ≡ number → start ≤ move.source.page
  from_start item page number start move p reached of = elim p.start_is [
    | inl same ↦ let a = same.0 in let b = same.1 in elim reached [ inl later ↦ omega (arith, later, of, a) | inr here ↦ let c = here.1 in omega (arith, b, c) ]
    | inr later ↦ let b = later.1 in omega (arith, b)
  ]

  pub passed_on : (item page number start : ℕ) → Passed m step item page number start → MovesNone m.size m.mappings «from» to items window number start → Passed m step item page (number + 1) 0
  passed_on item page number start p none =
      let low = p.low in
      record {
        low = omega (arith, low);
        none = λ move h reached.
            let a = p.none move h reached in
            elim (below_or number move.item) [
              | inl below ↦ omega (arith, below)
              | inr above ↦
                  let of : move.item ≡ number = omega (arith, a, above) in
                  absurd (none move (moved_used move h, of) (from_start item page number start move p reached of))
            ];
        start_is = inr (omega (arith, low), refl);
      }

  -- no item is left
  pub passed_all : (item page number start : ℕ) → Passed m step item page number start → length items ≤ number → NoneMovedFrom m step item page
  passed_all item page number start p all move h reached =
      let u = moved_used move h in
      let a = p.none move h reached in
      let b = slice_get_within items move.item u.by u.item in
      omega (arith, a, b, all)

  pub passed_next : (item page number start : ℕ) (moved : MovedPage) → Passed m step item page number start → MovesNext m.size m.mappings «from» to items window number start moved → IsNextMove m step item page moved
  passed_next item page number start moved p n =
      let of = n.is.1 in
      record {
        move = n.move;
        is = used_moved n.move n.is.0;
        reached = elim p.start_is [
          | inl same ↦ let a = same.0 in let b = same.1 in let c = n.reached in inr (omega (arith, of, a), omega (arith, b, c))
          | inr later ↦ let a = later.0 in inl (omega (arith, of, a))
        ];
        least = λ other h reached.
            let a = p.none other h reached in
            elim (below_or n.move.item other.item) [
              | inl below ↦ inl below
              | inr above ↦
                  let same : other.item ≡ number = omega (arith, a, above, of) in
                  inr (omega (arith, same, of), n.least other (moved_used other h, same) (from_start item page number start other p reached same))
            ];
        told = n.told;
        small = n.small;
      }

-- ONE MOVE OF A PAGE

shifts_on : («from» to n s t u : ℕ) → Shifts «from» to n s t → Shifts «from» to n s u → t ≡ u
shifts_on «from» to n s t u h k = omega (arith, h.source_is, h.target_is, k.source_is, k.target_is)

moves_on : (size : PageSize) (f w : Option Bytes) (a s t u : ℕ) → MatchOption f ⊥ (λ x. MatchOption w ⊥ (λ y. Takes size (part_of a x y) s t)) → MatchOption f ⊥ (λ x. MatchOption w ⊥ (λ y. Takes size (part_of a x y) s u))
    → t ≡ u
moves_on size None w a s t u h k = absurd h
moves_on size (Some f) None a s t u h k = absurd h
moves_on size (Some f) (Some w) a s t u h k = shifts_on _ _ _ s t u h.1 k.1

-- an item has one used move of a page
used_once : (size : PageSize) (s : Mappings) («from» to : ℕ) (items : List Item) (window : Fpage) (u v : PageMove) → IsUsedBy size s «from» to items window u → IsUsedBy size s «from» to items window v
    → u.item ≡ v.item → u.source.page ≡ v.source.page → u ≡ v
used_once size s «from» to items window u v a b item page =
    let by : a.by ≡ b.by = same_value (sym a.item ∙ ap (slice_get items) item ∙ b.item) in
    let source : u.source ≡ v.source = λ i. record { space = (a.moves.from_space ∙ sym b.moves.from_space) i; page = page i } in
    let moved : ItemMoves size b.by window v.source.page u.target.page =
    subst (λ (p : ℕ). ItemMoves size b.by window p u.target.page) page (subst (λ (i : Item). ItemMoves size i window u.source.page u.target.page) by a.moves.pages) in
    let to_page : u.target.page ≡ v.target.page = moves_on size (bytes_of (fpage_of b.by)) (bytes_of window) (base_of b.by) v.source.page u.target.page v.target.page moved b.moves.pages in
    let target : u.target ≡ v.target = λ i. record { space = (a.moves.to_space ∙ sym b.moves.to_space) i; page = to_page i } in
    let shows : u.shows ≡ v.shows = same_value (sym a.moves.present ∙ ap (shown s) source ∙ b.moves.present) in
    let grant : u.grant ≡ v.grant = a.moves.grant_is ∙ ap is_grant by ∙ sym b.moves.grant_is in
    let rights : u.rights ≡ v.rights = a.moves.rights_are ∙ (λ i. common (shows i).rights (rights_of (fpage_of (by i)))) ∙ sym b.moves.rights_are in
    λ i. record { item = item i; source = source i; target = target i; grant = grant i; shows = shows i; rights = rights i }

-- a step has one move of a page by an item
pub moved_once : (m : Machine) (step : Step) (u v : PageMove) → IsMoved m step u → IsMoved m step v → u.item ≡ v.item → u.source.page ≡ v.source.page → u ≡ v
moved_once m step u v a b item page =
    used_once m.size m.mappings a.«from».space a.to.space a.sends.items.items a.takes.window u v a.used
    (moved_used m step a.«from».space a.to.space a.sends.items.items a.takes.window (parties_of m step u a) v b) item page
