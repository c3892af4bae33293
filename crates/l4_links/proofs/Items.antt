-- What a message brings, item by item, while the tables of both spaces are aside.
use Rattle.std.proofs.Common.{◌≡◌, ◌≢◌, ℕ, zero, suc, ◌+◌, ◌<◌, ◌≤◌, List, Option, Some, length, slice_get, get_or, sym, ap, ◌∙◌, subst, inl, inr, arith}
use Rattle.std.proofs.lemmas.Bool.{cases_lt}
use Rattle.std.proofs.lemmas.Option.{slice_get-get_or}
use Rattle.std.specs.FinSet as set
use Rattle.l4_spaces.specs.Tables.{Tables}
use Rattle.l4_spaces.specs.Rows.{Rows}
use Rattle.l4_msg.specs.declared.items.ItemMove.{ItemMove}
use Rattle.l4_nodes.specs.Slots.{Slots, Store, HasRoomFor}
use Rattle.l4_links.specs.declared.blocks.Pages.{Pages}
use Rattle.l4_links.specs.Entries.{pages_of, IsDue, Brings, AreApart}
use Rattle.l4_links.specs.Inside.Bringing.{Fits, HaveTables, MakesTables, sum_to, WantsItems}
use Rattle.l4_links.specs.Inside.Growing.{HaveRoom, AreGrowing, StayGrowing, BringsAll, CanBringFrom, BringsPages}
use Rattle.l4_links.specs.Inside.Keeping.{entries_of}
use Rattle.l4_links.proofs.Bringing.{brings_none}
use Rattle.l4_links.proofs.BroughtParts.{item_brings, item_fits, item_tables, item_lacking, at_most_back, room_less}

-- the element that is read stands there
pub read_there : {A : Type 0} (xs : List A) (i : ℕ) (x : A) → i < length xs → x ≡ get_or xs i x → slice_get xs i ≡ Some x
read_there {A = A} xs i x lt is = slice_get-get_or xs i x lt ∙ ap (λ (v : A). Some v) (sym is)

-- the sum with one number more, and with some
sum_more : (counts : ℕ → ℕ) (i : ℕ) → sum_to counts (i + 1) ≡ sum_to counts i + counts i
unfolding sum_to
sum_more counts i = ap (sum_to counts) (let e : i + 1 ≡ suc i = omega arith in e)

sum_up : (counts : ℕ → ℕ) (a b : ℕ) → a ≤ b → sum_to counts a ≤ sum_to counts b
unfolding sum_to
sum_up counts a zero le = let e : a ≡ 0 = omega (arith, le) in subst (λ (z : ℕ). sum_to counts z ≤ sum_to counts 0) (sym e) (omega arith)
sum_up counts a (suc b) le = elim (cases_lt a (suc b)) [
  | inl lt ↦ (let up = sum_up counts a b (omega (arith, lt)) in omega (arith, up))
  | inr ge ↦ (let e : a ≡ suc b = omega (arith, ge, le) in subst (λ (z : ℕ). sum_to counts z ≤ sum_to counts (suc b)) (sym e) (omega arith))
]

-- tables were made, which have no keys
growing_made : (from to : ℕ) (pages : Tables) (sources rows made : Rows) (slots : Slots) (first head : Option ℕ) (stamp : ℕ) (all : Tables) → MakesTables rows made → AreGrowing from to pages sources rows slots first head stamp all
    → AreGrowing from to pages sources made slots first head stamp all
growing_made from to pages sources rows made slots first head stamp all m g = grind arith

-- the items before this one have brought what is due, and there is room for what the others bring
pub record HaveBrought (from to : ℕ) (items : List ItemMove) (i wants : ℕ) (old_sources sources old_rows rows : Rows) (old now : Store) : Type 0 where
  pub brings : BringsAll from to (IsDue from to items i (entries_of old.slots)) old_sources sources old_rows rows old.slots now.slots
  pub fits : Fits (IsDue from to items (length items) (entries_of old.slots)) (entries_of old.slots)
  pub made : HaveTables (IsDue from to items (length items) (entries_of old.slots)) rows
  pub asks : WantsItems from to items (length items) (entries_of old.slots) wants
  pub room : (rest : ℕ) → sum_to asks.counts i + rest ≤ wants → HasRoomFor now rest

module _ (from to : ℕ) (differ : from ≢ to) (items : List ItemMove) (apart : AreApart items (length items)) (wants : ℕ) (old_sources old_rows : Rows) (old : Store) where
  -- tables were made, and room
  pub still_growing : (pages : Tables) (rows : Rows) (now : Slots) → MakesTables old_rows rows → now ≡ old.slots → StayGrowing from to pages old_sources old_sources old_rows rows old.slots now
  still_growing pages rows now makes same first head stamp all g =
      (all, subst (λ (s : Slots). AreGrowing from to pages old_sources rows s first head stamp all) (sym same) (growing_made from to pages old_sources old_rows rows old.slots first head stamp all makes g))

  at_first : (w : WantsItems from to items (length items) (entries_of old.slots) wants) (rest : ℕ) → sum_to w.counts 0 + rest ≤ wants → rest ≤ wants
  unfolding sum_to
  at_first w rest le = omega (arith, le)

  pub brought_first : (rows : Rows) (now : Store) → MakesTables old_rows rows → now.slots ≡ old.slots → HasRoomFor now wants → Fits (IsDue from to items (length items) (entries_of old.slots)) (entries_of old.slots)
      → HaveTables (IsDue from to items (length items) (entries_of old.slots)) rows → WantsItems from to items (length items) (entries_of old.slots) wants → HaveBrought from to items 0 wants old_sources old_sources old_rows rows old now
  brought_first rows now makes same room fits made asks = record {
    brings = λ pages first head stamp all g.
        (let v = still_growing pages rows now.slots makes same first head stamp all g in (
          v.0,
          v.1,
          subst (λ (s : Slots). Brings (IsDue from to items 0 (entries_of old.slots)) (entries_of old.slots) (entries_of s)) (sym same)
              (brings_none (IsDue from to items 0 (entries_of old.slots)) (entries_of old.slots) (λ own e d. (let lt = d.before in omega (arith, lt)))),
        ));
    fits = fits;
    made = made;
    asks = asks;
    room = λ rest le. (let all : rest ≤ wants = at_first asks rest le in room_less now wants rest all room);
  }

  -- the next item
  module _ (i : ℕ) (sources rows : Rows) (now : Store) (h : HaveBrought from to items i wants old_sources sources old_rows rows old now) (by : ItemMove) (is : slice_get items i ≡ Some by) (in_items : i < length items)
      (pages : Tables) (first head : Option ℕ) (stamp : ℕ) (all : Tables) (g : AreGrowing from to pages old_sources old_rows old.slots first head stamp all) where
    abbrev of : Pages
    of = pages_of from to by

    abbrev came : (later : Tables) × AreGrowing from to pages sources rows now.slots first head stamp later × Brings (IsDue from to items i (entries_of old.slots)) (entries_of old.slots) (entries_of now.slots)
    came = h.brings pages first head stamp all g

    item_room : (more : ℕ) → sum_to h.asks.counts (i + 1) + more ≤ wants → HaveRoom of of.source.page more now
    item_room more le = (
      h.asks.counts i,
      at_most_back (λ n _. item_lacking from to differ items apart i by is (entries_of old.slots) (entries_of now.slots) came.2 n) (h.asks.each i by in_items is),
      h.room (h.asks.counts i + more) (let e = sum_more h.asks.counts i in omega (arith, le, e)),
    )

    pub next_can : CanBringFrom (pages_of from to by) (pages_of from to by).source.page sources rows now
    next_can = record {
      pages = pages;
      first = first;
      head = head;
      stamp = stamp;
      all = came.0;
      from = omega arith;
      apart = differ;
      growing = came.1;
      fits = item_fits from to differ items apart i by is (entries_of old.slots) (entries_of now.slots) came.2 h.fits;
      made = item_tables from to differ items apart i by is (entries_of old.slots) (entries_of now.slots) came.2 rows h.made;
      room = item_room 0 (let up = sum_up h.asks.counts (i + 1) (length items) (omega (arith, in_items)) in let total = h.asks.total in omega (arith, up, total));
    }

    pub brought_next : (new_sources new_rows : Rows) (new : Store) → BringsPages (pages_of from to by) (pages_of from to by).source.page (pages_of from to by).end sources new_sources rows new_rows now new
        → HaveBrought from to items (i + 1) wants old_sources new_sources old_rows new_rows old new
    brought_next new_sources new_rows new b = record {
      brings = λ p f k s t start.
          (let v = h.brings p f k s t start in
          let u = b.brings p f k s v.0 v.1 in
          (u.0, u.1, item_brings from to differ items apart i by is (entries_of old.slots) (entries_of now.slots) v.2 (entries_of new.slots) u.2));
      fits = h.fits;
      made = λ own e due high low page_is lt. b.made high (h.made own e due high low page_is lt);
      asks = h.asks;
      room = λ rest le. (let left = b.room rest (omega arith) (item_room rest le) in room_less new (left.0 + rest) rest (omega arith) left.2);
    }
