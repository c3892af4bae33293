-- What a message moves, by keys, and what is done to pages before they are moved. (this profile's own)
use Rattle.std.specs.Prelude.{◌≡◌, ◌≢◌, ◌⊎◌, ◌<◌, ◌≤◌, ◌+◌, ◌-◌, ◌*◌, ◌^◌, ℕ, List, Option, Some, None, true, false, length, slice_get, option_and_then, option_map}
use Rattle.l4_fpage.specs.Pages.{most_pages}
use Rattle.l4_fpage.specs.Rights.{common, no_rights}
use Rattle.l4_msg.specs.Moves.{MovePairs}
use Rattle.l4_nodes.specs.declared.Place.{Place as LinkPlace}
use Rattle.l4_links.specs.declared.Standing.{Standing}
use Rattle.l4_links.specs.declared.Entry.{Entry}
use Rattle.l4_links.specs.Entries.{Entries, entry_at, standing_at, IsAt, IsSource, Descends, cut_off}
use Rattle.l4_msg.specs.declared.items.ItemMove.{ItemMove}
use Rattle.l4_mapdb.specs.declared.sources.UsedMove.{UsedMove}
use Rattle.l4_mapdb.specs.declared.sources.UsedMoves.{UsedMoves}

-- what stands, without its marks
abbrev pub plain : Standing → Standing
plain t = record t { source = false; granted = None }

-- what stands under a key, without its marks, and the page
abbrev pub stand_at : Entries → ℕ → Option (LinkPlace × Standing)
stand_at s key = option_and_then (λ (e : Entry). option_map (λ (t : Standing). (e.place, plain t)) e.stands) (entry_at s key)

-- the same stands under each key, but for its marks
abbrev pub StandAlike : Entries → Entries → Type 0
StandAlike old new = (key : ℕ) → stand_at new key ≡ stand_at old key

-- a move is used: an item names it, and its source stands and shares a right with the item
pub record IsMoved (s : Entries) (from to : ℕ) (items : List ItemMove) (move : UsedMove) : Type 0 where
  pub by : ItemMove
  pub item : slice_get items move.item ≡ Some by
  pub grant : move.grant ≡ by.grant
  pub to_space : move.target.space ≡ to
  pub pages : MovePairs (Some by.mv) move.page move.target.page
  pub standing : Standing
  pub stands : stand_at s move.source ≡ Some (record { space = from; page = move.page }, standing)
  pub some_right : common standing.rights by.rights ≢ no_rights

-- where a page of an item stands in the order of items and of their pages
abbrev pub turn : ℕ → ℕ → ℕ
turn item page = item * most_pages + page

abbrev pub turn_of : UsedMove → ℕ
turn_of move = turn move.item move.page

-- the turn that a walk over the used moves goes on from
abbrev pub turn_in : UsedMoves → ℕ
turn_in moves = turn moves.item moves.page

-- how many turns are left of such a walk
abbrev pub turns_left : List ItemMove → UsedMoves → ℕ
turns_left items moves = length items * most_pages - turn_in moves

-- the used move is the first one from this turn on
pub record IsNextMove (s : Entries) (from to : ℕ) (items : List ItemMove) (start : ℕ) (move : UsedMove) : Type 0 where
  pub moved : IsMoved s from to items move
  pub after : start ≤ turn_of move
  pub first : (other : UsedMove) → IsMoved s from to items other → start ≤ turn_of other → turn_of move ≤ turn_of other

-- the used move is the first one of the item from this page on
pub record IsNextOfItem (s : Entries) (from to : ℕ) (items : List ItemMove) (item page : ℕ) (move : UsedMove) : Type 0 where
  pub moved : IsMoved s from to items move
  pub item_is : move.item ≡ item
  pub after : page ≤ move.page
  pub first : (other : UsedMove) → IsMoved s from to items other → other.item ≡ item → page ≤ other.page → move.page ≤ other.page

-- the entry waits for a move: it is wanted, or a blank
abbrev pub IsWaiting : Entry → Type 0
IsWaiting e = (e.wanted ≡ true) ⊎ (e.stands ≡ None)

-- what stands is as it was, and just what these moves move and fill is marked, or came as a blank
pub record Marks (Used : UsedMove → Type 0) (old new : Entries) : Type 0 where
  pub alike : StandAlike old new
  pub sources : (key : ℕ) → IsSource new key → (move : UsedMove) × Used move × (move.source ≡ key)
  pub targets : (key : ℕ) (e : Entry) → entry_at new key ≡ Some e → IsWaiting e → (move : UsedMove) × Used move × (move.target ≡ e.place)
  pub not_granted : (key : ℕ) (t : Standing) → standing_at new key ≡ Some t → t.granted ≡ None

-- the page is wanted
pub record IsWanted (s : Entries) (place : LinkPlace) : Type 0 where
  pub key : ℕ
  pub entry : Entry
  pub at : entry_at s key ≡ Some entry
  pub place_is : entry.place ≡ place
  pub wanted : entry.wanted ≡ true

-- the place is a page of the space from the first page on and before the end
abbrev pub InPages : ℕ → ℕ → ℕ → LinkPlace → Type 0
InPages space first end place = (place.space ≡ space) × (first ≤ place.page) × (place.page < end)

-- the item names the place, as a page of the sender or of the receiver
abbrev pub OfItem : ℕ → ℕ → ItemMove → LinkPlace → Type 0
OfItem from to by place =
    InPages from by.mv.source.first (by.mv.source.first + 2 ^ by.mv.source.log) place
    ⊎ InPages to by.mv.target.first (by.mv.target.first + 2 ^ by.mv.target.log) place

-- one of the items before this number names the place
abbrev pub OfItems : ℕ → ℕ → List ItemMove → ℕ → LinkPlace → Type 0
OfItems from to items end place = (item : ℕ) × (by : ItemMove) × (item < end) × (slice_get items item ≡ Some by) × OfItem from to by place

-- what is wanted for a place: its entry is so noted, or has come
abbrev pub Wants : (LinkPlace → Type 0) → Option Entry → Option Entry → Type 0
Wants Filled old new =
    (new ≡ old)
    ⊎ (((e : Entry) × (old ≡ Some e) × Filled e.place × (new ≡ Some (record e { wanted = true })))
    ⊎ ((place : LinkPlace) × (old ≡ None) × Filled place × (new ≡ Some (record { place = place; wanted = true; stands = None }))))

-- a used move fills the place
abbrev pub IsFilled : (UsedMove → Type 0) → LinkPlace → Type 0
IsFilled Used place = (move : UsedMove) × Used move × (move.target ≡ place)

-- a used move before this turn
abbrev pub Before : (UsedMove → Type 0) → ℕ → UsedMove → Type 0
Before Used next move = Used move × (turn_of move < next)

-- what stands under the key goes for a used move: it stands at the target, or descends from what stands there
pub record Goes (Used : UsedMove → Type 0) (s : Entries) (key : ℕ) : Type 0 where
  pub move : UsedMove
  pub used : Used move
  pub top : ℕ
  pub at : IsAt s move.target top
  pub below : (key ≡ top) ⊎ Descends s key top

-- what goes is cut off, and all else is as it was
abbrev pub IsClearedAt : Type 0 → Option Entry → Option Entry → Type 0
IsClearedAt Gone old new = (Gone × (new ≡ cut_off old)) ⊎ (¬ Gone × (new ≡ old))

-- each source of a used move is marked, and no other page is
pub record AreMarked (Used : UsedMove → Type 0) (old new : Entries) : Type 0 where
  pub marks : Marks Used old new
  pub sources : (move : UsedMove) → Used move → IsSource new move.source

-- each source of a used move is marked, each target is wanted, and no other page is
pub record Roomed (Used : UsedMove → Type 0) (old new : Entries) : Type 0 where
  pub marked : AreMarked Used old new
  pub targets : (move : UsedMove) → Used move → IsWanted new move.target
