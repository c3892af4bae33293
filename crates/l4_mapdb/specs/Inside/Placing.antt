-- What stands where while the used moves of a message are carried out, one after another (this profile's own).
use Rattle.std.specs.Prelude.{◌≡◌, ◌≢◌, ◌⊎◌, ◌<◌, ℕ, Bool, true, false, List, Some, None, IsTrue, slice_get}
use Rattle.std.specs.FinSet as set
use Rattle.l4_fpage.specs.Rights.{RightsSet, common, no_rights}
use Rattle.l4_nodes.specs.declared.Place.{Place as LinkPlace}
use Rattle.l4_links.specs.declared.Standing.{Standing}
use Rattle.l4_links.specs.declared.Entry.{Entry}
use Rattle.l4_links.specs.Entries.{Entries, Linked, entry_at, standing_at, IsAt, IsBlank, HavePlaces, AreTrees, Sprouts, TakesOver}
use Rattle.l4_msg.specs.declared.items.ItemMove.{ItemMove}
use Rattle.l4_mapdb.specs.Transfer.{PageMove, IsUsed, IsEntangled, IsGone}
use Rattle.l4_mapdb.specs.View.{link_place, map_place, mappings_of}
use Rattle.l4_mapdb.specs.Delivering.{IsClean}

-- what is known of the entries before the message
pub record IsStart (start : Linked) (from to : ℕ) (items : List ItemMove) : Type 0 where
  pub places : HavePlaces start
  pub trees : AreTrees start.entries
  pub there : IsTrue (set.contains start.spaces to)
  pub clean : IsClean start
  pub free : ¬ (IsEntangled (IsUsed (mappings_of start) from to items) (mappings_of start))

module _ (start : Linked) (from to : ℕ) (items : List ItemMove) where
  abbrev pub Used : PageMove → Type 0
  Used = IsUsed (mappings_of start) from to items

  -- a blank waits for the move's page
  abbrev pub blank_for : PageMove → Entry
  blank_for move = record { place = link_place move.target; wanted = true; stands = None }

  -- the place is the target of a used move
  pub record IsTarget (place : LinkPlace) : Type 0 where
    pub move : PageMove
    pub used : Used move
    pub target : link_place move.target ≡ place

  -- a used move that is done has granted what stood at the place
  pub record HasGone (Done : PageMove → Type 0) (place : LinkPlace) : Type 0 where
    pub move : PageMove
    pub used : Used move
    pub done : Done move
    pub grant : IsTrue move.grant
    pub source : link_place move.source ≡ place

  -- what stood at the place stands there, marked as a source if a used move has it as source, and unmarked if none has
  pub record IsLeftAt (now : Linked) (key : ℕ) (e : Entry) (t : Standing) : Type 0 where
    pub marked : Bool
    pub at : entry_at now.entries key ≡ Some (record e { stands = Some (record t { source = marked }) })
    pub source : (move : PageMove) → Used move → link_place move.source ≡ e.place → marked ≡ true
    pub plain : ((move : PageMove) → Used move → link_place move.source ≢ e.place) → marked ≡ false

  -- what the map item moves stands at the target as a child of the source
  pub record HasChild (now : Linked) (move : PageMove) : Type 0 where
    pub key : ℕ
    pub parent : ℕ
    pub parent_at : IsAt start.entries (link_place move.source) parent
    pub at : entry_at now.entries key ≡ Some (record { place = link_place move.target; wanted = true; stands = Some (record { frame = move.shows.frame; rights = move.rights; source = false; granted = None; parent = Some parent }) })

  -- The used moves that are done stand at their targets, a blank waits for each of the others, and else the pages that stay stand as they did.
  pub record Placed (Done : PageMove → Type 0) (now : Linked) : Type 0 where
    pub spaces : now.spaces ≡ start.spaces
    pub blank : (move : PageMove) → Used move → ¬ (Done move) → (key : ℕ) × (entry_at now.entries key ≡ Some (blank_for move))
    pub mapped : (move : PageMove) → Used move → Done move → ¬ (IsTrue move.grant) → HasChild now move
    pub granted : (move : PageMove) (by : ItemMove) → Used move → Done move → IsTrue move.grant → slice_get items move.item ≡ Some by →
        (key : ℕ) (e : Entry) (t : Standing) → entry_at start.entries key ≡ Some e → e.place ≡ link_place move.source → e.stands ≡ Some t →
        entry_at now.entries key ≡ Some (record { place = link_place move.target; wanted = false; stands = Some (record t { source = true; granted = Some by.rights }) })
    pub kept : (key : ℕ) (e : Entry) (t : Standing) → entry_at start.entries key ≡ Some e → e.stands ≡ Some t → ¬ (IsGone Used (mappings_of start) (map_place e.place)) → ¬ (HasGone Done e.place) →
        IsLeftAt now key e t
    pub only : (key : ℕ) (e : Entry) → entry_at now.entries key ≡ Some e →
        IsTarget e.place ⊎ ((before : Entry) × (entry_at start.entries key ≡ Some before) × (before.place ≡ e.place) × ¬ (IsGone Used (mappings_of start) (map_place e.place)))

  -- the move is of an item before this one, or of this item and of a page before this one
  pub data IsBefore (item page : ℕ) (move : PageMove) : Type 0 where
    earlier : move.item < item → IsBefore item page move
    same : move.item ≡ item → move.source.page < page → IsBefore item page move

  -- Moves of map items are carried out first, and then those of grant items. Of the kind whose moves are carried out those are done that were come by,
  -- and where that is granting, all that map.
  abbrev pub IsDone : Bool → ℕ → ℕ → PageMove → Type 0
  IsDone grants item page move = (IsTrue grants × ¬ (IsTrue move.grant)) ⊎ ((move.grant ≡ grants) × IsBefore item page move)

-- a page that a message moves from here: what stands there is marked and was not granted, and shares a right with the item
pub record IsSourceAt (s : Entries) (place : LinkPlace) (rights : RightsSet) (key : ℕ) : Type 0 where
  pub standing : Standing
  pub at : IsAt s place key
  pub stands : standing_at s key ≡ Some standing
  pub source : standing.source ≡ true
  pub not_granted : standing.granted ≡ None
  pub some_right : common standing.rights rights ≢ no_rights

-- the page is moved to a child at the other page, whose blank is there
pub record MapsPage (source target : LinkPlace) (rights : RightsSet) (old new : Entries) : Type 0 where
  pub key : ℕ
  pub is : IsSourceAt old source rights key
  pub blank : ℕ
  pub at : IsAt old target blank
  pub sprouts : Sprouts key blank rights old new

-- the page is moved to the other page, whose blank is there
pub record GrantsPage (source target : LinkPlace) (rights : RightsSet) (old new : Entries) : Type 0 where
  pub key : ℕ
  pub is : IsSourceAt old source rights key
  pub blank : ℕ
  pub at : IsAt old target blank
  pub takes : TakesOver key blank rights old new

-- the page is moved as an item of this kind moves it
abbrev pub MovesPage : Bool → LinkPlace → LinkPlace → RightsSet → Entries → Entries → Type 0
MovesPage grants source target rights old new = ((grants ≡ false) × MapsPage source target rights old new) ⊎ ((grants ≡ true) × GrantsPage source target rights old new)

-- no page is moved from here
abbrev pub MovesNone : LinkPlace → RightsSet → Entries → Type 0
MovesNone source rights s = (key : ℕ) → ¬ (IsSourceAt s source rights key)

-- where a page is moved from here, a blank waits for it
abbrev pub HasBlank : LinkPlace → LinkPlace → RightsSet → Entries → Type 0
HasBlank source target rights s = (key : ℕ) → IsSourceAt s source rights key → (blank : ℕ) × IsAt s target blank × IsBlank s blank
