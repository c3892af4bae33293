-- The effect of a message's items on the mappings (L4 X.2 manual, IPC: map and grant items; which messages are entangled, that a target is
-- replaced with all its descendants, and the cut of a grant are this profile's own). The used moves and the places that are removed depend
-- only on the mappings before the step, and nothing depends on the order of the items or of the pages.
use Rattle.std.specs.Prelude.{◌≡◌, ◌≢◌, ℕ, ◌↔◌, Bool, List, Option, Some, None, IsTrue, ◌⊎◌, slice_get}
use Rattle.l4_fpage.specs.Rights.{RightsSet, Right, has, no_rights, common}
use Rattle.l4_msg.specs.Moves.{MovePairs}
use Rattle.l4_mapdb.specs.declared.Place.{Place}
use Rattle.l4_mapdb.specs.declared.Mapping.{Mapping}
use Rattle.l4_msg.specs.declared.items.ItemMove.{ItemMove}
use Rattle.l4_mapdb.specs.Mappings.{Mappings, shown, IsPresent, Descends, IsOrDescends}
use Rattle.l4_mapdb.specs.Losing.{LosesRights}

-- the move of one page by one item, with the mapping of its source and the rights that page and item have in common
pub record PageMove : Type 0 where
  pub item : ℕ
  pub source : Place
  pub target : Place
  pub grant : Bool
  pub shows : Mapping
  pub rights : RightsSet

-- the move is used: an item names it, and its source is present and shares a right with the item
pub record IsUsed (old : Mappings) (from to : ℕ) (items : List ItemMove) (move : PageMove) : Type 0 where
  pub by : ItemMove
  pub item : slice_get items move.item ≡ Some by
  pub from_space : move.source.space ≡ from
  pub to_space : move.target.space ≡ to
  pub pages : MovePairs (Some by.mv) move.source.page move.target.page
  pub grant : move.grant ≡ by.grant
  pub present : shown old move.source ≡ Some move.shows
  pub rights : move.rights ≡ common move.shows.rights by.rights
  pub some_right : move.rights ≢ no_rights

module _ (Used : PageMove → Type 0) where
  -- a used move of a grant item has the place as its source
  pub record IsGranted (place : Place) : Type 0 where
    pub move : PageMove
    pub used : Used move
    pub grant : IsTrue move.grant
    pub source : move.source ≡ place

  -- Two used moves exclude each other: they have the same target (and are of different items, because an item fills no target twice); or
  -- the first is of a grant item, and another item has the same source; or the first has a present target that is the source of the second
  -- or an ancestor of it.
  pub record IsEntangled (old : Mappings) : Type 0 where
    pub one : PageMove
    pub other : PageMove
    pub one_used : Used one
    pub other_used : Used other
    pub clash :
        ((one.item ≢ other.item) × ((one.target ≡ other.target) ⊎ (IsTrue one.grant × (one.source ≡ other.source))))
        ⊎ (IsPresent old one.target × IsOrDescends old other.source one.target)

  -- the place is a present target of a used move, or descends from one
  pub record IsGone (old : Mappings) (place : Place) : Type 0 where
    pub move : PageMove
    pub used : Used move
    pub present : IsPresent old move.target
    pub below : IsOrDescends old place move.target

  -- the later place of what is at a place: a granted place is renamed, and any other one stays
  abbrev pub StandsAt : Place → Place → Type 0
  StandsAt place later =
      ((move : PageMove) × Used move × IsTrue move.grant × (move.source ≡ place) × (move.target ≡ later))
      ⊎ (¬ (IsGranted place) × (place ≡ later))

  -- the parent afterwards
  abbrev pub ParentLater : Option Place → Option Place → Type 0
  ParentLater None later = later ≡ None
  ParentLater (Some parent) later = (place : Place) × StandsAt parent place × (later ≡ Some place)

  -- The place is the target of a used move. A map item makes its source the parent, and a granted page keeps its own.
  pub record IsFilled (place : Place) (m : Mapping) : Type 0 where
    pub move : PageMove
    pub used : Used move
    pub target : move.target ≡ place
    pub frame : m.frame ≡ move.shows.frame
    pub rights : m.rights ≡ move.rights
    pub parent :
        (¬ (IsTrue move.grant) × (m.parent ≡ Some move.source))
        ⊎ (IsTrue move.grant × ParentLater move.shows.parent m.parent)

  -- the place was present, and is neither removed nor granted
  pub record Stays (old : Mappings) (place : Place) (m : Mapping) : Type 0 where
    pub before : Mapping
    pub at : shown old place ≡ Some before
    pub not_gone : ¬ (IsGone old place)
    pub not_granted : ¬ (IsGranted place)
    pub frame : m.frame ≡ before.frame
    pub rights : m.rights ≡ before.rights
    pub parent : ParentLater before.parent m.parent

  abbrev pub Becomes : Mappings → Place → Mapping → Type 0
  Becomes old place m = IsFilled place m ⊎ Stays old place m

  -- the places before the cuts: their mappings are exactly those of the used moves and of the places that stay
  pub record Moved (old new : Mappings) : Type 0 where
    pub spaces : new.spaces ≡ old.spaces
    pub places : (place : Place) (m : Mapping) → (shown new place ≡ Some m) ↔ Becomes old place m

  -- a descendant of a granted place loses the rights that the source had and the target does not have
  pub record IsCut (middle : Mappings) (place : Place) (right : Right) : Type 0 where
    pub move : PageMove
    pub used : Used move
    pub grant : IsTrue move.grant
    pub had : IsTrue (has move.shows.rights right)
    pub lacks : ¬ (IsTrue (has move.rights right))
    pub below : Descends middle place move.target

  -- the effect of the used moves: the places move, and then the rights of the granted places' descendants are cut
  pub record Transfers (old new : Mappings) : Type 0 where
    pub middle : Mappings
    pub moved : Moved old middle
    pub cut : LosesRights (IsCut middle) middle new

-- a used move has a target that is not present
pub record NeedsPlace (Used : PageMove → Type 0) (old : Mappings) : Type 0 where
  pub move : PageMove
  pub used : Used move
  pub absent : ¬ (IsPresent old move.target)

-- the targets of all used moves are present
abbrev pub TargetsPresent : (PageMove → Type 0) → Mappings → Type 0
TargetsPresent Used old = (move : PageMove) → Used move → IsPresent old move.target

-- the effect of a message that is not entangled
abbrev pub Delivers : ℕ → ℕ → List ItemMove → Mappings → Mappings → Type 0
Delivers from to items old new = Transfers (IsUsed old from to items) old new
