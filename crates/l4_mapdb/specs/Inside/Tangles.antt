-- When the used moves of a message contradict each other, by keys. (this profile's own)
use Rattle.std.specs.Prelude.{◌≡◌, ◌≢◌, ℕ, ◌⊎◌, IsTrue}
use Rattle.l4_nodes.specs.declared.Place.{Place as LinkPlace}
use Rattle.l4_links.specs.Entries.{Entries, IsAt, IsStanding, IsSource, Descends}
use Rattle.l4_mapdb.specs.declared.sources.UsedMove.{UsedMove}

module _ (Used : UsedMove → Type 0) where
  -- a used move of another item than this one fills the place
  pub record FillsToo (item : ℕ) (place : LinkPlace) : Type 0 where
    pub other : UsedMove
    pub used : Used other
    pub differ : item ≢ other.item
    pub target : other.target ≡ place

  -- a used move of another item than this one is out of the page
  pub record MovesToo (item page : ℕ) : Type 0 where
    pub other : UsedMove
    pub used : Used other
    pub differ : item ≢ other.item
    pub page_is : other.page ≡ page

  -- what stands at the place is a source of a used move, or an ancestor of one
  pub record Replaces (s : Entries) (place : LinkPlace) : Type 0 where
    pub key : ℕ
    pub at : IsAt s place key
    pub stands : IsStanding s key
    pub other : UsedMove
    pub used : Used other
    pub above : (other.source ≡ key) ⊎ Descends s other.source key

  -- the other move fills the move's target, or is out of what the move grants
  abbrev pub Meets : UsedMove → UsedMove → Type 0
  Meets move other = (other.target ≡ move.target) ⊎ (IsTrue move.grant × (other.page ≡ move.page))

  -- a used move of this other item does
  pub record ClashesWith (move : UsedMove) (item : ℕ) : Type 0 where
    pub other : UsedMove
    pub used : Used other
    pub item_is : other.item ≡ item
    pub differ : move.item ≢ other.item
    pub meets : Meets move other

  -- another item fills the move's target, or moves what the move grants
  abbrev pub Clashes : UsedMove → Type 0
  Clashes move = FillsToo move.item move.target ⊎ (IsTrue move.grant × MovesToo move.item move.page)

  -- the used move has a target that another one fills, or is out of what is granted and moved twice, or its target is above a source
  abbrev pub Tangles : Entries → UsedMove → Type 0
  Tangles s move = Clashes move ⊎ Replaces s move.target

  -- a used move tangles
  pub record HasTangle (s : Entries) : Type 0 where
    pub move : UsedMove
    pub used : Used move
    pub tangles : Tangles s move

-- what stands at the place is a source, or above one
pub record AboveSource (s : Entries) (place : LinkPlace) : Type 0 where
  pub key : ℕ
  pub at : IsAt s place key
  pub stands : IsStanding s key
  pub low : ℕ
  pub source : IsSource s low
  pub above : (low ≡ key) ⊎ Descends s low key
