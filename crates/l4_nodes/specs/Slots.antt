-- The slots of a slab as contracts see them, and what a write to one of them does.
use Rattle.std.specs.Prelude.{◌≡◌, ◌≢◌, ℕ, ◌+◌, ◌≤◌, ◌<◌, Bool, false, List, Option, Some, None, is_some, count_by, slice_index_or, option_and_then}
use Rattle.std.specs.Option.{option_map}
use Rattle.l4_fpage.specs.Rights.{RightsSet}
use Rattle.l4_spaces.specs.Keys.{no_key}
use Rattle.l4_nodes.specs.declared.Place.{Place}
use Rattle.l4_nodes.specs.declared.nodes.Node.{Node}
use Rattle.l4_nodes.specs.declared.nodes.Slot.{Slot}

abbrev pub Slots : Type 0
Slots = List (Option Slot)

abbrev pub slot_at : Slots → ℕ → Option Slot
slot_at slots key = slice_index_or slots key None

abbrev pub node_at : Slots → ℕ → Option Node
node_at slots key = option_and_then (λ (s : Slot). s.node) (slot_at slots key)

-- a slot's page, and whether a message fills it
pub record Spot : Type 0 where
  pub place : Place
  pub wanted : Bool

abbrev pub spot_of : Slot → Spot
spot_of s = record { place = s.place; wanted = s.wanted }

abbrev pub spots : Slots → ℕ → Option Spot
spots slots key = option_map spot_of (slot_at slots key)

abbrev pub wanted_in : Option Spot → Bool
wanted_in None = false
wanted_in (Some s) = s.wanted

-- the node, of which no walk has noted anything
abbrev pub unnoted : Node → Node
unnoted n = record n { seen = 0; mark = 0; end = None }

-- the slot, where no walk has noted anything of its key
abbrev pub unnoted_slot : Slot → Slot
unnoted_slot s = record s { node = option_map unnoted s.node }

-- what is in each slot, the key of the next one, how many slots fit with no allocation, and of how many keys something can be noted with none
pub record Store : Type 0 where
  pub slots : Slots
  pub vacant_key : ℕ
  pub capacity : ℕ
  pub noted : ℕ

-- so many more slots fit, and something can be noted of each key that a slot can then have, with no allocation; a node can keep each such key
pub record HasRoomFor (s : Store) (more : ℕ) : Type 0 where
  pub slots : count_by is_some s.slots + more ≤ s.capacity
  pub notes : s.capacity ≤ s.noted
  pub keys : s.capacity < no_key

-- the slot has this node now, and all else is as it was
pub record Writes (key : ℕ) (node : Option Node) (old new : Slots) : Type 0 where
  pub here : slot_at old key ≢ None → node_at new key ≡ node
  pub others : (other : ℕ) → other ≢ key → node_at new other ≡ node_at old other
  pub spots_same : (other : ℕ) → spots new other ≡ spots old other

-- the slot under the key is of this page now, and all else is as it was
pub record SetsPlace (key : ℕ) (place : Place) (old new : Slots) : Type 0 where
  pub here : slot_at new key ≡ option_map {T = Slot} (λ s. record s { place = place }) (slot_at old key)
  pub others : (other : ℕ) → other ≢ key → slot_at new other ≡ slot_at old other

-- the slot's page is wanted now or not, and all else is as it was
pub record SetsWanted (key : ℕ) (wanted : Bool) (old new : Slots) : Type 0 where
  pub here : slot_at new key ≡ option_map {T = Slot} (λ s. record s { wanted = wanted }) (slot_at old key)
  pub others : (other : ℕ) → other ≢ key → slot_at new other ≡ slot_at old other

-- the slot is of this page now, with a note of the rights of the item that grants it, and all else is as it was
pub record Gives (key : ℕ) (place : Place) (rights : RightsSet) (old new : Slots) : Type 0 where
  pub here : slot_at new key ≡ option_map {T = Slot} (λ s. record s { place = place; node = option_map (λ (n : Node). record n { granted = Some rights }) s.node }) (slot_at old key)
  pub others : (other : ℕ) → other ≢ key → slot_at new other ≡ slot_at old other

-- the node of the key, if it is meant, has this next key
pub record SetsNext (at next : Option ℕ) (old new : Slots) : Type 0 where
  pub here : (key : ℕ) → at ≡ Some key → node_at new key ≡ option_map {T = Node} (λ n. record n { next = next }) (node_at old key)
  pub others : (key : ℕ) → at ≢ Some key → node_at new key ≡ node_at old key
  pub spots_same : (other : ℕ) → spots new other ≡ spots old other

pub record SetsPrev (at prev : Option ℕ) (old new : Slots) : Type 0 where
  pub here : (key : ℕ) → at ≡ Some key → node_at new key ≡ option_map {T = Node} (λ n. record n { prev = prev }) (node_at old key)
  pub others : (key : ℕ) → at ≢ Some key → node_at new key ≡ node_at old key
  pub spots_same : (other : ℕ) → spots new other ≡ spots old other

-- the node has these rights and this link of the stack
pub record SetsRights (key : ℕ) (rights : RightsSet) (doomed : Option ℕ) (old new : Slots) : Type 0 where
  pub here : node_at new key ≡ option_map {T = Node} (λ n. record n { rights = rights; doomed = doomed }) (node_at old key)
  pub others : (other : ℕ) → other ≢ key → node_at new other ≡ node_at old other
  pub spots_same : (other : ℕ) → spots new other ≡ spots old other

-- a walk has come by the node and been over its run, up to this end
pub record Closes (key stamp : ℕ) (end : Option ℕ) (old new : Slots) : Type 0 where
  pub here : node_at new key ≡ option_map {T = Node} (λ n. record n { seen = stamp; mark = stamp; end = end }) (node_at old key)
  pub others : (other : ℕ) → other ≢ key → node_at new other ≡ node_at old other
  pub spots_same : (other : ℕ) → spots new other ≡ spots old other

-- a walk has come by the node, and none that is known has been over its run
pub record Sees (key stamp : ℕ) (old new : Slots) : Type 0 where
  pub here : node_at new key ≡ option_map {T = Node} (λ n. record n { seen = stamp; mark = 0 }) (node_at old key)
  pub others : (other : ℕ) → other ≢ key → node_at new other ≡ node_at old other
  pub spots_same : (other : ℕ) → spots new other ≡ spots old other

-- the node is a source now, or none
pub record SetsSource (key : ℕ) (source : Bool) (old new : Slots) : Type 0 where
  pub here : node_at new key ≡ option_map {T = Node} (λ n. record n { source = source }) (node_at old key)
  pub others : (other : ℕ) → other ≢ key → node_at new other ≡ node_at old other
  pub spots_same : (other : ℕ) → spots new other ≡ spots old other

-- the node is neither a source nor granted any more
pub record SetsPlain (key : ℕ) (old new : Slots) : Type 0 where
  pub here : node_at new key ≡ option_map {T = Node} (λ n. record n { source = false; granted = None }) (node_at old key)
  pub others : (other : ℕ) → other ≢ key → node_at new other ≡ node_at old other
  pub spots_same : (other : ℕ) → spots new other ≡ spots old other
