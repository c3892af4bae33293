-- What a contract sees of the slab, and what the nodes keep.
use Rattle.std.specs.Prelude.{◌≡◌, ◌≢◌, ◌⊎◌, ◌↔◌, ℕ, ◌+◌, ◌≤◌, List, Option, Some, None, map}
use Rattle.std.specs.Option.{option_map}
use Rattle.l4_fpage.specs.Rights.{set_of_bits}
use Rattle.l4_spaces.specs.Tables.{Tables, key_of, IsSpace, IsPage}
use Rattle.l4_nodes.specs.declared.Place.{Place}
use Rattle.l4_links.specs.declared.Standing.{Standing}
use Rattle.l4_links.specs.declared.Entry.{Entry}
use Rattle.l4_nodes.specs.declared.nodes.Node.{Node}
use Rattle.l4_nodes.specs.declared.nodes.Slot.{Slot}
use Rattle.l4_links.specs.declared.Links.TheInside.{Inside}
use Rattle.l4_links.specs.Inside.Trees.{Limb}
use Rattle.l4_links.specs.Inside.Orders.{first_of}
use Rattle.l4_nodes.specs.Slots.{Slots, Spot, spots}
use Rattle.l4_links.specs.Inside.Nodes.{limbs, values, Worth, AreKeys, IsOf, IsLow, IsForest, IsStamped, AreUnmarked, HasLow, HasMarks, HasSeen}
use Rattle.l4_links.specs.Inside.Stacks.{HasStack}
use Rattle.l4_links.specs.Entries.{Entries, Linked}

abbrev pub standing_of : Node → Standing
standing_of n = record { frame = n.frame; rights = n.rights; source = n.source; granted = n.granted; parent = n.parent }

abbrev pub entry_of : Slot → Entry
entry_of s = record { place = s.place; wanted = s.wanted; stands = option_map standing_of s.node }

abbrev pub entries_of : Slots → Entries
entries_of slots = map (option_map entry_of) slots

abbrev pub seen : Inside → Linked
seen a = record { entries = entries_of a.nodes.slots; spaces = a.pages.spaces }

-- the page tables name a key under a page just where the key is of it, each page lies in a space that is there, and a node can keep each key
pub record IsIndexed (slots : Slots) (pages : Tables) : Type 0 where
  pub names : (place : Place) (key : ℕ) → (key_of pages place.space place.page ≡ Some key) ↔ IsOf slots place key
  pub housed : (key : ℕ) (s : Spot) → spots slots key ≡ Some s → IsSpace pages s.place.space
  pub fits : (key : ℕ) (s : Spot) → spots slots key ≡ Some s → IsPage s.place.page
  pub few : AreKeys slots

-- a child has its parent's frame, and no other rights than the parent
pub record LiesWithin (low high : Worth) : Type 0 where
  pub rights : IsLow high.rights low.rights
  pub frame : low.frame ≡ high.frame

abbrev pub IsWithin : Slots → Type 0
IsWithin slots = (key parent : ℕ) (x : Limb) (low high : Worth) → limbs slots key ≡ Some x → x.parent ≡ Some parent → values slots key ≡ Some low → values slots parent ≡ Some high → LiesWithin low high

-- the next stamp; after the last one there is the stamp 0 until a walk begins
abbrev pub IsFresh : ℕ → ℕ → Type 0
IsFresh stamp fresh = (fresh ≡ 0) ⊎ ((1 ≤ stamp) × (fresh ≡ stamp + 1))

-- a walk begins with the last stamp, where that was for the same, or with a fresh one, or with the first where no node has one
abbrev pub BeginsWalk : ℕ → ℕ → ℕ → ℕ → Slots → Slots → Type 0
BeginsWalk last walk stamp result old new = ((last ≡ walk) × (result ≡ stamp) × (new ≡ old)) ⊎ ((IsFresh stamp result × (new ≡ old)) ⊎ ((result ≡ 1) × AreUnmarked new))

-- the number of a walk for sources; a walk that caps rights has the number of their bits
abbrev pub sources_walk : ℕ
sources_walk = 8

-- the nodes are trees, the list begins with this key, and the marks of this stamp are those of this walk
pub record IsSound (slots : Slots) (first : Option ℕ) (stamp walk : ℕ) : Type 0 where
  pub keys : List ℕ
  pub forest : IsForest slots keys
  pub first_is : first_of keys None ≡ first
  pub within : IsWithin slots
  pub stamped : IsStamped stamp slots
  pub capped : walk ≢ sources_walk → HasMarks (HasLow (set_of_bits walk) slots) stamp slots
  pub sought : walk ≡ sources_walk → HasSeen stamp slots

-- the nodes are trees, the list begins with this key, and no mark is above this stamp; which marks are right is not said
pub record IsLive (slots : Slots) (first : Option ℕ) (stamp : ℕ) : Type 0 where
  pub keys : List ℕ
  pub forest : IsForest slots keys
  pub first_is : first_of keys None ≡ first
  pub within : IsWithin slots
  pub stamped : IsStamped stamp slots

pub record IsKept (a : Inside) : Type 0 where
  pub sound : IsSound a.nodes.slots a.first a.stamp a.walk
  pub indexed : IsIndexed a.nodes.slots a.pages
  pub stack : HasStack a.nodes.slots a.doomed
