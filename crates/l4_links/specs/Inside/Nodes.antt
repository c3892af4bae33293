-- What the nodes of a slab say of trees and of links.
use Rattle.std.specs.Prelude.{◌≡◌, ◌≢◌, ℕ, ◌+◌, ◌<◌, ◌≤◌, ◌⊎◌, ◌++◌, ◌∷◌, length, Bool, true, false, List, Option, Some, None, if◌then◌else◌, option_and_then}
use Rattle.std.specs.Option.{option_map}
use Rattle.l4_fpage.specs.Rights.{RightsSet, common}
use Rattle.l4_nodes.specs.declared.Place.{Place}
use Rattle.l4_nodes.specs.declared.nodes.Node.{Node}
use Rattle.l4_nodes.specs.declared.nodes.Slot.{Slot}
use Rattle.l4_links.specs.Leads.{Leads}
use Rattle.l4_spaces.specs.Keys.{IsKey}
use Rattle.l4_nodes.specs.Slots.{Slots, Spot, slot_at, node_at, spots, SetsNext, SetsPrev}
use Rattle.l4_links.specs.Inside.Trees.{Limb, IsTree, Sprouts, parent_at}
use Rattle.l4_links.specs.Inside.Orders.{Link, IsOnce, IsIn, IsLinked, first_of, position}

-- each key that has a slot is one that a node can keep
abbrev pub AreKeys : Slots → Type 0
AreKeys slots = (key : ℕ) (s : Spot) → spots slots key ≡ Some s → IsKey key

-- the key is of the page
abbrev pub IsOf : Slots → Place → ℕ → Type 0
IsOf slots place key = option_map {T = Spot} (λ s. s.place) (spots slots key) ≡ Some place

-- what is left of a page that is cut off
abbrev pub left_spot : Option Spot → Option Spot
left_spot cut = option_and_then (λ (s : Spot). if s.wanted then Some s else None) cut

abbrev pub limbs : Slots → ℕ → Option Limb
limbs slots key = option_map {T = Node} (λ n. record { parent = n.parent; depth = n.depth }) (node_at slots key)

abbrev pub links : Slots → ℕ → Option Link
links slots key = option_map {T = Node} (λ n. record { prev = n.prev; next = n.next }) (node_at slots key)

-- what a node says of its page, apart from its tree
pub record Worth : Type 0 where
  pub frame : ℕ
  pub rights : RightsSet
  pub source : Bool
  pub granted : Option RightsSet

abbrev pub values : Slots → ℕ → Option Worth
values slots key = option_map {T = Node} (λ n. record { frame = n.frame; rights = n.rights; source = n.source; granted = n.granted }) (node_at slots key)

-- the worth with no other rights than these
abbrev pub capped_worth : RightsSet → Worth → Worth
capped_worth cap w = record w { rights = common w.rights cap }

-- which walks have been over the node's run, and by the node
pub record Marks : Type 0 where
  pub mark : ℕ
  pub seen : ℕ

abbrev pub marks : Slots → ℕ → Option Marks
marks slots key = option_map {T = Node} (λ n. record { mark = n.mark; seen = n.seen }) (node_at slots key)

-- what the stack of nodes without rights needs to know of a node: its rights, and the next key of the stack
pub record Doom : Type 0 where
  pub rights : RightsSet
  pub next : Option ℕ

abbrev pub dooms : Slots → ℕ → Option Doom
dooms slots key = option_map {T = Node} (λ n. record { rights = n.rights; next = n.doomed }) (node_at slots key)

-- no walk has left a mark above this stamp
abbrev pub IsStamped : ℕ → Slots → Type 0
IsStamped stamp slots = 1 ≤ stamp → (key : ℕ) (m : Marks) → marks slots key ≡ Some m → (m.mark ≤ stamp) × (m.seen ≤ stamp)

-- no walk has left a mark
abbrev pub AreUnmarked : Slots → Type 0
AreUnmarked slots = (key : ℕ) (m : Marks) → marks slots key ≡ Some m → (m.mark ≡ 0) × (m.seen ≡ 0)

-- whether the node is a source
abbrev pub sources : Slots → ℕ → Option Bool
sources slots key = option_map {T = Worth} (λ w. w.source) (values slots key)

-- the nodes' links are this list's, and each node stands once in it
pub record IsOrder (slots : Slots) (ks : List ℕ) : Type 0 where
  pub once : IsOnce ks
  pub linked : IsLinked (links slots) None ks None
  pub all : (key : ℕ) (n : Node) → node_at slots key ≡ Some n → IsIn ks key

-- the nodes are trees in the order of this list
pub record IsForest (slots : Slots) (ks : List ℕ) : Type 0 where
  pub order : IsOrder slots ks
  pub tree : IsTree (limbs slots) (position ks)

-- the node has taken the blank's page, with a note of the rights of the item that grants it; the blank has gone, and all else is as it was
pub record TakesOver (key blank : ℕ) (rights : RightsSet) (old new : Slots) : Type 0 where
  pub page : Slot
  pub was : slot_at old blank ≡ Some page
  pub here : slot_at new key ≡ option_map {T = Slot} (λ s. record s { place = page.place; node = option_map (λ (n : Node). record n { granted = Some rights }) s.node }) (slot_at old key)
  pub gone : slot_at new blank ≡ None
  pub others : (other : ℕ) → other ≢ key → other ≢ blank → slot_at new other ≡ slot_at old other

-- the key has no node any more, and all other nodes have their values and stand in their trees as they did
pub record Parts (key : ℕ) (old new : Slots) : Type 0 where
  pub gone : node_at new key ≡ None
  pub limbs_same : (other : ℕ) → other ≢ key → limbs new other ≡ limbs old other
  pub values_same : (other : ℕ) → other ≢ key → values new other ≡ values old other
  pub marks_same : (other : ℕ) → other ≢ key → marks new other ≡ marks old other
  pub dooms_same : (other : ℕ) → other ≢ key → dooms new other ≡ dooms old other
  pub spots_same : (other : ℕ) → spots new other ≡ spots old other

-- the key has no slot any more, and all else stands as it did
pub record TakesSlot (key : ℕ) (old new : Slots) : Type 0 where
  pub gone : slot_at new key ≡ None
  pub limbs_same : (other : ℕ) → other ≢ key → limbs new other ≡ limbs old other
  pub values_same : (other : ℕ) → other ≢ key → values new other ≡ values old other
  pub marks_same : (other : ℕ) → other ≢ key → marks new other ≡ marks old other
  pub dooms_same : (other : ℕ) → other ≢ key → dooms new other ≡ dooms old other
  pub spots_same : (other : ℕ) → other ≢ key → spots new other ≡ spots old other

-- the key has no node any more and no slot but that of a wanted page, and all other nodes are as they were, with their links to it
pub record CutsOff (key : ℕ) (old new : Slots) : Type 0 where
  pub gone : node_at new key ≡ None
  pub spot : spots new key ≡ left_spot (spots old key)
  pub nodes_same : (other : ℕ) → other ≢ key → node_at new other ≡ node_at old other
  pub spots_same : (other : ℕ) → other ≢ key → spots new other ≡ spots old other

-- the node and the one of this next key, if there is one, are neighbours now, and all else is as it was
pub record ClosesGap (top : ℕ) (next : Option ℕ) (old new : Slots) : Type 0 where
  pub middle : Slots
  pub onward : SetsNext (Some top) next old middle
  pub back : SetsPrev next (Some top) middle new

-- a node with this worth has come under the parent
pub record Comes (worth : Worth) (key : ℕ) (old new : Slots) : Type 0 where
  pub vacant : node_at old key ≡ None
  pub value_is : values new key ≡ Some worth
  pub marks_is : marks new key ≡ Some (record { mark = 0; seen = 0 })
  pub limbs_same : (other : ℕ) → other ≢ key → limbs new other ≡ limbs old other
  pub values_same : (other : ℕ) → other ≢ key → values new other ≡ values old other
  pub marks_same : (other : ℕ) → other ≢ key → marks new other ≡ marks old other
  pub dooms_same : (other : ℕ) → other ≢ key → dooms new other ≡ dooms old other
  pub spots_same : (other : ℕ) → spots new other ≡ spots old other

-- a child of the node under the key `parent`, which comes straight after it
abbrev pub child : ℕ → Node → RightsSet → Node
child parent above rights = record {
  frame = above.frame;
  rights = common above.rights rights;
  source = false;
  granted = None;
  depth = above.depth + 1;
  seen = 0;
  mark = 0;
  end = None;
  parent = Some parent;
  prev = Some parent;
  next = above.next;
  doomed = None;
}

-- a blank of the page has come under the key, and all else is as it was
pub record Blanks (place : Place) (key : ℕ) (old new : Slots) : Type 0 where
  pub vacant : slot_at old key ≡ None
  pub filled : slot_at new key ≡ Some (record { place = place; wanted = false; node = None })
  pub others : (other : ℕ) → other ≢ key → slot_at new other ≡ slot_at old other

-- the slots are those that there are once a blank of the page has come under the key, and a child of the parent into that blank
pub record AddsUnder (parent : ℕ) (place : Place) (above : Node) (rights : RightsSet) (old new : Slots) (key : ℕ) : Type 0 where
  pub middle : Slots
  pub blanks : Blanks place key old middle
  pub sprouts : Sprouts (limbs middle) (limbs new) parent key
  pub comes : Comes (record { frame = above.frame; rights = common above.rights rights; source = false; granted = None }) key middle new
  pub forest : (xs ys : List ℕ) → IsForest middle (xs ++ parent ∷ ys) → IsForest new (xs ++ parent ∷ key ∷ ys)

-- what descends from the key is cut off, and all else is as it was
pub record Prunes (top : ℕ) (old new : Slots) : Type 0 where
  pub gone : (key : ℕ) → Leads (parent_at (limbs old)) key top → node_at new key ≡ None
  pub spots_gone : (key : ℕ) → Leads (parent_at (limbs old)) key top → spots new key ≡ left_spot (spots old key)
  pub limbs_kept : (key : ℕ) → ¬ (Leads (parent_at (limbs old)) key top) → limbs new key ≡ limbs old key
  pub values_kept : (key : ℕ) → ¬ (Leads (parent_at (limbs old)) key top) → values new key ≡ values old key
  pub marks_kept : (key : ℕ) → ¬ (Leads (parent_at (limbs old)) key top) → marks new key ≡ marks old key
  pub spots_kept : (key : ℕ) → ¬ (Leads (parent_at (limbs old)) key top) → spots new key ≡ spots old key
  pub front : List ℕ
  pub rest : List ℕ
  pub left : List ℕ
  pub was : IsForest old (front ++ top ∷ rest)
  pub forest : IsForest new (front ++ top ∷ left)

-- what descends from the key is cut off, the key has no node any more, all else is as it was, and the list begins with this key
pub record Clears (top : ℕ) (first after : Option ℕ) (old new : Slots) : Type 0 where
  pub gone : (key : ℕ) → Leads (parent_at (limbs old)) key top → node_at new key ≡ None
  pub spots_gone : (key : ℕ) → Leads (parent_at (limbs old)) key top → spots new key ≡ left_spot (spots old key)
  pub here : node_at new top ≡ None
  pub spot : spots new top ≡ spots old top
  pub limbs_kept : (key : ℕ) → key ≢ top → ¬ (Leads (parent_at (limbs old)) key top) → limbs new key ≡ limbs old key
  pub values_kept : (key : ℕ) → key ≢ top → ¬ (Leads (parent_at (limbs old)) key top) → values new key ≡ values old key
  pub marks_kept : (key : ℕ) → key ≢ top → ¬ (Leads (parent_at (limbs old)) key top) → marks new key ≡ marks old key
  pub spots_kept : (key : ℕ) → key ≢ top → ¬ (Leads (parent_at (limbs old)) key top) → spots new key ≡ spots old key
  pub front : List ℕ
  pub rest : List ℕ
  pub left : List ℕ
  pub was : IsForest old (front ++ top ∷ rest)
  pub forest : IsForest new (front ++ left)
  pub first_is : first_of (front ++ top ∷ rest) None ≡ first → first_of (front ++ left) None ≡ after

-- the node's rights are no others than these, and its link of the stack may be another one
pub record Caps (key : ℕ) (cap : RightsSet) (old new : Slots) : Type 0 where
  pub doomed : Option ℕ
  pub here : node_at new key ≡ option_map {T = Node} (λ n. record n { rights = common n.rights cap; doomed = doomed }) (node_at old key)
  pub others : (other : ℕ) → other ≢ key → node_at new other ≡ node_at old other
  pub spots_same : (other : ℕ) → spots new other ≡ spots old other

-- the place of a key in the list, or the list's end
abbrev pub place_of : List ℕ → Option ℕ → ℕ
place_of ks None = length ks
place_of ks (Some key) = position ks key

-- the mark is one of this stamp; the stamp 0 marks nothing
pub record IsMarked (stamp mark : ℕ) : Type 0 where
  pub same : mark ≡ stamp
  pub some : 1 ≤ stamp

-- the rights lie within these
abbrev pub IsLow : RightsSet → RightsSet → Type 0
IsLow cap rights = common rights cap ≡ rights

-- all keys after the top, up to the end, are deeper than this depth, and this holds of each
pub record Passes (at : ℕ → Option Limb) (Holds : ℕ → Type 0) (ks : List ℕ) (top depth : ℕ) (end : Option ℕ) : Type 0 where
  pub beyond : position ks top < place_of ks end
  pub live : (b : ℕ) → end ≡ Some b → IsIn ks b
  pub deeper : (b : ℕ) (y : Limb) → at b ≡ Some y → position ks top < position ks b → position ks b < place_of ks end → depth < y.depth
  pub each : (j : ℕ) → position ks top < position ks j → position ks j < place_of ks end → Holds j

-- the key at the end of a run, if there is one, is no deeper than this
abbrev pub Stops : (ℕ → Option Limb) → ℕ → Option ℕ → Type 0
Stops at depth end = (b : ℕ) (y : Limb) → end ≡ Some b → at b ≡ Some y → y.depth ≤ depth

-- the run of the key's descendants goes up to this end, and this holds of each of them
pub record IsDone (at : ℕ → Option Limb) (Holds : ℕ → Type 0) (ks : List ℕ) (top depth : ℕ) (end : Option ℕ) : Type 0 where
  pub passes : Passes at Holds ks top depth end
  pub stops : Stops at depth end

-- this holds of the run of each node that has the mark
abbrev pub AreDone : (ℕ → Type 0) → ℕ → Slots → List ℕ → Type 0
AreDone Holds stamp slots ks = (k : ℕ) (n : Node) → node_at slots k ≡ Some n → IsMarked stamp n.mark → IsDone (limbs slots) Holds ks k n.depth n.end

-- the nodes are trees, and each that has the mark is done
pub record HasMarks (Holds : ℕ → Type 0) (stamp : ℕ) (slots : Slots) : Type 0 where
  pub keys : List ℕ
  pub forest : IsForest slots keys
  pub marked : AreDone Holds stamp slots keys

-- the rights of the key's node lie within these
abbrev pub HasLow : RightsSet → Slots → ℕ → Type 0
HasLow cap slots key = (n : Node) → node_at slots key ≡ Some n → IsLow cap n.rights

-- no source is under the key
abbrev pub NoSource : Slots → ℕ → Type 0
NoSource slots key = sources slots key ≢ Some true

-- the rights of all that descends from the key are no others than these, and all else is as it was
pub record CapsBelow (top : ℕ) (cap : RightsSet) (old new : Slots) : Type 0 where
  pub limbs_same : (key : ℕ) → limbs new key ≡ limbs old key
  pub links_same : (key : ℕ) → links new key ≡ links old key
  pub spots_same : (key : ℕ) → spots new key ≡ spots old key
  pub decided : (key : ℕ) → Leads (parent_at (limbs old)) key top ⊎ ¬ (Leads (parent_at (limbs old)) key top)
  pub capped : (key : ℕ) → Leads (parent_at (limbs old)) key top → values new key ≡ option_map (capped_worth cap) (values old key)
  pub kept : (key : ℕ) → ¬ (Leads (parent_at (limbs old)) key top) → values new key ≡ values old key

-- the nodes have the same trees, links and values
pub record IsSame (old new : Slots) : Type 0 where
  pub limbs_same : (key : ℕ) → limbs new key ≡ limbs old key
  pub links_same : (key : ℕ) → links new key ≡ links old key
  pub values_same : (key : ℕ) → values new key ≡ values old key
  pub dooms_same : (key : ℕ) → dooms new key ≡ dooms old key
  pub spots_same : (key : ℕ) → spots new key ≡ spots old key

-- a source descends from the key, or none does
abbrev pub Meets : ℕ → Slots → Type 0
Meets top slots = (j : ℕ) × (Leads (parent_at (limbs slots)) j top × (sources slots j ≡ Some true))

abbrev pub NoneMet : ℕ → Slots → Type 0
NoneMet top slots = (j : ℕ) → Leads (parent_at (limbs slots)) j top → NoSource slots j

-- where a node has the mark, no source is in its run, and no source descends from one that was seen
pub record HasSeen (stamp : ℕ) (slots : Slots) : Type 0 where
  pub marks : HasMarks (NoSource slots) stamp slots
  pub seen : (k : ℕ) (n : Node) → node_at slots k ≡ Some n → IsMarked stamp n.seen → NoneMet k slots
