-- The stack of the nodes without rights, which a cap leaves standing until they are buried.
use Rattle.std.specs.Prelude.{◌≡◌, ◌≢◌, ◌⊎◌, ⊤, ℕ, List, [], ◌∷◌, Option, Some, None}
use Rattle.l4_fpage.specs.Rights.{no_rights}
use Rattle.l4_links.specs.Inside.Orders.{IsIn, IsOnce, first_of}
use Rattle.l4_nodes.specs.Slots.{Slots, slot_at, spots}
use Rattle.l4_links.specs.Inside.Nodes.{Doom, limbs, values, marks, dooms, IsForest}

-- each of these keys has no rights, and leads to the one after it
abbrev pub IsStacked : (ℕ → Option Doom) → List ℕ → Type 0
IsStacked at [] = ⊤
IsStacked at (k ∷ ks) = (at k ≡ Some (record { rights = no_rights; next = first_of ks None })) × IsStacked at ks

-- the stack holds these keys, each once: just those without rights
pub record IsStack (at : ℕ → Option Doom) (ks : List ℕ) : Type 0 where
  pub once : IsOnce ks
  pub stacked : IsStacked at ks
  pub all : (key : ℕ) (d : Doom) → at key ≡ Some d → d.rights ≡ no_rights → IsIn ks key

-- the stack of the nodes without rights begins with this key
pub record HasStack (slots : Slots) (head : Option ℕ) : Type 0 where
  pub keys : List ℕ
  pub stack : IsStack (dooms slots) keys
  pub head_is : first_of keys None ≡ head

-- the node had no rights, and its slot has gone
pub record IsBuried (old new : Slots) (key : ℕ) : Type 0 where
  pub doom : Doom
  pub was : dooms old key ≡ Some doom
  pub none : doom.rights ≡ no_rights
  pub gone : slot_at new key ≡ None

-- the key is of what it was
pub record IsLeft (old new : Slots) (key : ℕ) : Type 0 where
  pub limb : limbs new key ≡ limbs old key
  pub value : values new key ≡ values old key
  pub mark : marks new key ≡ marks old key
  pub doom : dooms new key ≡ dooms old key
  pub spot : spots new key ≡ spots old key

-- the nodes without rights have gone, all else is as it was, and the list begins with this key
pub record Buries (first after : Option ℕ) (old new : Slots) : Type 0 where
  pub each : (key : ℕ) → IsBuried old new key ⊎ IsLeft old new key
  pub empty : (key : ℕ) (d : Doom) → dooms new key ≡ Some d → d.rights ≢ no_rights
  pub before : List ℕ
  pub left : List ℕ
  pub was : IsForest old before
  pub forest : IsForest new left
  pub first_is : first_of before None ≡ first → first_of left None ≡ after
