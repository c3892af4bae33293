-- Chains along the entries of a history.
use Rattle.std.specs.Prelude.{◌≡◌, ◌≢◌, ℕ, suc, ◌⊎◌, List, [], ◌∷◌, Ok}
use Rattle.l4_mapdb.specs.declared.Place.{Place}
use Rattle.l4_mapdb.specs.Mappings.{IsPresent}
use Rattle.l4_ipc.specs.Machine.{Machine}
use Rattle.l4_ipc.specs.Events.{Event}
use Rattle.l4_ipc.specs.Provenance.{Link, Brings, LeavesAlone}
use Rattle.l4_ipc.specs.Steps.{Steps}
use Rattle.l4_record.specs.declared.entries.Entry.{Entry}
use Rattle.l4_record.specs.declared.links.ChainLink.{ChainLink}
use Rattle.l4_record.specs.Chains.{told, origin_of}

-- the event of the entry between these machines
abbrev pub entry_event : Machine → Entry → Machine → Event
entry_event before entry after = record { before = before; step = entry.step; answer = Ok entry.answer; after = after }

-- the entry's step, with the entry's answer, leads from one machine to the other
abbrev pub Does : Machine → Entry → Machine → Type 0
Does before entry after = Steps before entry.step (Ok entry.answer) after

-- the first link is not the one of the entry with this number
abbrev pub IsNotDue : ℕ → List ChainLink → Type 0
IsNotDue number [] = Unit {0}
IsNotDue number (link ∷ links) = link.entry ≢ number

-- this link is one of the used moves of the entry
pub record BringsTold (before : Machine) (entry : Entry) (after : Machine) (link : ChainLink) : Type 0 where
  pub brought : Link
  pub brings : Brings (entry_event before entry after) brought
  pub is_told : link ≡ told link.entry brought

-- the chain passes the entry with this number: before it the chain is at the first place with these links left, and after it at the next place with the rest
abbrev pub Passes : ℕ → Machine → Entry → Machine → Place → List ChainLink → Place → List ChainLink → Type 0
Passes number before entry after place links next rest =
    (IsNotDue number links × LeavesAlone (entry_event before entry after) place × (next ≡ place) × (rest ≡ links))
    ⊎ ((link : ChainLink) × (links ≡ link ∷ rest) × (link.entry ≡ number) × BringsTold before entry after link × (link.source ≡ place) × (next ≡ link.target))

-- the chain passes all these entries
abbrev pub PassesAll : ℕ → Machine → List Entry → Machine → Place → List ChainLink → Place → Type 0
PassesAll number old [] new first links last = (new ≡ old) × (links ≡ []) × (first ≡ last)
PassesAll number old (entry ∷ entries) new first links last =
    (after : Machine) × Does old entry after × (next : Place) × (rest : List ChainLink) × Passes number old entry after first links next rest
    × PassesAll (suc number) after entries new next rest last

-- the links lead over the whole history to the place, which is then present
pub record IsWalked (boot : Machine) (history : List Entry) (place : Place) (links : List ChainLink) : Type 0 where
  pub now : Machine
  pub passes : PassesAll 0 boot history now (origin_of links place) links place
  pub present : IsPresent now.mappings place
