-- How a place got its mapping, over the first entries of a history.
use Rattle.std.specs.Prelude.{◌≡◌, ℕ, ◌<◌, List, [], ◌∷◌, ◌++◌, take, Option, Some, None}
use Rattle.l4_mapdb.specs.declared.Place.{Place}
use Rattle.l4_mapdb.specs.Mappings.{IsPresent}
use Rattle.l4_ipc.specs.declared.steps.Outcome.TheVariants.{Done}
use Rattle.l4_ipc.specs.Machine.{Machine}
use Rattle.l4_record.specs.declared.entries.Entry.{Entry}
use Rattle.l4_record.specs.History.{HasEvents}
use Rattle.l4_record.specs.declared.links.ChainLink.{ChainLink}
use Rattle.l4_record.specs.Inside.Carrying.{IsCarried, IsWritten}
use Rattle.l4_record.specs.Inside.Walking.{PassesAll}
use Rattle.l4_provenance.specs.declared.replaying.Arrival.{Arrival}
use Rattle.l4_provenance.specs.declared.replaying.Arrival.TheVariants.{Absent, AtBoot, By}

-- the link of the entry with this number to the place, if the entry is a delivered transfer that moves a page there
abbrev pub Brought : ℕ → Machine → Entry → Place → Option ChainLink → Type 0
Brought number m entry place None = entry.answer.outcome ≡ Done → ¬ (IsWritten m entry.step place)
Brought number m entry place (Some link) = (entry.answer.outcome ≡ Done) × IsCarried m entry.step link × (link.target ≡ place) × (link.entry ≡ number)

-- the newer of two links
abbrev pub newer : Option ChainLink → Option ChainLink → Option ChainLink
newer None last = last
newer (Some link) last = Some link

-- After this number of entries, the place has the mapping that the link moved there: a chain to the link's source just before the link
-- continues with the link, and leads to the place.
pub record CameBy (boot : Machine) (history : List Entry) (count : ℕ) (now : Machine) (place : Place) (link : ChainLink) : Type 0 where
  pub below : link.entry < count
  pub before : Machine
  pub events : HasEvents boot (take link.entry history) before
  pub present : IsPresent before.mappings link.source
  pub on : (origin : Place) (links : List ChainLink) → PassesAll 0 boot (take link.entry history) before origin links link.source
      → PassesAll 0 boot (take count history) now origin (links ++ link ∷ []) place

-- the place has the mapping that a link moved there, or the one that it had at boot
abbrev pub Came : Machine → List Entry → ℕ → Machine → Place → Option ChainLink → Type 0
Came boot history count now place None = PassesAll 0 boot (take count history) now place [] place
Came boot history count now place (Some link) = CameBy boot history count now place link

-- what an arrival states
abbrev pub How : Machine → List Entry → ℕ → Machine → Place → Arrival → Type 0
How boot history count now place Absent = ¬ (IsPresent now.mappings place)
How boot history count now place AtBoot = IsPresent now.mappings place × Came boot history count now place None
How boot history count now place (By link) = IsPresent now.mappings place × Came boot history count now place (Some link)

-- the first entries lead to this machine, and the arrival describes the place there
pub record Arrived (boot : Machine) (history : List Entry) (count : ℕ) (place : Place) (now : Machine) (arrival : Arrival) : Type 0 where
  pub events : HasEvents boot (take count history) now
  pub how : How boot history count now place arrival
