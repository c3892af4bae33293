-- Which step removed a page (this profile's own).
use Rattle.std.specs.Prelude.{ℕ, ◌<◌, ◌≤◌, List, length, take}
use Rattle.l4_mapdb.specs.declared.Place.{Place}
use Rattle.l4_mapdb.specs.Mappings.{IsPresent}
use Rattle.l4_ipc.specs.Machine.{Machine}
use Rattle.l4_record.specs.declared.entries.Entry.{Entry}
use Rattle.l4_record.specs.History.{HasEvents}
use Rattle.l4_provenance.specs.declared.removing.Removal.{Removal}
use Rattle.l4_provenance.specs.declared.removing.Removal.TheVariants.{Present, Never, By}

-- after this number of entries of the history, the page is present
abbrev pub IsPresentAt : Machine → List Entry → Place → ℕ → Type 0
IsPresentAt boot history place count = (now : Machine) × HasEvents boot (take count history) now × IsPresent now.mappings place

-- after this number of entries, it is not
abbrev pub IsAbsentAt : Machine → List Entry → Place → ℕ → Type 0
IsAbsentAt boot history place count = (now : Machine) × HasEvents boot (take count history) now × (¬ (IsPresent now.mappings place))

-- THE STEP THAT REMOVED A PAGE: the page was present before the entry with this number, and is not present after it, up to the end
pub record WasRemoved (boot : Machine) (history : List Entry) (place : Place) (number : ℕ) : Type 0 where
  pub below : number < length history
  pub before : IsPresentAt boot history place number
  pub since : (count : ℕ) → number < count → count ≤ length history → IsAbsentAt boot history place count

-- the page was not present at any time
abbrev pub WasNeverPresent : Machine → List Entry → Place → Type 0
WasNeverPresent boot history place = (count : ℕ) → count ≤ length history → IsAbsentAt boot history place count

-- what is found of a page
abbrev pub IsRemoval : Machine → List Entry → Place → Removal → Type 0
IsRemoval boot history place Present = IsPresentAt boot history place (length history)
IsRemoval boot history place Never = WasNeverPresent boot history place
IsRemoval boot history place (By number) = WasRemoved boot history place number
