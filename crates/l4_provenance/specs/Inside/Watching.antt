-- What is known of a page after the first entries of a history.
use Rattle.std.specs.Prelude.{ℕ, ◌<◌, ◌≤◌, Bool, List, length, take, if◌then◌else◌}
use Rattle.l4_mapdb.specs.declared.Place.{Place}
use Rattle.l4_mapdb.specs.Mappings.{IsPresent}
use Rattle.l4_ipc.specs.Machine.{Machine}
use Rattle.l4_record.specs.declared.entries.Entry.{Entry}
use Rattle.l4_record.specs.History.{HasEvents}
use Rattle.l4_provenance.specs.Removals.{IsPresentAt, IsAbsentAt}
use Rattle.l4_provenance.specs.declared.removing.Removal.{Removal}
use Rattle.l4_provenance.specs.declared.removing.Removal.TheVariants.{Present, Never, By}

-- before the first entry
abbrev pub first_removal : Bool → Removal
first_removal present = if present then Present else Never

-- after the entry with this number, after which the page is absent
abbrev pub gone : ℕ → Removal → Removal
gone number Present = By number
gone number Never = Never
gone number (By earlier) = By earlier

abbrev pub next_removal : ℕ → Bool → Removal → Removal
next_removal number present last = if present then Present else gone number last

-- what is known of the page in this machine, after this number of entries
abbrev pub Knows : Machine → List Entry → ℕ → Machine → Place → Removal → Type 0
Knows boot history count now place Present = IsPresent now.mappings place
Knows boot history count now place Never = (n : ℕ) → n ≤ count → IsAbsentAt boot history place n
Knows boot history count now place (By number) =
    (number < count) × IsPresentAt boot history place number × ((n : ℕ) → number < n → n ≤ count → IsAbsentAt boot history place n)

pub record Watched (boot : Machine) (history : List Entry) (count : ℕ) (now : Machine) (place : Place) (removal : Removal) : Type 0 where
  pub within : count ≤ length history
  pub events : HasEvents boot (take count history) now
  pub knows : Knows boot history count now place removal
