-- A chain over a history.
use Rattle.std.specs.Prelude.{ℕ, List}
use Rattle.l4_mapdb.specs.declared.Place.{Place}
use Rattle.l4_ipc.specs.Machine.{Machine}
use Rattle.l4_record.specs.declared.entries.Entry.{Entry}
use Rattle.l4_record.specs.History.{HasEvents}
use Rattle.l4_record.specs.declared.links.ChainLink.{ChainLink}
use Rattle.l4_record.specs.Inside.Walking.{Does, Passes, IsWalked}

-- the chain does not pass the entry
abbrev pub NonePasses : ℕ → Machine → Entry → Place → List ChainLink → Type 0
NonePasses number before entry place links = (after : Machine) (next : Place) (rest : List ChainLink) → Does before entry after → ¬ (Passes number before entry after place links next rest)

-- the links lead over the whole history to the place, which is then present, and the mappings were a forest at all times
pub record Walked (boot : Machine) (history : List Entry) (place : Place) (links : List ChainLink) : Type 0 where
  pub walked : IsWalked boot history place links
  pub events : HasEvents boot history walked.now
