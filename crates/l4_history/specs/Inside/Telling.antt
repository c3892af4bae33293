-- A history that is written up to an entry.
use Rattle.std.specs.Prelude.{◌≡◌, ℕ, List, ◌++◌}
use Rattle.l4_ipc.specs.Machine.{Machine}
use Rattle.l4_record.specs.declared.entries.Entry.{Entry}
use Rattle.l4_history.specs.Histories.{TellsEntries}

-- this is the text of the entries before those that are left
abbrev pub TellsUpTo : Machine → List Entry → List Entry → List ℕ → Type 0
TellsUpTo m history left text = (told : List Entry) × (history ≡ told ++ left) × TellsEntries m told text
