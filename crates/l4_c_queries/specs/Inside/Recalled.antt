-- The threads whose calls ended in entries, as they are written (this profile's own).
use Rattle.std.specs.Prelude.{◌≡◌, ℕ, List, length}
use Rattle.l4_record.specs.declared.entries.Entry.{Entry}
use Rattle.l4_c_queries.specs.Placed.{placed}
use Rattle.l4_c_queries.specs.Recalled.{ended_in}

-- they are written up to the length of the array, and counted
abbrev pub WritesEnded : List Entry → List ℕ → ℕ → List ℕ → Type 0
WritesEnded entries old count new = (count ≡ length (ended_in entries)) × (new ≡ placed (ended_in entries) old)
