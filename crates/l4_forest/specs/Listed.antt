-- The spaces that exist, in rising order of their numbers (this profile's own).
use Rattle.std.specs.Prelude.{ℕ}
use Rattle.l4_spaces.specs.Listed as tables
use Rattle.l4_mapdb.specs.Mappings.{Mappings}

-- no space with this number or a higher one exists
abbrev pub NoSpaceFrom : Mappings → ℕ → Type 0
NoSpaceFrom s from = tables.NoSpaceFrom s.spaces from

-- the least number of a space that exists and is not below this number
abbrev pub IsNextSpace : Mappings → ℕ → ℕ → Type 0
IsNextSpace s from next = tables.IsNextSpace s.spaces from next
