-- The threads that have tables, in rising order of their numbers (this profile's own).
use Rattle.std.specs.Prelude.{◌≡◌, ℕ, ◌<◌, ◌≤◌, Some, None}
use Rattle.std.specs.FinMap as fin
use Rattle.l4_pager.specs.Regions.{Regions}
use Rattle.l4_servers.specs.Servers.{Servers}

-- no thread with this number or a higher one has a table
abbrev pub NoTableFrom : Servers → ℕ → Type 0
NoTableFrom s from = (other : ℕ) → from ≤ other → fin.get s.tables other ≡ None

-- the least number of a thread that has a table and is not below `start`, and its table
pub record IsNextTable (s : Servers) (start next : ℕ) (table : Regions) : Type 0 where
  pub there : fin.get s.tables next ≡ Some table
  pub from : start ≤ next
  pub least : (other : ℕ) → start ≤ other → other < next → fin.get s.tables other ≡ None
