-- The present pages of a space that are written, and their number (this profile's own).
use Rattle.std.specs.Prelude.{◌≡◌, ◌≤◌, ◌<◌, ◌↔◌, ℕ, List, length, Contains}
use Rattle.std.specs.List.{AllPairs}
use Rattle.l4_mapdb.specs.Mappings.{IsPresent}
use Rattle.l4_ipc.specs.Machine.{Machine}
use Rattle.l4_c_queries.specs.Placed.{placed}
use Rattle.l4_c_queries.specs.Mapped.{mapped_results}
use Rattle.l4_c_queries.specs.declared.mapped.MappedResult.{MappedResult}

-- the pages from the first one on are written up to the length of the array, and counted
pub record WritesMappings (m : Machine) (space first : ℕ) (old : List MappedResult) (count : ℕ) (new : List MappedResult) : Type 0 where
  pub pages : List ℕ
  pub rising : AllPairs (λ a b. a < b) pages
  pub each : (page : ℕ) → Contains pages page ↔ ((first ≤ page) × IsPresent m.mappings (record { space = space; page = page }))
  pub number : count ≡ length pages
  pub written : new ≡ placed (mapped_results m.mappings space pages) old
