-- The present places of a space, in rising order of their pages (this profile's own).
use Rattle.std.specs.Prelude.{ℕ, ◌≤◌}
use Rattle.l4_mapdb.specs.Mappings.{Mappings, IsPresent}

-- no page of the space from this one on is present
abbrev pub NonePresentFrom : Mappings → ℕ → ℕ → Type 0
NonePresentFrom s space page = (other : ℕ) → page ≤ other → ¬ (IsPresent s (record { space = space; page = other }))

-- the least present page of the space that is not below this one
pub record IsNextPresent (s : Mappings) (space page next : ℕ) : Type 0 where
  pub present : IsPresent s (record { space = space; page = next })
  pub from : page ≤ next
  pub least : (other : ℕ) → page ≤ other → IsPresent s (record { space = space; page = other }) → next ≤ other
