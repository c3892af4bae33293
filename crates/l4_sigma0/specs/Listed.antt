-- The frames that have owners, in rising order (this profile's own).
use Rattle.std.specs.Prelude.{◌≡◌, ℕ, ◌<◌, ◌≤◌, List, Option, Some, None}
use Rattle.l4_sigma0.specs.Owners.{Owners, owner_of}

-- no frame with this number or a higher one has an owner
abbrev pub NoneOwnedFrom : Owners → ℕ → Type 0
NoneOwnedFrom t from = (other : ℕ) → from ≤ other → owner_of t other ≡ None

-- the least frame that has an owner and is not below `start`, and its owner
pub record IsNextOwned (t : Owners) (start next owner : ℕ) : Type 0 where
  pub owned : owner_of t next ≡ Some owner
  pub from : start ≤ next
  pub least : (other : ℕ) → start ≤ other → other < next → owner_of t other ≡ None
