-- The spaces that exist, in rising order of their numbers (this profile's own).
use Rattle.std.specs.Prelude.{ℕ, ◌≤◌, IsTrue}
use Rattle.std.specs.Ordering.{nat_cmp}
use Rattle.std.specs.FinSet as set

-- no space with this number or a higher one exists
abbrev pub NoSpaceFrom : set.FinSet nat_cmp → ℕ → Type 0
NoSpaceFrom spaces from = (other : ℕ) → from ≤ other → ¬ (IsTrue (set.contains spaces other))

-- the least number of a space that exists and is not below this number
pub record IsNextSpace (spaces : set.FinSet nat_cmp) (start next : ℕ) : Type 0 where
  pub there : IsTrue (set.contains spaces next)
  pub from : start ≤ next
  pub least : (other : ℕ) → start ≤ other → IsTrue (set.contains spaces other) → next ≤ other
