-- The numbers of seats that come back (this profile's own).
use Rattle.std.specs.Prelude.{◌≡◌, ℕ, ◌<◌, ◌⊎◌, List, length, Some, None, slice_get}
use Rattle.l4_lock.specs.Books.{SeatState}
use Rattle.l4_lock.specs.Closing.{HasSeat, Least}
use Rattle.l4_lock.specs.declared.closing.Mismatch.{Mismatch}
use Rattle.l4_lock.specs.declared.closing.Mismatch.TheVariants.{Missing, Foreign, Receipt}

-- one of the first `before` numbers is this one
pub record HasNumber (numbers : List ℕ) (before n : ℕ) : Type 0 where
  pub at : ℕ
  pub early : at < before
  pub there : slice_get numbers at ≡ Some n

-- the number is in the list twice
pub record IsDouble (numbers : List ℕ) (n : ℕ) : Type 0 where
  pub at : ℕ
  pub there : slice_get numbers at ≡ Some n
  pub first : HasNumber numbers at n

-- a seat has this number, but the list does not
abbrev pub IsUnnamed : List SeatState → List ℕ → ℕ → Type 0
IsUnnamed seats numbers n = HasSeat seats (length seats) n × ¬ (HasNumber numbers (length numbers) n)

-- the list has this number although no seat has it, or has it twice
abbrev pub IsStrange : List SeatState → List ℕ → ℕ → Type 0
IsStrange seats numbers n = (HasNumber numbers (length numbers) n × ¬ (HasSeat seats (length seats) n)) ⊎ IsDouble numbers n

-- the list has exactly the numbers of the seats, each once
abbrev pub AreNamed : List SeatState → List ℕ → Type 0
AreNamed seats numbers = Least (IsUnnamed seats numbers) None × Least (IsStrange seats numbers) None

-- the difference: the least number of a seat that the list lacks, or else the least number that the list should not have
abbrev pub Misnames : List SeatState → List ℕ → Mismatch → Type 0
Misnames seats numbers (Missing n) = Least (IsUnnamed seats numbers) (Some n)
Misnames seats numbers (Foreign n) = Least (IsUnnamed seats numbers) None × Least (IsStrange seats numbers) (Some n)
Misnames seats numbers (Receipt n) = ⊥
