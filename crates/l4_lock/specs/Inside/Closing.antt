-- What the loops of `close` have found so far (this profile's own).
use Rattle.std.specs.Prelude.{◌≡◌, ℕ, ◌<◌, Bool, if◌then◌else◌, nat_le, List, Option, Some, None, slice_get}
use Rattle.std.specs.Option.{option_map_or}
use Rattle.l4_lock.specs.Books.{SeatState, Book}
use Rattle.l4_lock.specs.Closing.{HasSeat, IsGiven, IsBack, AllAgree, IsMissing, IsForeign, IsWrong}

-- the least bad number so far, after one more number
abbrev pub keep : Option ℕ → ℕ → Bool → Option ℕ
keep found n bad = if bad then Some (option_map_or (λ m. if nat_le m n then m else n) found n) else found

-- The state of a loop after the first i books, or seats: None if all of them are fine, and otherwise the least number of those that are
-- not.
abbrev pub SoFarMissing : List Book → List SeatState → ℕ → Option ℕ → Type 0
SoFarMissing books seats i None = (k : ℕ) (b : Book) → k < i → slice_get books k ≡ Some b → IsBack seats b.number
SoFarMissing books seats i (Some n) =
    IsMissing books seats n × ((k : ℕ) (b : Book) → k < i → slice_get books k ≡ Some b → b.number < n → IsBack seats b.number)

abbrev pub IsFine : List Book → List SeatState → ℕ → SeatState → Type 0
IsFine books seats k p = IsGiven books p.number × ¬ (HasSeat seats k p.number)

abbrev pub SoFarForeign : List Book → List SeatState → ℕ → Option ℕ → Type 0
SoFarForeign books seats i None = (k : ℕ) (p : SeatState) → k < i → slice_get seats k ≡ Some p → IsFine books seats k p
SoFarForeign books seats i (Some n) =
    IsForeign books seats n × ((k : ℕ) (p : SeatState) → k < i → slice_get seats k ≡ Some p → p.number < n → IsFine books seats k p)

abbrev pub SoFarWrong : (Book → ℕ) → List Book → List SeatState → ℕ → Option ℕ → Type 0
SoFarWrong counts books seats i None = (k : ℕ) (p : SeatState) → k < i → slice_get seats k ≡ Some p → AllAgree counts books p
SoFarWrong counts books seats i (Some n) =
    IsWrong counts books seats n × ((k : ℕ) (p : SeatState) → k < i → slice_get seats k ≡ Some p → p.number < n → AllAgree counts books p)
