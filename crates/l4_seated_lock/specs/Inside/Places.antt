-- Seats by their places in a list (this profile's own).
use Rattle.std.specs.Prelude.{◌≡◌, ℕ, ◌<◌, ◌≤◌, ◌⊎◌, nat_eq, if◌then◌else◌, List, [], ◌∷◌, length, Option, Some, None, slice_get}
use Rattle.l4_ipc.specs.declared.steps.Refused.TheVariants.{UnknownThread}
use Rattle.l4_record.specs.Segments.{kept_count}
use Rattle.l4_record.specs.Sizes.{last_start}
use Rattle.l4_lock.specs.Books.{SeatState}
use Rattle.l4_lock.specs.Closing.{HasSeat}
use Rattle.l4_lock.specs.Locked.{Lock}
use Rattle.l4_lock.specs.declared.refusals.LockRefusal.{LockRefusal}
use Rattle.l4_lock.specs.declared.refusals.LockRefusal.TheVariants.{HistoryFull, Kernel as ByKernel}

-- the first seat of a number
abbrev pub found : List SeatState → ℕ → Option SeatState
found [] n = None
found (p ∷ ps) n = if nat_eq p.number n then Some p else found ps n

-- the first seat with this number is at this place
abbrev pub IsFirst : List SeatState → ℕ → ℕ → Type 0
IsFirst seats n at = (at < length seats) × ((p : SeatState) → slice_get seats at ≡ Some p → p.number ≡ n) × ¬ (HasSeat seats at n)

-- the reason why a call is refused under a number whose seat was not given
abbrev pub RefusesUnseated : Lock → LockRefusal → Type 0
RefusesUnseated l e =
    ((last_start < kept_count l.kept_from l.history) × (e ≡ HistoryFull))
    ⊎ ((kept_count l.kept_from l.history ≤ last_start) × (e ≡ ByKernel UnknownThread))
