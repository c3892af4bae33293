-- A locked kernel that holds all its seats itself: the state of each seat, and the calls that are entered and taken by seat number (this
-- profile's own).
use Rattle.std.specs.Prelude.{◌≡◌, ◌≢◌, ℕ, List, [], map, Option, Some}
use Rattle.std.specs.Option.{option_map, option_map_or}
use Rattle.l4_threads.specs.declared.Reply.{Reply}
use Rattle.l4_ipc.specs.declared.calls.Call.{Call}
use Rattle.l4_record.specs.Replays.{IsNotRepeated}
use Rattle.l4_lock.specs.declared.refusals.Entered.{Entered}
use Rattle.l4_lock.specs.Books.{SeatState, seat_state, Book, pending_count, book_at}
use Rattle.l4_lock.specs.Locked.{Lock, Enters, Tells, Takes}
use Rattle.l4_seated_lock.specs.declared.faults.TraceFault.{TraceFault}
use Rattle.l4_seated_lock.specs.declared.faults.TraceFault.TheVariants.{HandedOut, Replay}

-- the state of a book's seat, which never left the lock: a call that has not been taken was left waiting, and the receipts are those of the
-- book
abbrev pub seat_of : Book → SeatState
seat_of b = record (seat_state b.number (pending_count b.pending) b.receipts) { kept_from = b.kept_from }

-- the seat of a number, if it was given
abbrev pub seat_at : List Book → ℕ → Option SeatState
seat_at books n = option_map seat_of (book_at books n)

-- the call was entered under the seat of this number, with this result
pub record EntersBySeat (old new : Lock) (n : ℕ) (call : Call) (told : Entered) : Type 0 where
  pub before : SeatState
  pub after : SeatState
  pub was : seat_at old.books n ≡ Some before
  pub becomes : seat_at new.books n ≡ Some after
  pub enters : Enters old new n call
  pub tells : Tells old new before after call told

-- a call of the seat of this number that was left waiting has ended with this reply, and is taken
pub record TakesBySeat (old new : Lock) (n : ℕ) (reply : Reply) : Type 0 where
  pub before : SeatState
  pub after : SeatState
  pub was : seat_at old.books n ≡ Some before
  pub becomes : seat_at new.books n ≡ Some after
  pub number : before.number ≡ n
  pub takes : Takes old new before after reply

-- the reason why the provenance of a page is not found: entries were handed out (L8), or else the history cannot be replayed
abbrev pub IsNotTraced : Lock → TraceFault → Type 0
IsNotTraced l HandedOut = l.kept_from ≢ 0
IsNotTraced l (Replay fault) = (l.kept_from ≡ 0) × IsNotRepeated l.frames l.kernel.size l.history fault

-- the state of a seat that comes back by its number: as its book says, or a seat that has entered nothing if it was not given
abbrev pub seat_back : List Book → ℕ → SeatState
seat_back books n = option_map_or seat_of (book_at books n) (seat_state n 0 [])

abbrev pub seats_back : List Book → List ℕ → List SeatState
seats_back books numbers = map (seat_back books) numbers
