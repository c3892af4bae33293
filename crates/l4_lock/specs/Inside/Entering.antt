-- A call as it is entered (this profile's own).
use Rattle.std.specs.Prelude.{◌≡◌, ℕ, ◌+◌, List, [], ◌∷◌, Some, None, length, map, slice_get, slice_set}
use Rattle.l4_ipc.specs.declared.calls.Call.{Call}
use Rattle.l4_ipc.specs.declared.steps.CancelCause.{CancelCause}
use Rattle.l4_ipc.specs.Machine.{Machine}
use Rattle.l4_record.specs.declared.appended.Appended.{Appended}
use Rattle.l4_record.specs.declared.entries.Entry.{Entry}
use Rattle.l4_record.specs.declared.refusals.RecordRefusal.{RecordRefusal}
use Rattle.l4_record.specs.Recording.{Recording, IsKept as IsRecorded, Enters as Recorded, Cancels as RecordedCancel, RefusesCancel as RecordRefuses}
use Rattle.l4_lock.specs.declared.entries.Pending.{Pending}
use Rattle.l4_lock.specs.Books.{SeatState, Book, plain, numbers, IsOnce, HasNotEnded, AreRight}
use Rattle.l4_lock.specs.Locked.{Lock, recording_of, refusal_of}
use Rattle.l4_lock.specs.Inside.Noting.{noted}
use Rattle.l4_lock.specs.declared.refusals.LockRefusal.{LockRefusal}

-- the book at this place has this number, and its pending call, if there is one, has not ended
abbrev pub IsReady : List Book → ℕ → ℕ → List Entry → Machine → Type 0
IsReady books place n history m =
    (b : Book) × (slice_get books place ≡ Some b) × (b.number ≡ n) × ((p : Pending) → b.pending ≡ Some p → HasNotEnded history m n p.start)

-- A call was begun: it was entered, its book has it, and the calls that ended are recorded in their books.
pub record Begins (n : ℕ) (call : Call) (old new : Recording) (books later : List Book) (place : ℕ) : Type 0 where
  pub appended : Appended
  pub recorded : Recorded old new n call appended
  pub right : AreRight old.frames old.history old.kernel books → AreRight new.frames new.history new.kernel later
  pub kept : IsRecorded new
  pub former : Book
  pub former_at : slice_get books place ≡ Some former
  pub former_number : former.number ≡ n
  pub same : map plain later ≡ map plain (slice_set books place (record former { pending = Some (record { call = call; start = length old.history; ended = None }) }))
  pub book : Book
  pub receipts : book.receipts ≡ former.receipts
  pub kept_from : book.kept_from ≡ former.kept_from
  pub at : slice_get later place ≡ Some book
  pub number : book.number ≡ n
  pub pending : Pending
  pub pending_is : book.pending ≡ Some pending
  pub pending_call : pending.call ≡ call
  pub pending_start : pending.start ≡ length old.history

-- A call was entered, and its seat has not gained its receipt yet: so far, the call is left waiting.
pub record IsAdmitted (old new : Lock) (n : ℕ) (call : Call) (place : ℕ) : Type 0 where
  pub apart : IsOnce (numbers old.books)
  pub begins : Begins n call (recording_of old) (recording_of new) old.books new.books place

-- one more call of the seat is left waiting
abbrev pub WaitsMore : SeatState → SeatState → Type 0
WaitsMore before after = after ≡ record before { waiting = before.waiting + 1 }

-- A wait was canceled, and the call that ended is recorded in its book.
pub record CancelsNoted (n : ℕ) (cause : CancelCause) (old new : Recording) (books later : List Book) : Type 0 where
  pub recorded : RecordedCancel old new n cause
  pub right : AreRight old.frames old.history old.kernel books → AreRight new.frames new.history new.kernel later
  pub kept : IsRecorded new
  pub later_is : later ≡ map (noted new.kernel (n ∷ []) (length old.history)) books

-- the lock's refusal of a Cancel, for which the recorder refused it
abbrev pub IsRefusalOf : Recording → ℕ → CancelCause → LockRefusal → Type 0
IsRefusalOf old n cause e = (r : RecordRefusal) × (e ≡ refusal_of r) × RecordRefuses old n cause r
