-- Locked kernels with their seats, as C uses them (this profile's own).
use Rattle.std.specs.Prelude.{◌≡◌, ◌≢◌, ◌⊎◌, ℕ, ◌<◌, ◌≤◌, false, List, [], ◌∷◌, ◌++◌, length, codes, Option, None, Some}
use Rattle.l4_fpage.specs.Pages.{max_frames}
use Rattle.l4_fpage.specs.declared.sizes.PageSize.{PageSize}
use Rattle.l4_threads.specs.declared.Reply.{Reply}
use Rattle.l4_ipc.specs.Machine.{IsBoot}
use Rattle.l4_ipc.specs.declared.calls.Call.{Call}
use Rattle.l4_ipc.specs.declared.steps.CancelCause.{CancelCause}
use Rattle.l4_lock.specs.Books.{book, book_at, reply_waits}
use Rattle.l4_lock.specs.Closing.{Closes, Mismatches, by_history}
use Rattle.l4_lock.specs.Locked.{Lock, Refuses, Cancels, RefusesCancel}
use Rattle.l4_lock.specs.declared.closing.Mismatch.{Mismatch}
use Rattle.l4_lock.specs.declared.refusals.Entered.{Entered}
use Rattle.l4_lock.specs.declared.refusals.LockRefusal.{LockRefusal}
use Rattle.l4_seated_lock.specs.Seated.{seat_at, seats_back, EntersBySeat, TakesBySeat}
use Rattle.l4_refusals.specs.Texts.{spelled}
use Rattle.l4_c_values.specs.Called.{IsCall, IsNoCall}
use Rattle.l4_c_values.specs.Recorded.{lock_code, mismatch_code, mismatch_seat, unseated_result, entered_result, no_entry_result, kept_entry_result, no_receipt_result, kept_receipt_result, no_seat_result, seat_result, refused_call}
use Rattle.l4_c_values.specs.Replied.{plain_result, reply_result}
use Rattle.l4_c_values.specs.declared.calls.CallGiven.{CallGiven}
use Rattle.l4_c_values.specs.declared.recorded.EntryResult.{EntryResult}
use Rattle.l4_c_values.specs.declared.recorded.ReceiptResult.{ReceiptResult}
use Rattle.l4_c_values.specs.declared.recorded.SeatResult.{SeatResult}
use Rattle.l4_c_values.specs.declared.recorded.SeatedResult.{SeatedResult}
use Rattle.l4_c_values.specs.declared.results.ReplyResult.{ReplyResult}
use Rattle.l4_c_queries.specs.Recalled.{ListsEnded}
use Rattle.l4_c_queries.specs.declared.descending.CountResult.{CountResult}
use Rattle.l4_c_queries.specs.declared.tracing.Verdict.{Verdict}

-- An empty handle then holds a locked kernel in its boot state with pages of this size and without seats, unless the number of frames is
-- not 1 to 4,096 (K6) or an allocation failed. A handle that is not empty is refused (B2) and unchanged.
abbrev pub MakesLock : Option Lock → PageSize → ℕ → ℕ → Option Lock → Type 0
MakesLock (Some old) size frames number new = (number ≡ spelled (codes "B2")) × (new ≡ Some old)
MakesLock None size frames number new =
    ((l : Lock) × (l.frames ≡ frames) × (l.kernel.size ≡ size) × IsBoot frames l.kernel × (l.history ≡ []) × (l.books ≡ [])
    × (number ≡ 0) × (new ≡ Some l))
    ⊎ (((frames ≡ 0) ⊎ (max_frames < frames)) × (number ≡ spelled (codes "K6")) × (new ≡ None))
    ⊎ ((1 ≤ frames) × (frames ≤ max_frames) × (number ≡ spelled (codes "NoMemory")) × (new ≡ None))

-- the seat of this number is given out, which happens at most once (L4), unless an allocation failed
abbrev pub Gives : Lock → ℕ → ℕ → Lock → Type 0
Gives old n number new =
    ((book_at old.books n ≡ None) × (number ≡ 0) × (new ≡ record old { books = old.books ++ book n None [] ∷ [] }))
    ⊎ ((book_at old.books n ≢ None) × (number ≡ spelled (codes "L4")) × (new ≡ old))
    ⊎ ((book_at old.books n ≡ None) × (number ≡ spelled (codes "NoMemory")) × (new ≡ old))

abbrev pub GivesSeat : Option Lock → ℕ → ℕ → Option Lock → Type 0
GivesSeat None n number new = (number ≡ spelled (codes "B1")) × (new ≡ None)
GivesSeat (Some old) n number new = (after : Lock) × Gives old n number after × (new ≡ Some after)

-- The call that C passed is entered under this seat. Or it is refused, and nothing changes: its kind is unknown (B3), or the lock refuses
-- it.
abbrev pub EntersCall : Lock → ℕ → CallGiven → List ℕ → SeatedResult → Lock → Type 0
EntersCall old n g words r new =
    (IsNoCall g × (r ≡ unseated_result (spelled (codes "B3")) 0) × (new ≡ old))
    ⊎ ((call : Call) × IsCall g words call
    × (((e : LockRefusal) × Refuses old n call e × (r ≡ refused_call (book_at old.books n) n e) × (new ≡ old))
    ⊎ ((told : Entered) × EntersBySeat old new n call told × (r ≡ entered_result told))))

abbrev pub EntersSeat : Option Lock → ℕ → CallGiven → List ℕ → SeatedResult → Option Lock → Type 0
EntersSeat None n g words r new = (r ≡ unseated_result (spelled (codes "B1")) 0) × (new ≡ None)
EntersSeat (Some old) n g words r new = (after : Lock) × EntersCall old n g words r after × (new ≡ Some after)

-- the wait of the thread is canceled, unless the lock refuses it
abbrev pub CancelsWait : Lock → ℕ → CancelCause → ℕ → Lock → Type 0
CancelsWait old n cause number new =
    (Cancels old new n cause × (number ≡ 0)) ⊎ ((e : LockRefusal) × RefusesCancel old n cause e × (number ≡ lock_code e) × (new ≡ old))

-- the wait of the thread is canceled, or the refusal has this number; an empty handle is refused (B1)
abbrev pub CancelsThread : Option Lock → ℕ → CancelCause → ℕ → Option Lock → Type 0
CancelsThread None n cause number new = (number ≡ spelled (codes "B1")) × (new ≡ None)
CancelsThread (Some old) n cause number new = (after : Lock) × CancelsWait old n cause number after × (new ≡ Some after)

-- the reply of a call that was left waiting is taken, if the seat has one
abbrev pub TakesReply : Lock → ℕ → ReplyResult → Lock → Type 0
TakesReply old n r new =
    ((reply : Reply) × TakesBySeat old new n reply × (r ≡ reply_result (Some reply)))
    ⊎ ((reply_waits old.books n ≡ false) × (r ≡ reply_result None) × (new ≡ old))

abbrev pub TakesSeat : Option Lock → ℕ → ReplyResult → Option Lock → Type 0
TakesSeat None n r new = (r ≡ plain_result (spelled (codes "B1")) 0 0) × (new ≡ None)
TakesSeat (Some old) n r new = (after : Lock) × TakesReply old n r after × (new ≡ Some after)

-- the number of entries since boot; an empty handle is refused (B1)
abbrev pub TellsLength : Option Lock → CountResult → Type 0
TellsLength None r = r ≡ record { refusal = spelled (codes "B1"); count = 0 }
TellsLength (Some l) r = r ≡ record { refusal = 0; count = length l.history }

-- the number of the first entry that is kept; an empty handle is refused (B1)
abbrev pub TellsKeptFrom : Option Lock → CountResult → Type 0
TellsKeptFrom None r = r ≡ record { refusal = spelled (codes "B1"); count = 0 }
TellsKeptFrom (Some l) r = r ≡ record { refusal = 0; count = l.kept_from }

-- the entry with this number since boot, or none beyond the end of the history; an empty handle is refused (B1), and an entry that was handed
-- out (L8)
abbrev pub TellsEntry : Option Lock → ℕ → EntryResult → Type 0
TellsEntry None number r = r ≡ no_entry_result (spelled (codes "B1"))
TellsEntry (Some l) number r = r ≡ kept_entry_result l.kept_from l.history number

-- the threads whose calls ended in the entries from this number on; an empty handle is refused (B1), and an entry that was handed out (L8)
abbrev pub TellsEnded : Option Lock → ℕ → List ℕ → CountResult → List ℕ → Type 0
TellsEnded None number old r new = (r ≡ record { refusal = spelled (codes "B1"); count = 0 }) × (new ≡ old)
TellsEnded (Some l) number old r new = ListsEnded l.kept_from l.history number old r new

-- the number of frames with which the locked kernel was booted; an empty handle is refused (B1)
abbrev pub TellsFrames : Option Lock → CountResult → Type 0
TellsFrames None r = r ≡ record { refusal = spelled (codes "B1"); count = 0 }
TellsFrames (Some l) r = r ≡ record { refusal = 0; count = l.frames }

-- how many calls the seat of this number has started, and how many receipts it has; an empty handle is refused (B1)
abbrev pub TellsSeat : Option Lock → ℕ → SeatResult → Type 0
TellsSeat None n r = r ≡ no_seat_result (spelled (codes "B1"))
TellsSeat (Some l) n r = r ≡ seat_result (seat_at l.books n)

-- the receipt with this number of a seat, or none beyond the end or if the seat was not given; an empty handle is refused (B1), and a receipt
-- that was handed out (L8)
abbrev pub TellsReceipt : Option Lock → ℕ → ℕ → ReceiptResult → Type 0
TellsReceipt None n number r = r ≡ no_receipt_result (spelled (codes "B1"))
TellsReceipt (Some l) n number r = r ≡ kept_receipt_result (seat_at l.books n) number

-- The seats of these numbers are taken back. If they are exactly those that were given, the handle is empty from then on. Otherwise the
-- result is the first mismatch, and nothing changes.
abbrev pub ClosesLock : Option Lock → List ℕ → Verdict → Option Lock → Type 0
ClosesLock None numbers r new = (r ≡ record { refusal = spelled (codes "B1"); detail = 0 }) × (new ≡ None)
ClosesLock (Some old) numbers r new =
    (Closes old (seats_back old.books numbers) × (r ≡ record { refusal = 0; detail = 0 }) × (new ≡ None))
    ⊎ ((m : Mismatch) × Mismatches (by_history old.history) old.books (seats_back old.books numbers) m
    × (r ≡ record { refusal = mismatch_code m; detail = mismatch_seat m }) × (new ≡ Some old))
