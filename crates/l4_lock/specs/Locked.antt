-- The locked kernel as one value, and the effects of its calls (this profile's own).
use Rattle.std.specs.Prelude.{◌≡◌, ◌≢◌, ℕ, ◌+◌, ◌<◌, ◌≤◌, ◌⊎◌, List, [], ◌∷◌, ◌++◌, length, map, Some, None, IsTrue, slice_get, Err, Contains, refl}
use Rattle.std.specs.Option.{option_map}
use Rattle.std.specs.Coded.{Coded, code_by, coded×, coded_ℕ, coded_list}
use Rattle.atomic_table.specs.Seated.{TableId, table_id_coded}
use Rattle.l4_fpage.specs.Pages.{max_frames}
use Rattle.l4_threads.specs.declared.Reply.{Reply}
use Rattle.l4_threads.specs.declared.Thread.{Thread}
use Rattle.l4_ipc.specs.declared.calls.Call.{Call}
use Rattle.l4_ipc.specs.declared.steps.Refused.TheVariants.{UnknownThread, BadFrames, Lower}
use Rattle.l4_ipc.specs.declared.steps.Lower.TheVariants.{NoMemory as LowerNoMemory}
use Rattle.l4_ipc.specs.declared.steps.Step.TheVariants.{Start, Cancel}
use Rattle.l4_ipc.specs.Machine.{Machine, machine_code}
use Rattle.l4_ipc.specs.Steps.{Steps, IsIdle}
use Rattle.l4_record.specs.declared.entries.Entry.{Entry}
use Rattle.l4_lock.specs.declared.entries.Receipt.{Receipt}
use Rattle.l4_lock.specs.declared.refusals.Entered.{Entered}
use Rattle.l4_lock.specs.declared.refusals.Entered.TheVariants.{Done, Waiting}
use Rattle.l4_lock.specs.declared.refusals.LockRefusal.{LockRefusal}
use Rattle.l4_lock.specs.declared.refusals.LockRefusal.TheVariants.{ReplyWaiting, HistoryFull, NoMemory, SeatTaken, Kernel as ByKernel}
use Rattle.l4_record.specs.declared.appended.Appended.{Appended}
use Rattle.l4_record.specs.declared.refusals.RecordRefusal.{RecordRefusal}
use Rattle.l4_record.specs.declared.refusals.RecordRefusal.TheVariants.{HistoryFull as IsFull, NoMemory as LacksMemory, Kernel as FromKernel}
use Rattle.l4_record.specs.declared.segments.Segment.{Segment}
use Rattle.l4_record.specs.Sizes.{max_entries, last_start, max_handed_out}
use Rattle.l4_record.specs.Segments.{kept, kept_count, HasBase}
use Rattle.l4_record.specs.Recording.{Recording, recording, Enters as Recorded, Cancels as RecordedCancel}
use Rattle.l4_lock.specs.Receipts.{Proves}
use Rattle.l4_lock.specs.Books.{SeatState, Book, book, receipt_of, plain, book_at, receipts_at, kept_from_at, pending_at, forgotten_book, reply_waits, Settles, AreRight}
use Rattle.l4_ipc.specs.declared.steps.CancelCause.{CancelCause}

-- What a contract sees of the locked kernel. The history is the list of all entries since boot. Those with lower numbers than `kept_from`
-- were handed out.
pub record Lock : Type 0 where
  pub frames : ℕ
  pub kernel : Machine
  pub history : List Entry
  pub kept_from : ℕ
  pub books : List Book
  pub board : TableId
  pub published : ℕ

abbrev pub lock : ℕ → Machine → List Entry → ℕ → List Book → TableId → ℕ → Lock
lock frames kernel history kept_from books board published =
    record { frames = frames; kernel = kernel; history = history; kept_from = kept_from; books = books; board = board; published = published }

abbrev pub lock_code : Coded Thread → Coded Entry → Coded Book → Coded Lock
lock_code thread entry book =
    code_by (ℕ × (Machine × (List Entry × (ℕ × (List Book × (TableId × ℕ))))))
    (coded× coded_ℕ (coded× (machine_code thread) (coded× (coded_list entry) (coded× coded_ℕ (coded× (coded_list book) (coded× table_id_coded coded_ℕ))))))
    (λ l. (l.frames, (l.kernel, (l.history, (l.kept_from, (l.books, (l.board, l.published)))))))
    (λ p. lock p.0 p.1.0 p.1.1.0 p.1.1.1.0 p.1.1.1.1.0 p.1.1.1.1.1.0 p.1.1.1.1.1.1) (λ _. refl)

-- The history is legal, the kernel is the result of its replay, and the mappings were a forest throughout. No step is enabled, each receipt
-- that was given is right, and the publisher has published the length of the history. The entries that were handed out are the first ones of
-- the history, and lead to a base.
pub record IsKept (l : Lock) : Type 0 where
  pub right : AreRight l.frames l.history l.kernel l.books
  pub idle : IsIdle l.kernel
  pub few : kept_count l.kept_from l.history ≤ max_entries
  pub shown : l.published ≡ length l.history
  pub within : l.kept_from ≤ length l.history
  pub handed_out : l.kept_from ≤ max_handed_out
  pub base : HasBase l.frames l.history l.kept_from l.kernel

-- the lock without its books
abbrev pub recording_of : Lock → Recording
recording_of l = recording l.frames l.kernel l.history l.kept_from l.board l.published

-- The call was entered, as the recorder enters it. The books of other numbers are unchanged, except that calls of theirs may have ended. No
-- book has forgotten a receipt.
pub record Enters (old new : Lock) (n : ℕ) (call : Call) : Type 0 where
  pub appended : Appended
  pub recorded : Recorded (recording_of old) (recording_of new) n call appended
  pub others : (m : ℕ) → m ≢ n → option_map plain (book_at new.books m) ≡ option_map plain (book_at old.books m)
  pub kept_from : kept_from_at new.books n ≡ kept_from_at old.books n

-- The wait of the thread was canceled, as the recorder cancels it. The books are unchanged, except that the call of the thread has ended.
pub record Cancels (old new : Lock) (n : ℕ) (cause : CancelCause) : Type 0 where
  pub recorded : RecordedCancel (recording_of old) (recording_of new) n cause
  pub books : (m : ℕ) → option_map plain (book_at new.books m) ≡ option_map plain (book_at old.books m)

-- the seat gained this receipt, which is right about the history
pub record Gains (l : Lock) (before after : SeatState) (receipt : Receipt) : Type 0 where
  pub number : after.number ≡ before.number
  pub waiting : after.waiting ≡ before.waiting
  pub receipts : after.receipts ≡ before.receipts ++ receipt ∷ []
  pub kept_from : after.kept_from ≡ before.kept_from
  pub proves : Proves l.frames l.history before.number receipt

-- the call that was entered has ended with this reply
pub record EndsAtOnce (old new : Lock) (before after : SeatState) (call : Call) (reply : Reply) : Type 0 where
  pub receipt : Receipt
  pub enters : receipt.call ≡ call
  pub start : receipt.start ≡ length old.history
  pub answers : receipt.reply ≡ reply
  pub gains : Gains new before after receipt
  pub kept : receipts_at new.books before.number ≡ option_map (λ rs. rs ++ receipt ∷ []) (receipts_at old.books before.number)
  pub taken : pending_at new.books before.number ≡ None

-- the call that was entered has not ended
pub record IsLeft (old new : Lock) (before after : SeatState) : Type 0 where
  pub seat : after ≡ record before { waiting = before.waiting + 1 }
  pub not_ended : (k : ℕ) (entry : Entry) → length old.history ≤ k → slice_get new.history k ≡ Some entry → ¬ (Contains entry.answer.ended.items before.number)
  pub kept : receipts_at new.books before.number ≡ receipts_at old.books before.number

-- the lock's refusal for a refusal of the recorder
abbrev pub refusal_of : RecordRefusal → LockRefusal
refusal_of IsFull = HistoryFull
refusal_of LacksMemory = NoMemory
refusal_of (FromKernel e) = ByKernel e

-- the reason why no locked kernel is created: the number of frames is out of range, or it is in range and an allocation failed
abbrev pub RefusesBoot : ℕ → LockRefusal → Type 0
RefusesBoot frames e =
    (((frames ≡ 0) ⊎ (max_frames < frames)) × (e ≡ ByKernel BadFrames))
    ⊎ ((1 ≤ frames) × (frames ≤ max_frames) × ((e ≡ NoMemory) ⊎ (e ≡ ByKernel (Lower LowerNoMemory))))

-- the reason why a call is not entered: the first of these that applies
abbrev pub Refuses : Lock → ℕ → Call → LockRefusal → Type 0
Refuses l n call ReplyWaiting = IsTrue (reply_waits l.books n)
Refuses l n call HistoryFull = ¬ (IsTrue (reply_waits l.books n)) × (last_start < kept_count l.kept_from l.history)
Refuses l n call NoMemory = ¬ (IsTrue (reply_waits l.books n)) × (kept_count l.kept_from l.history ≤ last_start)
Refuses l n call SeatTaken = ⊥
Refuses l n call (ByKernel e) =
    ¬ (IsTrue (reply_waits l.books n)) × (kept_count l.kept_from l.history ≤ last_start)
    × (((book_at l.books n ≡ None) × (e ≡ UnknownThread)) ⊎ ((book_at l.books n ≢ None) × Steps l.kernel (Start n call) (Err e) l.kernel))

-- the reason why a wait is not canceled: the first of these that applies
abbrev pub RefusesCancel : Lock → ℕ → CancelCause → LockRefusal → Type 0
RefusesCancel l n cause HistoryFull = last_start < kept_count l.kept_from l.history
RefusesCancel l n cause NoMemory = kept_count l.kept_from l.history ≤ last_start
RefusesCancel l n cause ReplyWaiting = ⊥
RefusesCancel l n cause SeatTaken = ⊥
RefusesCancel l n cause (ByKernel e) = (kept_count l.kept_from l.history ≤ last_start) × Steps l.kernel (Cancel n cause) (Err e) l.kernel

-- The number is given no seat: it has an account already, or it has none and an allocation failed.
abbrev pub RefusesSeat : Lock → ℕ → LockRefusal → Type 0
RefusesSeat l n e = ((e ≡ SeatTaken) × (book_at l.books n ≢ None)) ⊎ ((e ≡ NoMemory) × (book_at l.books n ≡ None))

-- what the result of `enter` says about a call that was entered
abbrev pub Tells : Lock → Lock → SeatState → SeatState → Call → Entered → Type 0
Tells old new before after call (Done reply) = EndsAtOnce old new before after call reply
Tells old new before after call Waiting = IsLeft old new before after

-- A call that was left waiting has since ended, and is taken: the seat gains its receipt. The call is taken once, and the
-- books of other numbers are unchanged.
pub record Takes (old new : Lock) (before after : SeatState) (reply : Reply) : Type 0 where
  pub book : Book
  pub at : book_at old.books before.number ≡ Some book
  pub later : Book
  pub settles : Settles book later before after reply
  pub proves : Proves old.frames old.history before.number (receipt_of settles.pending settles.ended)
  pub settled : book_at new.books before.number ≡ Some later
  pub others : (m : ℕ) → m ≢ before.number → book_at new.books m ≡ book_at old.books m
  pub same : (new.frames ≡ old.frames) × (new.kernel ≡ old.kernel) × (new.history ≡ old.history) × (new.board ≡ old.board)
  pub kept_from : new.kept_from ≡ old.kept_from

-- The segment has the entries that were kept, and the number of the first of them. They were handed out, so none is kept now, and no book
-- keeps a receipt. Nothing else has changed: receipts name the same entries by the same numbers.
pub record HandsOut (old new : Lock) (segment : Segment) : Type 0 where
  pub first : segment.first ≡ old.kept_from
  pub entries : segment.history.entries ≡ kept old.kept_from old.history
  pub new_is : new ≡ record old { kept_from = length old.history; books = map forgotten_book old.books }
