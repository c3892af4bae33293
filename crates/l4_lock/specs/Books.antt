-- What the lock stores for each seat that it gave, and what a seat stores itself (this profile's own).
use Rattle.std.specs.Prelude.{◌≡◌, ℕ, ◌+◌, ◌<◌, ◌≤◌, nat_eq, nat_le, Bool, true, false, if◌then◌else◌, List, [], ◌∷◌, ◌++◌, length, map, Option, Some, None, MatchOption, slice_get, Contains}
use Rattle.std.specs.Option.{option_map, option_map_or, option_and_then}
use Rattle.std.specs.List.{All, AllPairs, list_any}
use Rattle.l4_threads.specs.declared.Reply.{Reply}
use Rattle.l4_ipc.specs.declared.calls.Call.{Call}
use Rattle.l4_ipc.specs.declared.steps.Step.{Step}
use Rattle.l4_ipc.specs.declared.steps.Step.TheVariants.{Start, Transfer, Expire, Cancel}
use Rattle.l4_ipc.specs.Machine.{Machine}
use Rattle.l4_ipc.specs.Steps.{Waits}
use Rattle.l4_record.specs.declared.entries.Entry.{Entry}
use Rattle.l4_lock.specs.declared.entries.Receipt.{Receipt}
use Rattle.l4_lock.specs.declared.entries.Ended.{Ended}
use Rattle.l4_lock.specs.declared.entries.Pending.{Pending}
use Rattle.l4_record.specs.History.{Replays, HasEvents}
use Rattle.l4_record.specs.Sizes.{max_handed_out}
use Rattle.l4_lock.specs.Receipts.{Proves, StartsCall}

-- The state of a seat: its number, how many of its calls were left waiting and have not been taken yet, and its receipts. The receipts with
-- lower numbers than `kept_from` were forgotten.
pub record SeatState : Type 0 where
  pub number : ℕ
  pub waiting : ℕ
  pub receipts : List Receipt
  pub kept_from : ℕ

-- a seat that has forgotten nothing
abbrev pub seat_state : ℕ → ℕ → List Receipt → SeatState
seat_state number waiting receipts = record { number = number; waiting = waiting; receipts = receipts; kept_from = 0 }

-- the number of calls that the seat started; each has a receipt or was left waiting
abbrev pub starts : SeatState → ℕ
starts p = length p.receipts + p.waiting

-- The book of a number whose seat was given: the call that has not been taken yet, if there is one, and a copy of each receipt. The copies
-- with lower numbers than `kept_from` were forgotten.
pub record Book : Type 0 where
  pub number : ℕ
  pub pending : Option Pending
  pub receipts : List Receipt
  pub kept_from : ℕ

-- a book that has forgotten nothing
abbrev pub book : ℕ → Option Pending → List Receipt → Book
book number pending receipts = record { number = number; pending = pending; receipts = receipts; kept_from = 0 }

-- the book and the seat, once they have forgotten all receipts so far
abbrev pub forgotten_book : Book → Book
forgotten_book b = record b { kept_from = length b.receipts }

abbrev pub forgotten_seat : SeatState → SeatState
forgotten_seat p = if nat_le (length p.receipts) max_handed_out then record p { kept_from = length p.receipts } else p

abbrev pub pending_count : Option Pending → ℕ
pending_count None = 0
pending_count (Some o) = 1

abbrev pub is_among : ℕ → List ℕ → Bool
is_among n numbers = list_any (λ k. nat_eq k n) numbers

-- the pending call without its end
abbrev pub unended : Pending → Pending
unended o = record o { ended = None }

abbrev pub plain : Book → Book
plain b = record b { pending = option_map unended b.pending }

-- the call has ended, and has not been taken yet
abbrev pub has_ended : Pending → Bool
has_ended p = option_map_or (λ e. true) p.ended false

-- the receipt of an ended call
abbrev pub receipt : Call → ℕ → Ended → Receipt
receipt call start e = record { call = call; start = start; end = e.entry; reply = e.reply }

abbrev pub receipt_of : Pending → Ended → Receipt
receipt_of o e = receipt o.call o.start e

-- 1 if the step starts a call of this thread, and otherwise 0; and the number of such steps in a history
abbrev pub one_if : ℕ → Step → ℕ
one_if n (Start k call) = if nat_eq k n then 1 else 0
one_if n (Transfer s r) = 0
one_if n (Expire k) = 0
one_if n (Cancel k cause) = 0

abbrev pub starts_of : ℕ → List Entry → ℕ
starts_of n [] = 0
starts_of n (e ∷ es) = one_if n e.step + starts_of n es

-- the call has not ended: its thread waits, and no entry since its start ended it
pub record HasNotEnded (history : List Entry) (m : Machine) (n start : ℕ) : Type 0 where
  pub waits : Waits m n
  pub not_ended : (k : ℕ) (entry : Entry) → start ≤ k → slice_get history k ≡ Some entry → ¬ (Contains entry.answer.ended.items n)

-- The call that has not been taken yet is the last one that the thread started. If it has ended, its receipt is right.
pub record IsPending (frames : ℕ) (history : List Entry) (m : Machine) (n : ℕ) (o : Pending) : Type 0 where
  pub first : Entry
  pub start : slice_get history o.start ≡ Some first
  pub call : first.step ≡ Start n o.call
  pub no_other : (k : ℕ) (entry : Entry) → o.start < k → slice_get history k ≡ Some entry → ¬ (StartsCall n entry.step)
  pub ended : MatchOption o.ended (HasNotEnded history m n o.start) (λ e. Proves frames history n (receipt_of o e))

-- the book's count and receipts are right about the history
pub record IsRight (frames : ℕ) (history : List Entry) (m : Machine) (b : Book) : Type 0 where
  pub count : starts_of b.number history ≡ length b.receipts + pending_count b.pending
  pub receipts : All (Proves frames history b.number) b.receipts
  pub rising : AllPairs (λ r s. r.start < s.start) b.receipts
  pub pending : MatchOption b.pending (Unit {0}) (IsPending frames history m b.number)
  pub later : MatchOption b.pending (Unit {0}) (λ o. All (λ r. r.start < o.start) b.receipts)

-- the book of a number, if there is one
abbrev pub book_at : List Book → ℕ → Option Book
book_at [] n = None
book_at (b ∷ bs) n = if nat_eq b.number n then Some b else book_at bs n

-- the call of this number that has not been taken yet, and the receipts of this number
abbrev pub pending_at : List Book → ℕ → Option Pending
pending_at books n = option_and_then (λ (b : Book). b.pending) (book_at books n)

abbrev pub receipts_at : List Book → ℕ → Option (List Receipt)
receipts_at books n = option_map (λ (b : Book). b.receipts) (book_at books n)

-- the number of the first receipt of this number that the lock keeps
abbrev pub kept_from_at : List Book → ℕ → Option ℕ
kept_from_at books n = option_map (λ (b : Book). b.kept_from) (book_at books n)

-- a call of this number has ended, and has not been taken yet
abbrev pub reply_waits : List Book → ℕ → Bool
reply_waits books n = option_map_or has_ended (option_and_then (λ (b : Book). b.pending) (book_at books n)) false

-- the numbers whose seats were given
abbrev pub numbers : List Book → List ℕ
numbers books = map (λ b. b.number) books

-- no number is in the list twice
abbrev pub IsOnce : List ℕ → Type 0
IsOnce [] = Unit {0}
IsOnce (n ∷ ns) = (is_among n ns ≡ false) × IsOnce ns

-- The history is legal, the machine is the result of its replay, and the mappings were a forest throughout. Each book is right, each number
-- has at most one book, and only numbers with a book have started calls.
pub record AreRight (frames : ℕ) (history : List Entry) (m : Machine) (books : List Book) : Type 0 where
  pub replays : Replays frames history m
  pub events : HasEvents replays.boot history m
  pub each : All (IsRight frames history m) books
  pub apart : IsOnce (numbers books)
  pub others : (n : ℕ) → is_among n (numbers books) ≡ false → starts_of n history ≡ 0

-- The book's call has ended and is taken: the seat gains its receipt, and gets the reply.
pub record Settles (old new : Book) (before after : SeatState) (reply : Reply) : Type 0 where
  pub pending : Pending
  pub pending_is : old.pending ≡ Some pending
  pub ended : Ended
  pub ended_is : pending.ended ≡ Some ended
  pub answers : reply ≡ ended.reply
  pub book_is : new ≡ record old { pending = None; receipts = old.receipts ++ receipt_of pending ended ∷ [] }
  pub number : after.number ≡ before.number
  pub waiting : before.waiting ≡ after.waiting + 1
  pub receipts : after.receipts ≡ before.receipts ++ receipt_of pending ended ∷ []
  pub kept_from : after.kept_from ≡ before.kept_from
