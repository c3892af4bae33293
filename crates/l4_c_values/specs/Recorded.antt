-- The results of a locked kernel for C: calls that seats entered, entries of the history, and receipts (this profile's own).
use Rattle.std.specs.Prelude.{ℕ, ◌+◌, nat_le, if◌then◌else◌, List, [], length, codes, Option, None, Some, slice_get}
use Rattle.l4_fpage.specs.Rights.{bits_of}
use Rattle.l4_ipc.specs.declared.calls.Call.{Call}
use Rattle.l4_ipc.specs.declared.calls.Call.TheVariants.{Ipc, Fault, Unmap, Control as Controls}
use Rattle.l4_ipc.specs.declared.calls.Control.TheVariants.{Create, SetPager, Delete}
use Rattle.l4_ipc.specs.declared.steps.Answer.{Answer}
use Rattle.l4_ipc.specs.declared.steps.Step.{Step}
use Rattle.l4_ipc.specs.declared.steps.Step.TheVariants.{Start, Transfer, Expire, Cancel}
use Rattle.l4_record.specs.declared.entries.Entry.{Entry}
use Rattle.l4_lock.specs.Books.{SeatState, Book, starts}
use Rattle.l4_lock.specs.declared.entries.Receipt.{Receipt}
use Rattle.l4_lock.specs.declared.closing.Mismatch.{Mismatch}
use Rattle.l4_lock.specs.declared.closing.Mismatch.TheVariants.{Missing, Foreign, Receipt as WrongReceipt}
use Rattle.l4_lock.specs.declared.refusals.Entered.{Entered}
use Rattle.l4_lock.specs.declared.refusals.Entered.TheVariants.{Done, Waiting}
use Rattle.l4_lock.specs.declared.refusals.LockRefusal.{LockRefusal}
use Rattle.l4_lock.specs.declared.refusals.LockRefusal.TheVariants.{HistoryFull, NoMemory, ReplyWaiting, SeatTaken, Kernel as ByKernel}
use Rattle.l4_answers.specs.Refusals.{kernel_refusal}
use Rattle.l4_refusals.specs.Texts.{spelled}
use Rattle.l4_c_values.specs.Told.{carried, filled, outcome_number}
use Rattle.l4_c_values.specs.Replied.{plain_result, reply_result}
use Rattle.l4_c_values.specs.declared.calls.CallGiven.{CallGiven}
use Rattle.l4_c_values.specs.declared.recorded.EntryResult.{EntryResult}
use Rattle.l4_c_values.specs.declared.recorded.ReceiptResult.{ReceiptResult}
use Rattle.l4_c_values.specs.declared.recorded.SeatResult.{SeatResult}
use Rattle.l4_c_values.specs.declared.recorded.SeatedResult.{SeatedResult}
use Rattle.l4_ipc.specs.declared.steps.CancelCause.{CancelCause}
use Rattle.l4_ipc.specs.declared.steps.CancelCause.TheVariants.{Timeout, Canceled}

-- the number of a refusal of the lock; and the number that it carries, or 0
abbrev pub lock_code : LockRefusal → ℕ
lock_code HistoryFull = spelled (codes "L1")
lock_code NoMemory = spelled (codes "NoMemory")
lock_code ReplyWaiting = spelled (codes "L3")
lock_code SeatTaken = spelled (codes "L4")
lock_code (ByKernel e) = spelled (kernel_refusal e).name

abbrev pub lock_carries : LockRefusal → ℕ
lock_carries HistoryFull = 0
lock_carries NoMemory = 0
lock_carries ReplyWaiting = 0
lock_carries SeatTaken = 0
lock_carries (ByKernel e) = carried (kernel_refusal e).number

-- the number of a mismatch, and the number of its seat
abbrev pub mismatch_code : Mismatch → ℕ
mismatch_code (Missing n) = spelled (codes "X1")
mismatch_code (Foreign n) = spelled (codes "X2")
mismatch_code (WrongReceipt n) = spelled (codes "X3")

abbrev pub mismatch_seat : Mismatch → ℕ
mismatch_seat (Missing n) = n
mismatch_seat (Foreign n) = n
mismatch_seat (WrongReceipt n) = n

-- a call that was not entered
abbrev pub unseated_result : ℕ → ℕ → SeatedResult
unseated_result code number = record { refusal = code; detail = number; reply = plain_result 0 0 0 }

-- a call that the lock refused: with X2 and its number if no seat has this number, and otherwise with the lock's reason
abbrev pub refused_call : Option Book → ℕ → LockRefusal → SeatedResult
refused_call None n e = unseated_result (spelled (codes "X2")) n
refused_call (Some b) n e = unseated_result (lock_code e) (lock_carries e)

-- the result for a call that was entered: its reply if it has ended, or none
abbrev pub entered_result : Entered → SeatedResult
entered_result (Done reply) = record { refusal = 0; detail = 0; reply = reply_result (Some reply) }
entered_result Waiting = record { refusal = 0; detail = 0; reply = reply_result None }

-- a call of this kind whose other members are 0
abbrev pub no_call : ℕ → CallGiven
no_call kind = record {
  kind = kind;
  to = 0;
  «from» = 0;
  timeouts = 0;
  acceptor = 0;
  address = 0;
  ip = 0;
  access = 0;
  control = 0;
  id = 0;
  space = 0;
  pager = 0;
  reserved = filled 4 [];
}

-- a call as C gets it; and its words
abbrev pub given_of : Call → CallGiven
given_of (Ipc c) = record (no_call 1) { to = c.to.0; «from» = c.«from».0; timeouts = c.timeouts; acceptor = c.acceptor }
given_of (Fault c) = record (no_call 2) { address = c.address; ip = c.ip; access = bits_of c.access }
given_of (Unmap c) = record (no_call 3) { control = c.control }
given_of (Controls (Create c)) = record (no_call 4) { id = c.id.0; space = c.space.0; pager = c.pager.0 }
given_of (Controls (SetPager c)) = record (no_call 5) { id = c.id.0; pager = c.pager.0 }
given_of (Controls (Delete id)) = record (no_call 6) { id = id.0 }

abbrev pub words_of : Call → List ℕ
words_of (Ipc c) = c.words.items
words_of (Fault c) = []
words_of (Unmap c) = c.words.items
words_of (Controls control) = []

-- an entry whose step has this kind, these threads, this call and these words
abbrev pub entry_with : Entry → ℕ → ℕ → ℕ → CallGiven → List ℕ → EntryResult
entry_with e kind thread receiver call words = record {
  refusal = 0;
  seat = e.seat;
  kind = kind;
  thread = thread;
  receiver = receiver;
  outcome = outcome_number e.answer.outcome;
  ended_count = length e.answer.ended.items;
  word_count = length words;
  ended = filled 64 e.answer.ended.items;
  words = filled 64 words;
  call = call;
}

-- the kind of an entry in which a wait was canceled
abbrev pub cause_kind : CancelCause → ℕ
cause_kind Timeout = 4
cause_kind Canceled = 5

abbrev pub entry_of_step : Entry → Step → EntryResult
entry_of_step e (Start n call) = entry_with e 3 n 0 (given_of call) (words_of call)
entry_of_step e (Transfer sender receiver) = entry_with e 1 sender receiver (no_call 0) []
entry_of_step e (Expire n) = entry_with e 2 n 0 (no_call 0) []
entry_of_step e (Cancel n cause) = entry_with e (cause_kind cause) n 0 (no_call 0) []

-- no entry; the code is a refusal, or 0
abbrev pub no_entry_result : ℕ → EntryResult
no_entry_result code = record {
  refusal = code;
  seat = 0;
  kind = 0;
  thread = 0;
  receiver = 0;
  outcome = 0;
  ended_count = 0;
  word_count = 0;
  ended = filled 64 [];
  words = filled 64 [];
  call = no_call 0;
}

-- an entry of the history, or none beyond its end
abbrev pub entry_result : Option Entry → EntryResult
entry_result None = no_entry_result 0
entry_result (Some e) = entry_of_step e e.step

-- The entry with this number since boot, of a history whose entries from `kept_from` on are kept: none beyond its end, and L8 if it was
-- handed out.
abbrev pub kept_entry_result : ℕ → List Entry → ℕ → EntryResult
kept_entry_result kept_from history number =
    if nat_le kept_from number then entry_result (slice_get history number) else no_entry_result (spelled (codes "L8"))

-- no receipt; the code is a refusal, or 0
abbrev pub no_receipt_result : ℕ → ReceiptResult
no_receipt_result code = record { refusal = code; there = 0; start = 0; end = 0; word_count = 0; words = filled 64 []; call = no_call 0; reply = plain_result 0 0 0 }

-- a receipt of a seat, or none
abbrev pub receipt_result : Option Receipt → ReceiptResult
receipt_result None = no_receipt_result 0
receipt_result (Some r) = record {
  refusal = 0;
  there = 1;
  start = r.start;
  end = r.end;
  word_count = length (words_of r.call);
  words = filled 64 (words_of r.call);
  call = given_of r.call;
  reply = reply_result (Some r.reply);
}

-- the receipt with this number of a seat: none beyond the end or if there is no such seat, and L8 if it was handed out
abbrev pub kept_receipt_result : Option SeatState → ℕ → ReceiptResult
kept_receipt_result None number = no_receipt_result 0
kept_receipt_result (Some p) number =
    if nat_le p.kept_from number then receipt_result (slice_get p.receipts number) else no_receipt_result (spelled (codes "L8"))

-- the number of calls that a seat has started, the number of its receipts, and the number of the first receipt that is kept; all members are
-- 0 if there is no such seat
abbrev pub no_seat_result : ℕ → SeatResult
no_seat_result code = record { refusal = code; there = 0; starts = 0; receipts = 0; kept_from = 0 }

abbrev pub seat_result : Option SeatState → SeatResult
seat_result None = no_seat_result 0
seat_result (Some p) = record { refusal = 0; there = 1; starts = starts p; receipts = length p.receipts; kept_from = p.kept_from }
