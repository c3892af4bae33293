-- The effect of a call through the shared lock on a seat (this profile's own).
use Rattle.std.specs.Prelude.{◌≡◌, ℕ, ◌+◌, ◌<◌, List, [], ◌∷◌, ◌++◌, drop, length, map}
use Rattle.l4_threads.specs.declared.Reply.{Reply}
use Rattle.l4_ipc.specs.declared.calls.Call.{Call}
use Rattle.l4_record.specs.declared.segments.Segment.{Segment}
use Rattle.l4_record.specs.Sizes.{max_handed_out}
use Rattle.l4_lock.specs.declared.entries.Receipt.{Receipt}
use Rattle.l4_pager.specs.declared.serving.GateFault.{GateFault}
use Rattle.l4_lock.specs.Books.{SeatState}
use Rattle.l4_lock.specs.Receipts.{Proves}
use Rattle.l4_lock.specs.Locked.{Lock, IsKept, Enters, Cancels, Refuses, RefusesCancel, RefusesSeat, HandsOut}
use Rattle.l4_lock.specs.declared.refusals.LockRefusal.{LockRefusal}
use Rattle.l4_lock.specs.declared.refusals.LockRefusal.TheVariants.{HistoryFull, NoMemory, ReplyWaiting, SeatTaken, Kernel as ByKernel}
use Rattle.l4_ipc.specs.declared.steps.CancelCause.{CancelCause}

-- The thread's call was entered into some locked kernel that keeps the invariant of its type, as the recorder enters it.
pub record IsEntered (n : ℕ) (call : Call) : Type 0 where
  pub old : Lock
  pub new : Lock
  pub kept : IsKept old
  pub enters : Enters old new n call

-- The wait of the thread was canceled in the locked kernel that was under the lock at that time, as the recorder cancels it. Every invariant
-- of its type held.
pub record IsCanceled (n : ℕ) (cause : CancelCause) : Type 0 where
  pub old : Lock
  pub new : Lock
  pub kept : IsKept old
  pub cancels : Cancels old new n cause

-- The call was entered, and has ended with this reply: the seat gained one receipt, with the call that it entered and the reply that it got.
-- The receipt is of this call, and of none before it: it starts at the place of the next entry when the call was entered. It is right about
-- the history of some locked kernel that keeps the invariant of its type.
pub record IsAnswered (before after : SeatState) (call : Call) (reply : Reply) : Type 0 where
  pub receipt : Receipt
  pub number : after.number ≡ before.number
  pub waiting : after.waiting ≡ before.waiting
  pub receipts : after.receipts ≡ before.receipts ++ receipt ∷ []
  pub kept_from : after.kept_from ≡ before.kept_from
  pub gives : receipt.call ≡ call
  pub answers : receipt.reply ≡ reply
  pub entered : IsEntered before.number call
  pub start : receipt.start ≡ length entered.old.history
  pub lock : Lock
  pub kept : IsKept lock
  pub proves : Proves lock.frames lock.history before.number receipt

-- the call was entered and has not ended: the seat has one more call that was left waiting
abbrev pub LeavesWaiting : SeatState → SeatState → Call → Type 0
LeavesWaiting before after call = (after ≡ record before { waiting = before.waiting + 1 }) × IsEntered before.number call

-- A call of the seat that was left waiting has ended, and is taken with this reply. The seat gained its receipt, which is right about the
-- history of some locked kernel that keeps the invariant of its type.
pub record IsTaken (before after : SeatState) (reply : Reply) : Type 0 where
  pub receipt : Receipt
  pub number : after.number ≡ before.number
  pub waiting : before.waiting ≡ after.waiting + 1
  pub receipts : after.receipts ≡ before.receipts ++ receipt ∷ []
  pub kept_from : after.kept_from ≡ before.kept_from
  pub answers : receipt.reply ≡ reply
  pub lock : Lock
  pub kept : IsKept lock
  pub proves : Proves lock.frames lock.history before.number receipt

-- The reason why a call is not entered through the shared lock: some locked kernel that keeps the invariant of its type refuses it.
abbrev pub Declines : ℕ → Call → LockRefusal → Type 0
Declines n call e = (l : Lock) × IsKept l × Refuses l n call e

-- the reason why a wait is not canceled through the shared lock, likewise
abbrev pub DeclinesCancel : ℕ → CancelCause → LockRefusal → Type 0
DeclinesCancel n cause e = (l : Lock) × IsKept l × RefusesCancel l n cause e

-- The number is given no seat through the shared lock, for a reason that holds for some locked kernel that keeps the invariant of its type.
abbrev pub DeclinesSeat : ℕ → LockRefusal → Type 0
DeclinesSeat n e = (l : Lock) × IsKept l × RefusesSeat l n e

-- the segment was handed out by some locked kernel that keeps the invariant of its type
abbrev pub IsHandedOut : Segment → Type 0
IsHandedOut segment = (old new : Lock) × IsKept old × HandsOut old new segment

-- no further segment is handed out, because some locked kernel that keeps the invariant of its type has recorded too many entries
abbrev pub EndsSegments : Type 0
EndsSegments = (l : Lock) × IsKept l × (max_handed_out < length l.history)

-- what a contract sees of a gate: its seat, and the number of receipts that the seat had when the gate was created
pub record GateState : Type 0 where
  pub first : ℕ
  pub seat : SeatState

abbrev pub gate_state : ℕ → SeatState → GateState
gate_state first seat = record { first = first; seat = seat }

-- the calls and replies of a gate: those of the receipts that its seat gained through it, in order
abbrev pub pairs_of : GateState → List (Call × Reply)
pairs_of g = map (λ r. (r.call, r.reply)) (drop g.first g.seat.receipts)

-- the number of a refusal's code
abbrev pub refusal_number : LockRefusal → ℕ
refusal_number HistoryFull = 1
refusal_number NoMemory = 2
refusal_number ReplyWaiting = 3
refusal_number SeatTaken = 4
refusal_number (ByKernel e) = 5

-- the gate accepts a call: its seat gains exactly one receipt, with this call and this reply, and is otherwise unchanged
abbrev pub GateAccepts : GateState → Call → Reply → GateState → Type 0
GateAccepts before call reply after = (after.first ≡ before.first) × IsAnswered before.seat after.seat call reply

-- the gate refuses a call: the fault has the number of a refusal of this call, and the gate is unchanged
abbrev pub GateRefuses : GateState → Call → GateFault → GateState → Type 0
GateRefuses before call fault after =
    (after ≡ before) × ((refusal : LockRefusal) × Declines before.seat.number call refusal × (fault.code ≡ refusal_number refusal))
