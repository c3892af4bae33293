-- The two halves of a call through the shared lock (this profile's own).
use Rattle.std.specs.Prelude.{◌≡◌, ℕ, length}
use Rattle.l4_threads.specs.declared.Reply.{Reply}
use Rattle.l4_ipc.specs.declared.calls.Call.{Call}
use Rattle.l4_lock.specs.declared.entries.Awaited.{Awaited}
use Rattle.l4_lock.specs.declared.shared.Began.{Began}
use Rattle.l4_lock.specs.declared.shared.Began.TheVariants.{Done, Waits}
use Rattle.l4_lock.specs.Books.{SeatState, pending_at}
use Rattle.l4_lock.specs.Inside.Accounts.{Awaits}
use Rattle.l4_lock.specs.Locked.{Lock, IsKept, Takes}
use Rattle.l4_lock.specs.Shared.{IsEntered, IsAnswered, LeavesWaiting}

-- this is the call that was entered, with the place of the entry that started it
pub record IsOf {n : ℕ} {call : Call} (own : Awaited) (entered : IsEntered n call) : Type 0 where
  pub call_is : own.call ≡ call
  pub start : own.start ≡ length entered.old.history

-- the call was entered, and has ended at once or is left waiting
abbrev pub EndsOrWaits : SeatState → SeatState → Call → Began → Type 0
EndsOrWaits before after call (Done reply) = IsAnswered before after call reply
EndsOrWaits before after call (Waits own) = (left : LeavesWaiting before after call) × IsOf own left.1

-- the reply of this call was taken from a locked kernel that keeps the invariant of its type
abbrev pub TakesOwn : SeatState → SeatState → Awaited → Reply → Type 0
TakesOwn before after own reply =
    (old new : Lock) × IsKept old × Takes old new before after reply × Awaits (pending_at old.books before.number) own
