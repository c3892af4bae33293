-- A call that was entered under the lock, and a reply that was taken under it.
use Rattle.std.proofs.Common.{◌≡◌, length, ◌+◌, ℕ, ◌∷◌, [], ◌++◌, Option, Some, None, Result, Ok, Err, IfOk, IfErr, IfSome, IfNone, MatchOption, refl, sym, ap, ◌∙◌, subst, arith}
use Rattle.std.specs.Option.{option_and_then}
use Rattle.l4_threads.specs.declared.Reply.{Reply}
use Rattle.l4_ipc.specs.declared.calls.Call.{Call}
use Rattle.l4_lock.specs.declared.entries.Awaited.{Awaited}
use Rattle.l4_lock.specs.declared.entries.Pending.{Pending}
use Rattle.l4_lock.specs.declared.refusals.Entered.{Entered}
use Rattle.l4_lock.specs.declared.refusals.Entered.TheVariants.{Done, Waiting}
use Rattle.l4_lock.specs.declared.shared.Began.{Began}
use Rattle.l4_lock.specs.declared.shared.Began.TheVariants.{Waits}
use Rattle.l4_lock.specs.Books.{SeatState, Book, receipt_of, pending_at}
use Rattle.l4_lock.specs.Inside.Accounts.{Awaits}
use Rattle.l4_lock.specs.Inside.Sharing.{IsOf, EndsOrWaits, TakesOwn}
use Rattle.l4_lock.specs.Locked.{Lock, IsKept, Enters, EndsAtOnce, Tells, Takes}
use Rattle.l4_lock.specs.Receipts.{Proves}
use Rattle.l4_lock.specs.Shared.{IsEntered, IsAnswered, LeavesWaiting, IsTaken}

pub is_taken : (old new : Lock) (before after : SeatState) (reply : Reply) → IsKept old → Takes old new before after reply → IsTaken before after reply
is_taken old new before after reply k t = record {
  receipt = receipt_of t.settles.pending t.settles.ended;
  number = t.settles.number;
  waiting = t.settles.waiting;
  receipts = t.settles.receipts;
  kept_from = t.settles.kept_from;
  answers = sym t.settles.answers;
  lock = old;
  kept = k;
  proves = t.proves;
}

pub takes_or_not : (Why : Type 0) (r : Option Reply) (old new : Lock) (before after : SeatState) → IsKept old → IfSome r (λ reply. Takes old new before after reply)
    → IfNone r ((new ≡ old) × (after ≡ before) × Why) → MatchOption r (after ≡ before) (IsTaken before after)
takes_or_not Why None old new before after k some none = none.1
takes_or_not Why (Some reply) old new before after k some none = is_taken old new before after reply k some

-- what was taken, in the words of the call that takes it
pub takes_own : (r : Option Reply) (old new : Lock) (before after : SeatState) (own : Awaited) → IsKept old
    → IfSome r (λ reply. Takes old new before after reply × Awaits (pending_at old.books before.number) own)
    → IfNone r ((new ≡ old) × (after ≡ before)) → MatchOption r (after ≡ before) (TakesOwn before after own)
takes_own None old new before after own k some none = none.1
takes_own (Some reply) old new before after own k some none = (old, new, k, some.0, some.1)

-- the two ends of a call that was entered
pub ends_at_once : (old new : Lock) (before after : SeatState) (call : Call) (reply : Reply) → IsKept old → IsKept new → Enters old new before.number call
    → EndsAtOnce old new before after call reply → IsAnswered before after call reply
ends_at_once old new before after call reply k l enters ends = record {
  receipt = ends.receipt;
  number = ends.gains.number;
  waiting = ends.gains.waiting;
  receipts = ends.gains.receipts;
  kept_from = ends.gains.kept_from;
  gives = ends.enters;
  answers = ends.answers;
  entered = record { old = old; new = new; kept = k; enters = enters };
  start = ends.start;
  lock = new;
  kept = l;
  proves = ends.gains.proves;
}

pub done_at_once : (old new : Lock) (before after : SeatState) (call : Call) (entered : Entered) (reply : Reply) → entered ≡ Done reply → IsKept old → IsKept new → Enters old new before.number call
    → Tells old new before after call entered → IsAnswered before after call reply
done_at_once old new before after call entered reply is k l enters tells =
    ends_at_once old new before after call reply k l enters (subst (Tells old new before after call) is tells)

pub is_left : (old new : Lock) (before after : SeatState) (call : Call) (entered : Entered) (own : Awaited) → ((r : Reply) → ¬ (entered ≡ Done r)) → own.call ≡ call → own.start ≡ length old.history → IsKept old
    → Enters old new before.number call → Tells old new before after call entered → EndsOrWaits before after call (Waits own)
is_left old new before after call (Done reply) own not same start k enters tells = absurd (not reply refl)
is_left old new before after call Waiting own not same start k enters left =
    ((left.seat, record { old = old; new = new; kept = k; enters = enters }), record { call_is = same; start = start })

-- a call that was left waiting has ended since
pub answered_later : (before middle after : SeatState) (call : Call) (own : Awaited) (reply : Reply) → (left : LeavesWaiting before middle call) → IsOf own left.1 → TakesOwn middle after own reply
    → IsAnswered before after call reply
answered_later before middle after call own reply left is taken =
    let old : Lock = taken.0 in
    let t : Takes old taken.1 middle after reply = taken.3 in
    let its : Awaits (Some t.settles.pending) own = subst (λ (o : Option Pending). Awaits o own) (ap (option_and_then (λ (b : Book). b.pending)) t.at ∙ t.settles.pending_is) taken.4 in
    let same : middle.number ≡ before.number = ap (λ (p : SeatState). p.number) left.0 in
    let one : middle.waiting ≡ before.waiting + 1 = ap (λ (p : SeatState). p.waiting) left.0 in
    let less : middle.waiting ≡ after.waiting + 1 = t.settles.waiting in
    record {
      receipt = receipt_of t.settles.pending t.settles.ended;
      number = t.settles.number ∙ same;
      waiting = omega (arith, one, less);
      receipts = t.settles.receipts ∙ ap (λ (p : SeatState). p.receipts ++ receipt_of t.settles.pending t.settles.ended ∷ []) left.0;
      kept_from = t.settles.kept_from ∙ ap (λ (p : SeatState). p.kept_from) left.0;
      gives = its.0 ∙ is.call_is;
      answers = sym t.settles.answers;
      entered = left.1;
      start = its.1 ∙ is.start;
      lock = old;
      kept = taken.2;
      proves = subst (λ (n : ℕ). Proves old.frames old.history n (receipt_of t.settles.pending t.settles.ended)) same t.proves;
    }

left_waiting : (before middle : SeatState) (call : Call) (began : Began) (own : Awaited) → began ≡ Waits own → EndsOrWaits before middle call began → EndsOrWaits before middle call (Waits own)
left_waiting before middle call began own is left = subst (EndsOrWaits before middle call) is left

-- the same, as the loop of a call finds it
pub answered_in_turn : (before middle now after : SeatState) (call : Call) (began : Began) (own : Awaited) (reply : Reply) → began ≡ Waits own → EndsOrWaits before middle call began → now ≡ middle
    → TakesOwn now after own reply → IsAnswered before after call reply
answered_in_turn before middle now after call began own reply is left same taken =
    let w : EndsOrWaits before middle call (Waits own) = left_waiting before middle call began own is left in
    answered_later before middle after call own reply w.0 w.1 (subst (λ (p : SeatState). TakesOwn p after own reply) same taken)
