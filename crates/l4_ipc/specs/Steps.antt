-- The machine's steps. From one state, a step may give an answer or a refusal, and lead to another state (L4 X.2 manual: IPC,
-- ThreadControl, Unmap; that a step is one atomic event is this profile's own).
use Rattle.std.specs.Prelude.{◌≡◌, ℕ, ◌⊎◌, Bool, true, false, if◌then◌else◌, List, [], ◌∷◌, ◌++◌, drop, slice_index, IsTrue, Some, Result, Ok, Err}
use Rattle.std.specs.FinSet as set
use Rattle.l4_fpage.specs.declared.fpages.Fpage.{Fpage}
use Rattle.l4_mapdb.specs.Mappings.{Mappings}
use Rattle.l4_forest.specs.Losing.{EndsSpace}
use Rattle.l4_unmap.specs.Unmap.{UnmapReads, with_own, Unmaps}
use Rattle.l4_threads.specs.declared.Receiving.{Receiving}
use Rattle.l4_threads.specs.declared.Sending.{Sending}
use Rattle.l4_threads.specs.declared.Reply.{Reply}
use Rattle.l4_threads.specs.declared.Reply.TheVariants.{Ipc as IpcReply, Answered, Unmapped, Controlled}
use Rattle.l4_threads.specs.declared.State.{State}
use Rattle.l4_threads.specs.declared.State.TheVariants.{Sending as IsSender, Receiving as IsReceiver}
use Rattle.l4_threads.specs.declared.Thread.{Thread}
use Rattle.l4_threads.specs.Threads.{Threads, thread_at, runs, is_running, failed, end_call}
use Rattle.l4_threads.specs.Control.{create_test, created, asks_new, set_pager_test, with_pager, delete_test, Deletes, waits, IsEndedList, HasEnded}
use Rattle.l4_threads.specs.Enabled.{IsFirstSender, CanExpire, IsNextTransfer, IsNextExpiry}
use Rattle.l4_ipc.specs.declared.calls.Call.{Call}
use Rattle.l4_ipc.specs.declared.calls.Call.TheVariants.{Ipc, Fault, Unmap, Control as Controls}
use Rattle.l4_ipc.specs.declared.calls.Control.TheVariants.{Create, SetPager, Delete}
use Rattle.l4_ipc.specs.declared.steps.CancelCause.{CancelCause}
use Rattle.l4_ipc.specs.declared.steps.CancelCause.TheVariants.{Timeout, Canceled as ByRequest}
use Rattle.l4_ipc.specs.declared.steps.Step.{Step}
use Rattle.l4_ipc.specs.declared.steps.Step.TheVariants.{Start, Transfer, Expire, Cancel}
use Rattle.l4_ipc.specs.declared.steps.Outcome.{Outcome}
use Rattle.l4_ipc.specs.declared.steps.Outcome.TheVariants.{Started, Done, Expired, Canceled}
use Rattle.l4_ipc.specs.declared.steps.Answer.{Answer}
use Rattle.l4_ipc.specs.declared.steps.Lower.TheVariants.{NoMemory as LowerNoMemory}
use Rattle.l4_ipc.specs.declared.steps.Refused.{Refused}
use Rattle.l4_ipc.specs.declared.steps.Refused.TheVariants.{NotEnabled, Lower}
use Rattle.l4_phases.specs.declared.turns.Sent.{Sent}
use Rattle.l4_phases.specs.declared.turns.Next.{Next}
use Rattle.l4_phases.specs.declared.turns.Next.TheVariants.{Ends}
use Rattle.l4_ipc.specs.Machine.{Machine}
use Rattle.l4_phases.specs.Phases.{enters, ended_by, going_on}
use Rattle.l4_phases.specs.Waits.{IsWaiting, wait_reply}
use Rattle.l4_ipc.specs.Start.{IsAccepted, StartRefuses, ipc_next, fault_next}
use Rattle.l4_ipc.specs.Moving.{Moves}

-- START

-- the thread waits
abbrev pub Waits : Machine → ℕ → Type 0
Waits m n = waits m.threads n

-- the thread is deleted, and its space is deleted with its last thread
pub record DeletesThread (caller victim space : ℕ) (old new : Machine) : Type 0 where
  pub left : Threads
  pub deleted : Deletes victim old.threads left
  pub size : new.size ≡ old.size
  pub threads : new.threads ≡ end_call left caller Controlled
  pub mappings :
      (HasEnded left space × EndsSpace space old.mappings new.mappings)
      ⊎ (¬ (HasEnded left space) × (new.mappings ≡ old.mappings))

-- the mappings with one more space, which is empty, if a new space was requested
abbrev pub with_space : Mappings → Bool → ℕ → Mappings
with_space s new space = if new then record s { spaces = set.insert s.spaces space } else s

-- the effect of a call that is not refused, and the calls that end in it; in a Delete they are the caller's, and then the others
abbrev pub Starts : Machine → ℕ → Thread → Call → List ℕ → Machine → Type 0
Starts old n caller (Ipc call) ended new =
    (sent : Sent) × (window : Fpage) × IsAccepted call sent window
    × (ended ≡ ended_by n (ipc_next old.threads n call sent window))
    × (new ≡ record old { threads = enters old.threads n (ipc_next old.threads n call sent window) })
Starts old n caller (Fault call) ended new =
    (ended ≡ ended_by n (fault_next old.size old.threads old.mappings n caller.space caller.pager call))
    × (new ≡ record old { threads = enters old.threads n (fault_next old.size old.threads old.mappings n caller.space caller.pager call) })
Starts old n caller (Unmap call) ended new =
    (fpages : List Fpage) × UnmapReads call.control call.words.items fpages
    × (ended ≡ n ∷ []) × (new.threads ≡ end_call old.threads n Unmapped)
    × Unmaps old.size caller.space (with_own call.control) fpages old.mappings new.mappings
    × (new.size ≡ old.size)
Starts old n caller (Controls (Create c)) ended new =
    (space : ℕ) × (create_test old.threads n c.id c.space ≡ Ok space) × (ended ≡ n ∷ [])
    × (new ≡ record old { threads = end_call (created old.threads c.id space c.pager) n Controlled; mappings = with_space old.mappings (asks_new c.id c.space) space })
Starts old n caller (Controls (SetPager c)) ended new =
    (other : ℕ) × (set_pager_test old.threads n c.id ≡ Ok other) × (ended ≡ n ∷ [])
    × (new ≡ record old { threads = end_call (with_pager old.threads other c.pager) n Controlled })
Starts old n caller (Controls (Delete id)) ended new =
    (victim : ℕ) × (thread : Thread) × (delete_test old.threads n id ≡ Ok victim) × (thread_at old.threads victim ≡ Some thread)
    × ((others : List ℕ) × (ended ≡ n ∷ others) × IsEndedList old.threads new.threads others)
    × DeletesThread n victim thread.space old new

-- only a Create of a new space that no refusal prevents can run out of memory
abbrev pub LacksMemory : Machine → ℕ → Call → Type 0
LacksMemory m n (Controls (Create c)) =
    IsTrue (runs m.threads n) × ((space : ℕ) × (create_test m.threads n c.id c.space ≡ Ok space)) × IsTrue (asks_new c.id c.space)
LacksMemory m n other = ⊥

-- TRANSFER

-- An enabled transfer: the sender sends to the receiver, which accepts it, and no other such sender is before it in the queue. These are
-- the two threads, with the state of each.
pub record Meets (t : Threads) (sender receiver : ℕ) («from» to : Thread) (sends : Sending) (takes : Receiving) : Type 0 where
  pub from_at : thread_at t sender ≡ Some «from»
  pub to_at : thread_at t receiver ≡ Some to
  pub from_state : «from».state ≡ IsSender sends
  pub to_state : to.state ≡ IsReceiver takes
  pub enabled : IsFirstSender t receiver sender

-- the receiver's reply: the sender's tag, words and id; if the call is a fault that was answered, these are discarded
abbrev pub received : Thread → Sending → Receiving → Reply
received «from» sends takes =
    if takes.fault then Answered else
    IpcReply (record { tag = slice_index sends.words.items 0; error = 0; «from» = «from».id; words = record { items = drop 1 sends.words.items } })

-- the message was delivered
abbrev pub is_done : Outcome → Bool
is_done Done = true
is_done other = false

-- the receiver's reply: the message, if it was delivered, and otherwise ErrorCode 9
abbrev pub receiver_reply : Bool → Thread → Sending → Receiving → Reply
receiver_reply done «from» sends takes = if done then received «from» sends takes else failed takes.fault 9

-- what the sender does next: if the message was delivered, it continues with its receive phase; otherwise its call ends with ErrorCode 8
abbrev pub sender_next : Bool → Threads → Sending → Next
sender_next done t sends = if done then going_on t sends.«then» sends.fault else Ends (failed sends.fault 8)

-- the threads after a transfer: the receiver's call has ended, and the sender does what it does next
abbrev pub after_transfer : Bool → Threads → ℕ → ℕ → Thread → Sending → Receiving → Threads
after_transfer done t sender receiver «from» sends takes =
    enters (end_call t receiver (receiver_reply done «from» sends takes)) sender (sender_next done t sends)

-- the sender, if its call ended, and then the receiver
abbrev pub ended_in_transfer : Bool → Threads → ℕ → ℕ → Sending → List ℕ
ended_in_transfer done t sender receiver sends = ended_by sender (sender_next done t sends) ++ receiver ∷ []

-- WAITS THAT END

-- the reply of a call that expires: that of a timeout, ErrorCode 2 while it sends, 3 while it receives (L4 X.2 manual, IPC: timeouts)
abbrev pub expiry : State → Reply
expiry = wait_reply 1

-- e of the ErrorCode of a wait that is canceled (L4 X.2 manual, IPC: ErrorCode; ExchangeRegisters)
abbrev pub cause_error : CancelCause → ℕ
cause_error Timeout = 1
cause_error ByRequest = 3

-- the reply of a call whose wait is canceled: ErrorCode 2 or 3 (timeout), or 6 or 7 (canceled)
abbrev pub cancellation : CancelCause → State → Reply
cancellation cause = wait_reply (cause_error cause)

-- THE STEP

-- From old, the step may give this answer or refusal and lead to new. A refused step changes nothing.
abbrev pub Steps : Machine → Step → Result Answer Refused → Machine → Type 0
Steps old (Start n call) (Ok answer) new =
    (caller : Thread) × (thread_at old.threads n ≡ Some caller) × IsTrue (is_running caller.state)
    × (answer.outcome ≡ Started) × Starts old n caller call answer.ended.items new
Steps old (Start n call) (Err e) new =
    (StartRefuses old n call e ⊎ (LacksMemory old n call × (e ≡ Lower LowerNoMemory))) × (new ≡ old)
Steps old (Transfer sender receiver) (Ok answer) new =
    («from» : Thread) × (to : Thread) × (sends : Sending) × (takes : Receiving) × Meets old.threads sender receiver «from» to sends takes
    × Moves old.size old.mappings «from».space to.space sends.items.items takes.window answer.outcome new.mappings
    × (answer.ended.items ≡ ended_in_transfer (is_done answer.outcome) old.threads sender receiver sends)
    × (new.threads ≡ after_transfer (is_done answer.outcome) old.threads sender receiver «from» sends takes)
    × (new.size ≡ old.size)
Steps old (Transfer sender receiver) (Err e) new = ¬ (IsFirstSender old.threads receiver sender) × (e ≡ NotEnabled) × (new ≡ old)
Steps old (Expire n) (Ok answer) new =
    (able : CanExpire old.threads n)
    × (answer.outcome ≡ Expired) × (answer.ended.items ≡ n ∷ []) × (new ≡ record old { threads = end_call old.threads n (expiry able.state) })
Steps old (Expire n) (Err e) new = ¬ (CanExpire old.threads n) × (e ≡ NotEnabled) × (new ≡ old)
Steps old (Cancel n cause) (Ok answer) new =
    (able : IsWaiting old.threads n)
    × (answer.outcome ≡ Canceled) × (answer.ended.items ≡ n ∷ []) × (new ≡ record old { threads = end_call old.threads n (cancellation cause able.state) })
Steps old (Cancel n cause) (Err e) new = ¬ (IsWaiting old.threads n) × (e ≡ NotEnabled) × (new ≡ old)

-- THE NEXT STEP

-- The step that `enabled` names: the enabled transfer whose sender is first in the queue, or, if no transfer is enabled, the enabled expiry
-- of the lowest thread number. A Start and a Cancel are steps of the environment, so `enabled` never names one.
abbrev pub IsNext : Machine → Step → Type 0
IsNext m (Start n call) = ⊥
IsNext m (Transfer sender receiver) = IsNextTransfer m.threads (sender, receiver)
IsNext m (Cancel n cause) = ⊥
IsNext m (Expire n) = ((s r : ℕ) → ¬ (IsFirstSender m.threads r s)) × IsNextExpiry m.threads n

-- no transfer and no expiry is enabled
pub record IsIdle (m : Machine) : Type 0 where
  pub no_transfer : (s r : ℕ) → ¬ (IsFirstSender m.threads r s)
  pub no_expiry : (n : ℕ) → ¬ (CanExpire m.threads n)
