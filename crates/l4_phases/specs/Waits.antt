-- The end of a wait without its partner: a timeout, or a cancellation (L4 X.2 manual, IPC: ErrorCode, timeouts; ExchangeRegisters).
use Rattle.std.specs.Prelude.{◌≡◌, ℕ, ◌+◌, ◌*◌, Bool, true, false, Some}
use Rattle.l4_threads.specs.declared.Reply.{Reply}
use Rattle.l4_threads.specs.declared.State.{State}
use Rattle.l4_threads.specs.declared.State.TheVariants.{Running, Sending as Sends, Receiving as Receives}
use Rattle.l4_threads.specs.Threads.{Threads, state_of, is_running, failed, end_call}

-- The thread waits: it sends or receives, in an Ipc or in a page fault, whatever its timeouts and its partner are, and also if a transfer
-- of it is enabled.
pub record IsWaiting (t : Threads) (n : ℕ) : Type 0 where
  pub state : State
  pub at : state_of t n ≡ Some state
  pub waiting : is_running state ≡ false

-- The reply of a call whose wait ends with this e of the ErrorCode. The ErrorCode is e * 2 + p: p is 0 while the thread sends, and 1 while
-- it receives.
abbrev pub wait_reply : ℕ → State → Reply
wait_reply e (Running reply) = failed false 0
wait_reply e (Sends s) = failed s.fault (e * 2)
wait_reply e (Receives r) = failed r.fault (e * 2 + 1)

-- The wait of the thread ends with this e, or, if the result is false, the thread does not wait and nothing changes. If the wait is that of
-- a send phase, the receive phase that would have followed does not begin.
abbrev pub EndsWait : Threads → ℕ → ℕ → Bool → Threads → Type 0
EndsWait old n e true new = (able : IsWaiting old n) × (new ≡ end_call old n (wait_reply e able.state))
EndsWait old n e false new = ¬ (IsWaiting old n) × (new ≡ old)
