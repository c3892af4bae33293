-- The transfers and the expiries that are enabled (this profile's own steps of the manual's IPC).
use Rattle.std.specs.Prelude.{◌≡◌, ℕ, ◌≤◌, ◌==◌, ◌&&◌, Bool, true, false, Option, Some, IsTrue}
use Rattle.l4_threads.specs.declared.Source.{Source}
use Rattle.l4_threads.specs.declared.Source.TheVariants.{Anyone, Thread as One}
use Rattle.l4_threads.specs.declared.State.{State}
use Rattle.l4_threads.specs.declared.State.TheVariants.{Running, Sending as Sends, Receiving as Receives}
use Rattle.l4_threads.specs.Threads.{Threads, state_of, Before}

-- a receive phase accepts messages of this thread (L4 X.2 manual, IPC: FromSpecifier, closed and open wait)
abbrev pub takes_from : Source → ℕ → Bool
takes_from Anyone sender = true
takes_from (One n) sender = n == sender

-- the thread sends to the other one, which accepts messages of it
abbrev pub offers_to : Option State → Option State → ℕ → ℕ → Bool
offers_to (Some (Sends s)) (Some (Receives r)) sender receiver = (s.to == receiver) && takes_from r.«from» sender
offers_to a b sender receiver = false

abbrev pub Offers : Threads → ℕ → ℕ → Type 0
Offers t sender receiver = IsTrue (offers_to (state_of t sender) (state_of t receiver) sender receiver)

-- of all threads whose message the receiver accepts, it is first in the queue: the transfer is enabled
pub record IsFirstSender (t : Threads) (receiver sender : ℕ) : Type 0 where
  pub offers : Offers t sender receiver
  pub first : (other : ℕ) → Offers t other receiver → ¬ (Before t other sender)

-- the enabled transfer whose sender is first in the queue
pub record IsNextTransfer (t : Threads) (pair : ℕ × ℕ) : Type 0 where
  pub first_sender : IsFirstSender t pair.1 pair.0
  pub first : (sender receiver : ℕ) → IsFirstSender t receiver sender → ¬ (Before t sender pair.0)

-- the state waits with a timeout of zero (L4 X.2 manual, IPC: timeouts; here every timeout is zero or never)
abbrev pub expires : State → Bool
expires (Running reply) = false
expires (Sends s) = s.expires
expires (Receives r) = r.expires

-- the thread waits with a timeout of zero, and no transfer of it is enabled
pub record CanExpire (t : Threads) (n : ℕ) : Type 0 where
  pub state : State
  pub at : state_of t n ≡ Some state
  pub zero : IsTrue (expires state)
  pub sends_none : (other : ℕ) → ¬ (IsFirstSender t other n)
  pub receives_none : (other : ℕ) → ¬ (IsFirstSender t n other)

-- the thread with the least number that can expire
pub record IsNextExpiry (t : Threads) (n : ℕ) : Type 0 where
  pub can_expire : CanExpire t n
  pub least : (other : ℕ) → CanExpire t other → n ≤ other
