-- The thread that takes a sender's message. (this profile's own)
use Rattle.std.specs.Prelude.{◌≡◌, ◌⊎◌, ℕ, if◌then◌else◌, Option, Some, None, option_and_then}
use Rattle.l4_threads.specs.declared.State.{State}
use Rattle.l4_threads.specs.declared.State.TheVariants.{Sending as Sends}
use Rattle.l4_threads.specs.Threads.{Threads, state_of}
use Rattle.l4_threads.specs.Enabled.{offers_to, Offers}

-- whom the state sends to
abbrev pub target_of : Option State → Option ℕ
target_of (Some (Sends s)) = Some s.to
target_of state = None

-- the thread that the sender sends to, where that one takes its message
abbrev pub taker : Threads → ℕ → Option ℕ
taker t sender = option_and_then (λ receiver. if offers_to (state_of t sender) (state_of t receiver) sender receiver then Some receiver else None) (target_of (state_of t sender))

-- the thread takes part in each transfer that is offered
abbrev pub TakesPart : Threads → ℕ → Type 0
TakesPart t n = (s r : ℕ) → Offers t s r → (s ≡ n) ⊎ (r ≡ n)
