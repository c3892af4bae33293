-- The queue of senders is an order of the threads that send (this profile's own).
use Rattle.std.specs.Prelude.{◌≢◌, ℕ, ◌⊎◌, IsTrue}
use Rattle.l4_threads.specs.Threads.{Threads, Before, sends}

-- Only threads that send are in the queue, no two of them are before each other, and of any two one is before the other.
pub record IsInOrder (t : Threads) : Type 0 where
  pub only : (a b : ℕ) → Before t a b → IsTrue (sends t a) × IsTrue (sends t b)
  pub apart : (a b : ℕ) → Before t a b → ¬ (Before t b a)
  pub total : (a b : ℕ) → IsTrue (sends t a) → IsTrue (sends t b) → a ≢ b → Before t a b ⊎ Before t b a
