-- The threads that exist, in rising order of their numbers (this profile's own).
use Rattle.std.specs.Prelude.{ℕ, ◌≤◌, IsTrue, is_some}
use Rattle.l4_threads.specs.Threads.{Threads, thread_at}

-- a thread with this number exists
abbrev pub IsThread : Threads → ℕ → Type 0
IsThread t n = IsTrue (is_some (thread_at t n))

-- no thread with this number or a higher one exists
abbrev pub NoThreadFrom : Threads → ℕ → Type 0
NoThreadFrom t from = (other : ℕ) → from ≤ other → ¬ (IsThread t other)

-- the least thread number that is not below `start`
pub record IsNextThread (t : Threads) (start next : ℕ) : Type 0 where
  pub there : IsThread t next
  pub from : start ≤ next
  pub least : (other : ℕ) → start ≤ other → IsThread t other → next ≤ other
