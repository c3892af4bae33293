-- The invariant of the kernel (this profile's own).
use Rattle.std.specs.Prelude.{◌≡◌, ℕ, ◌<◌, Some, IsTrue}
use Rattle.std.specs.Ordering.{nat_cmp}
use Rattle.std.specs.FinSet as set
use Rattle.l4_msg.specs.Messages.{typed_words}
use Rattle.l4_msg.specs.Words.{ItemsRead}
use Rattle.l4_threads.specs.declared.Sending.{Sending}
use Rattle.l4_threads.specs.declared.State.TheVariants.{Sending as IsSender}
use Rattle.l4_threads.specs.declared.Thread.{Thread}
use Rattle.l4_threads.specs.Threads.{Threads, thread_at}
use Rattle.l4_ipc.specs.Machine.{Machine}

-- each thread's space exists
abbrev pub HaveSpaces : set.FinSet nat_cmp → Threads → Type 0
HaveSpaces spaces t = (n : ℕ) (thread : Thread) → thread_at t n ≡ Some thread → IsTrue (set.contains spaces thread.space)

-- the items of a message that a thread sends are those in its words
abbrev pub IsOfWords : Sending → Type 0
IsOfWords s = ItemsRead (typed_words s.words.items) s.items.items

-- Each thread's space exists, the number of every space is below that of the next new one, and the items of each waiting message are those
-- in its words.
pub record AreSound (spaces : set.FinSet nat_cmp) (t : Threads) : Type 0 where
  pub have_spaces : HaveSpaces spaces t
  pub below : (space : ℕ) → IsTrue (set.contains spaces space) → space < t.next_space
  pub messages : (n : ℕ) (thread : Thread) (sends : Sending) → thread_at t n ≡ Some thread → thread.state ≡ IsSender sends → IsOfWords sends

abbrev pub IsSound : Machine → Type 0
IsSound m = AreSound m.mappings.spaces m.threads
