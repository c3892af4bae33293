-- The state of a kernel from its parts: threads that do not send, mappings, and then the senders (this profile's own).
use Rattle.std.specs.Prelude.{◌≡◌, ◌<◌, ℕ, List, Some, IsTrue}
use Rattle.std.specs.FinSet as set
use Rattle.l4_fpage.specs.declared.sizes.PageSize.{PageSize}
use Rattle.l4_msg.specs.Messages.{MessageReads}
use Rattle.l4_msg.specs.declared.messages.Message.{Message}
use Rattle.l4_mapdb.specs.Mappings.{Mappings}
use Rattle.l4_threads.specs.Threads.{Threads, thread_at, is_sending, sending_of, start_send}
use Rattle.l4_threads.specs.declared.SendPhase.{SendPhase}
use Rattle.l4_threads.specs.declared.Thread.{Thread}
use Rattle.l4_ipc.specs.Machine.{Machine}
use Rattle.l4_ipc.specs.SpacePages.{FitIn}

-- the thread's space exists, and the thread does not send
pub record IsPart (s : Mappings) (thread : Thread) : Type 0 where
  pub space : IsTrue (set.contains s.spaces thread.space)
  pub silent : ¬ (IsTrue (is_sending thread.state))

-- the space of each thread exists, and no thread sends; the number of every space is below that of the next new one, and each present page
-- is one of a space
pub record AreParts (size : PageSize) (t : Threads) (s : Mappings) : Type 0 where
  pub threads : (n : ℕ) (thread : Thread) → thread_at t n ≡ Some thread → IsPart s thread
  pub below : (space : ℕ) → IsTrue (set.contains s.spaces space) → space < t.next_space
  pub pages : FitIn size s

-- the thread sends these words, which are a message, and nothing else changes
pub record Sends (old : Machine) (n : ℕ) (words : List ℕ) (phase : SendPhase) (new : Machine) : Type 0 where
  pub message : Message
  pub reads : MessageReads words message
  pub new_is : new ≡ record old { threads = start_send old.threads n (sending_of words message.items.items phase) }
