-- The served thread that acts next, and the call that it makes (this profile's own).
use Rattle.std.specs.Prelude.{◌≡◌, ◌≢◌, ◌⊎◌, ℕ, ◌-◌, ◌^◌, ◌≤◌, Some, IsTrue, IsSome, option_and_then}
use Rattle.std.specs.Option.{unwrap_or}
use Rattle.l4_msg.specs.Messages.{message_words}
use Rattle.l4_msg.specs.declared.messages.Message.{Message}
use Rattle.l4_threads.specs.declared.ThreadId.{ThreadId}
use Rattle.l4_threads.specs.declared.Reply.{Reply}
use Rattle.l4_threads.specs.Threads.{Threads, space_of, named}
use Rattle.l4_ipc.specs.declared.calls.Call.{Call}
use Rattle.l4_ipc.specs.Reading.{reply_of}
use Rattle.l4_sigma0.specs.Owners.{Owners, Answers as GrantsFrames}
use Rattle.l4_pager.specs.Regions.{Answers as AnswersByRegions}
use Rattle.l4_pager.specs.Serving.{Brings, waiting, sending}
use Rattle.l4_servers.specs.Servers.{Servers, servers, regions_of, is_served}

-- WHICH THREAD ACTS NEXT

-- The thread is served, and it is running with a reply. A served thread has made a call, so it has a reply whenever it runs.
abbrev pub IsReady : Threads → Servers → ℕ → Type 0
IsReady t s thread = IsTrue (is_served s thread) × IsSome (reply_of t thread)

abbrev pub NoneReady : Threads → Servers → Type 0
NoneReady t s = (thread : ℕ) → ¬ IsReady t s thread

-- the ready thread with the least number
pub record IsFirstReady (t : Threads) (s : Servers) (thread : ℕ) : Type 0 where
  pub ready : IsReady t s thread
  pub least : (other : ℕ) → IsReady t s other → thread ≤ other

-- WHICH CALL IT MAKES

-- the number of sigma0's thread
abbrev pub sigma0 : ℕ
sigma0 = 1

-- the space number of a sender that no longer exists
abbrev pub gone_space : ℕ
gone_space = 2 ^ 64 - 1

-- the space of the thread with the sender's id; its version counts too, since another thread may have the number by now
abbrev pub space_of_sender : Threads → ThreadId → ℕ
space_of_sender t sender = unwrap_or (option_and_then (space_of t) (named t sender)) gone_space

-- sigma0 answers from its table of owners, which may change
abbrev pub AnswersBySigma0 : Threads → Servers → ThreadId → Message → Message → Servers → Type 0
AnswersBySigma0 t old sender m answer new =
    (owners : Owners) × GrantsFrames old.owners (space_of_sender t sender) m answer owners × (new ≡ servers owners old.tables old.served)

-- every other thread answers from its regions
abbrev pub Answers : Threads → Servers → ℕ → ThreadId → Message → Message → Servers → Type 0
Answers t old thread sender m answer new =
    ((thread ≡ sigma0) × AnswersBySigma0 t old sender m answer new)
    ⊎ ((thread ≢ sigma0) × AnswersByRegions (regions_of old thread) m answer × (new ≡ old))

-- the call sends the answer to the sender of the reply's message
pub record IsAnswer (t : Threads) (old : Servers) (thread : ℕ) (reply : Reply) (call : Call) (new : Servers) : Type 0 where
  pub sender : ThreadId
  pub message : Message
  pub brings : Brings reply sender message
  pub answer : Message
  pub answers : Answers t old thread sender message answer new
  pub is : call ≡ sending sender (message_words answer)

-- the call answers the message of the thread's last reply; if the reply has no message, the thread waits for the next one
abbrev pub Follows : Threads → Servers → ℕ → Reply → Call → Servers → Type 0
Follows t old thread reply call new =
    IsAnswer t old thread reply call new ⊎ (((sender : ThreadId) (m : Message) → ¬ Brings reply sender m) × (call ≡ waiting) × (new ≡ old))

-- the thread acts next, and makes this call
pub record ActsNext (t : Threads) (old : Servers) (thread : ℕ) (call : Call) (new : Servers) : Type 0 where
  pub first : IsFirstReady t old thread
  pub reply : Reply
  pub reply_is : reply_of t thread ≡ Some reply
  pub follows : Follows t old thread reply call new
