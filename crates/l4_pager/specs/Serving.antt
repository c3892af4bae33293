-- The calls of a pager that is served: it answers the last message, receives the next one, and so on (this profile's own).
use Rattle.std.specs.Prelude.{◌≡◌, ℕ, ◌+◌, ◌≤◌, ◌==◌, ◌⊎◌, Bool, true, false, IsTrue, List, [], ◌∷◌, length, if◌then◌else◌}
use Rattle.l4_msg.specs.Messages.{MessageReads, message_words}
use Rattle.l4_msg.specs.declared.messages.Message.{Message}
use Rattle.l4_threads.specs.declared.ThreadId.{ThreadId}
use Rattle.l4_threads.specs.declared.Reply.{Reply}
use Rattle.l4_threads.specs.declared.Reply.TheVariants.{Ipc as IpcReply, Hit, Answered, FaultFailed, Unmapped, Controlled, Gone}
use Rattle.l4_threads.specs.Threads.{nilthread, anythread}
use Rattle.l4_ipc.specs.declared.calls.Call.{Call}
use Rattle.l4_ipc.specs.declared.calls.Call.TheVariants.{Ipc}
use Rattle.l4_pager.specs.declared.regions.Entry.{Entry}
use Rattle.l4_pager.specs.Regions.{Answers, Regions}

-- the call that receives from any thread, with a nil window and without a timeout
abbrev pub waiting : Call
waiting = Ipc (record { to = nilthread; «from» = anythread; timeouts = 0; acceptor = 0; words = record { items = [] } })

-- the timeouts of an answer: zero for the send phase, because the thread that sent the message is waiting for it, and never for the receive
-- phase
abbrev pub at_once : ℕ
at_once = 0x0400_0000

-- the call that sends the words to a waiting thread, and then receives from any thread
abbrev pub sending : ThreadId → List ℕ → Call
sending to words = Ipc (record { to = to; «from» = anythread; timeouts = at_once; acceptor = 0; words = record { items = words } })

-- The reply has this message from this sender: it is the reply of an Ipc, and its tag and words are read as the message. The reply of a
-- failed Ipc has none, because its tag has a flag.
abbrev pub Brings : Reply → ThreadId → Message → Type 0
Brings (IpcReply r) sender m = (sender ≡ r.«from») × MessageReads (r.tag ∷ r.words.items) m
Brings Hit sender m = ⊥
Brings Answered sender m = ⊥
Brings (FaultFailed code) sender m = ⊥
Brings Unmapped sender m = ⊥
Brings Controlled sender m = ⊥
Brings Gone sender m = ⊥

-- the call sends the table's answer to the reply's message
pub record IsAnswer (es : Regions) (reply : Reply) (call : Call) : Type 0 where
  pub sender : ThreadId
  pub message : Message
  pub brings : Brings reply sender message
  pub answer : Message
  pub answers : Answers es message answer
  pub is : call ≡ sending sender (message_words answer)

-- The call that is entered after a reply, and whether it is an answer. If the reply has a message, the call answers it; otherwise it only
-- receives.
abbrev pub Follows : Regions → Reply → Call → Bool → Type 0
Follows es reply call true = IsAnswer es reply call
Follows es reply call false = ((sender : ThreadId) (m : Message) → ¬ Brings reply sender m) × (call ≡ waiting)

-- The receive phase of the call was canceled (ErrorCode 7). This tells a server to end (L4 X.2 manual, IPC: ErrorCode; the use is this
-- profile's own).
abbrev pub is_shut : Reply → Bool
is_shut (IpcReply r) = r.error == 7
is_shut other = false

-- The calls that are entered after a reply, one after another, with this number of answers. None is entered after the receive phase of a
-- call was canceled.
abbrev pub Turns : Regions → Reply → List (Call × Reply) → ℕ → Type 0
Turns es reply [] answers = answers ≡ 0
Turns es reply (pair ∷ pairs) answers =
    (is_answer : Bool) × (later : ℕ) × Follows es reply pair.0 is_answer × Turns es pair.1 pairs later × (answers ≡ (if is_answer then 1 else 0) + later)
    × (is_shut reply ≡ false)

-- all calls that are entered, with this number of answers; the first one only receives
abbrev pub Serves : Regions → List (Call × Reply) → ℕ → Type 0
Serves es [] answers = answers ≡ 0
Serves es (pair ∷ pairs) answers = (pair.0 ≡ waiting) × Turns es pair.1 pairs answers

-- the call is the one to enter after those that were entered
abbrev pub ComesNext : Regions → List (Call × Reply) → Call → Type 0
ComesNext es [] call = call ≡ waiting
ComesNext es (pair ∷ []) call = (is_answer : Bool) × Follows es pair.1 call is_answer × (is_shut pair.1 ≡ false)
ComesNext es (pair ∷ (next ∷ pairs)) call = ComesNext es (next ∷ pairs) call

-- the receive phase of the last call was canceled
abbrev pub ends_shut : List (Call × Reply) → Bool
ends_shut [] = false
ends_shut (pair ∷ []) = is_shut pair.1
ends_shut (pair ∷ (next ∷ pairs)) = ends_shut (next ∷ pairs)

-- all turns were taken, or the server was told to end
abbrev pub AreDone : ℕ → List (Call × Reply) → Type 0
AreDone turns entered = (length entered ≡ 1 + turns) ⊎ ((length entered ≤ turns) × IsTrue (ends_shut entered))

-- the gate accepted these calls with these replies, one after another, and accepted no others
abbrev pub Accepted : {G : Type 0} → (G → Call → Reply → G → Type 0) → G → List (Call × Reply) → G → Type 0
Accepted accepts before [] after = after ≡ before
Accepted accepts before (pair ∷ pairs) after = (between : _) × accepts before pair.0 pair.1 between × Accepted accepts between pairs after
