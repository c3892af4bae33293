-- The threads as one value: the threads that exist, what each is doing, and the order of the queue of senders.
use Rattle.std.specs.Prelude.{◌≡◌, ◌≢◌, ℕ, ◌/◌, ◌%◌, ◌<◌, ◌≤◌, ◌⊎◌, ◌==◌, ◌&&◌, not, Bool, true, false, if◌then◌else◌, List, [], map, filter_map, Option, Some, None, IsTrue, option_and_then, refl}
use Rattle.std.specs.Option.{option_map_or, option_map}
use Rattle.std.specs.Ordering.{nat_cmp, ordering_then}
use Rattle.std.specs.declared.cmp.Ordering.{Ordering}
use Rattle.std.specs.Coded.{Coded, code_by, coded×, coded_ℕ}
use Rattle.std.specs.FinMap as fin
use Rattle.std.specs.FinSet as set
use Rattle.l4_threads.specs.Sizes.{max_threads, numbers, versions, space_numbers}
use Rattle.l4_threads.specs.declared.ThreadId.{ThreadId}
use Rattle.l4_msg.specs.declared.items.Item.{Item}
use Rattle.l4_threads.specs.declared.SendPhase.{SendPhase}
use Rattle.l4_threads.specs.declared.Envelope.{Envelope}
use Rattle.l4_threads.specs.declared.IpcReply.{IpcReply}
use Rattle.l4_threads.specs.declared.Reply.{Reply}
use Rattle.l4_threads.specs.declared.Reply.TheVariants.{Ipc, FaultFailed}
use Rattle.l4_threads.specs.declared.Receiving.{Receiving}
use Rattle.l4_threads.specs.declared.Sending.{Sending}
use Rattle.l4_threads.specs.declared.State.{State}
use Rattle.l4_threads.specs.declared.State.TheVariants.{Running, Sending as Sends, Receiving as Receives}
use Rattle.l4_threads.specs.declared.Thread.{Thread}

-- pairs of thread numbers, by the first and then by the second (this profile's own)
abbrev pub pair_cmp : ℕ × ℕ → ℕ × ℕ → Ordering
pair_cmp a b = ordering_then (nat_cmp a.0 b.0) (nat_cmp a.1 b.1)

-- The threads by number, the pairs of senders of which the first is before the second in the queue, and the number of the next new space.
-- No space number is used twice (this profile's own).
pub record Threads : Type 0 where
  pub threads : fin.FinMap nat_cmp Thread
  pub before : set.FinSet pair_cmp
  pub next_space : ℕ

-- the thread with this number, if it exists
abbrev pub thread_at : Threads → ℕ → Option Thread
thread_at t n = fin.get t.threads n

-- what the thread with this number is doing
abbrev pub state_of : Threads → ℕ → Option State
state_of t n = option_map (λ thread. thread.state) (thread_at t n)

-- the space of the thread with this number
abbrev pub space_of : Threads → ℕ → Option ℕ
space_of t n = option_map (λ thread. thread.space) (thread_at t n)

-- the id that names no thread (L4 X.2 manual, ThreadId: nilthread)
abbrev pub nilthread : ThreadId
nilthread = record { 0 = 0 }

-- the id that means any thread (L4 X.2 manual, ThreadId: anythread)
abbrev pub anythread : ThreadId
anythread = record { 0 = 0xffff_ffff }

-- the thread number in an id: its upper 18 bits (L4 X.2 manual, ThreadId: global thread ids)
abbrev pub number_of : ThreadId → ℕ
number_of id = id.0 / versions

-- the version in an id: its lower 14 bits (L4 X.2 manual, ThreadId: global thread ids)
abbrev pub version_of : ThreadId → ℕ
version_of id = id.0 % versions

-- the number of the thread with this id: the whole word must be equal, so the version too
abbrev pub named : Threads → ThreadId → Option ℕ
named t id = option_and_then (λ thread. if thread.id.0 == id.0 then Some (number_of id) else None) (thread_at t (number_of id))

-- the thread waits for its message to be received
abbrev pub is_sending : State → Bool
is_sending (Sends s) = true
is_sending other = false

-- the thread does not wait
abbrev pub is_running : State → Bool
is_running (Running reply) = true
is_running other = false

-- the thread waits for a message
abbrev pub is_receiving : State → Bool
is_receiving (Receives r) = true
is_receiving other = false

-- the thread exists, and is sending
abbrev pub sends : Threads → ℕ → Bool
sends t n = option_map_or is_sending (state_of t n) false

-- the thread exists, and is running
abbrev pub runs : Threads → ℕ → Bool
runs t n = option_map_or is_running (state_of t n) false

-- the thread exists, and is running or sending, so that a receive phase may begin
abbrev pub may_receive : Threads → ℕ → Bool
may_receive t n = option_map_or (λ state. not (is_receiving state)) (state_of t n) false

-- the numbers of the sending threads
abbrev pub senders : Threads → List ℕ
senders t = filter_map (λ e. if is_sending e.1.state then Some e.0 else None) (fin.entries t.threads)

-- one sender is before the other in the queue
abbrev pub Before : Threads → ℕ → ℕ → Type 0
Before t a b = IsTrue (set.contains t.before (a, b))

-- the thread has this state, and nothing else changes
abbrev pub with_state : Threads → ℕ → State → Threads
with_state t n state = option_map_or (λ thread. record t { threads = fin.insert t.threads n (record thread { state = state }) }) (thread_at t n) t

-- the queue without the thread
abbrev pub out_of_queue : Threads → ℕ → Threads
out_of_queue t n = record t { before = set.retain t.before (λ p. not (p.0 == n) && not (p.1 == n)) }

-- the send phase with these words and the items in them
abbrev pub sending_of : List ℕ → List Item → SendPhase → Sending
sending_of words items phase = record { words = record { items = words }; items = record { items = items }; to = phase.to; expires = phase.expires; «then» = phase.«then»; fault = phase.fault }

-- the reply with these words
abbrev pub message_of : Envelope → List ℕ → IpcReply
message_of envelope words = record { tag = envelope.tag; error = envelope.error; «from» = envelope.«from»; words = record { items = words } }

-- a thread that starts to send is last in the queue (this profile's own: one queue, in the order in which send phases start)
abbrev pub start_send : Threads → ℕ → Sending → Threads
start_send t n s =
    with_state (record t { before = set.union t.before (set.from_list (map (λ m. (m, n)) (senders t))) }) n (Sends s)

-- a thread that starts to receive is no longer in the queue
abbrev pub start_receive : Threads → ℕ → Receiving → Threads
start_receive t n r = with_state (out_of_queue t n) n (Receives r)

-- the thread's call ends with this reply, and the thread runs
abbrev pub end_call : Threads → ℕ → Reply → Threads
end_call t n reply = with_state (out_of_queue t n) n (Running (Some reply))

-- the reply of a call that failed with this ErrorCode (L4 X.2 manual, IPC: the error indicator of the tag, and ErrorCode)
abbrev pub failed : Bool → ℕ → Reply
failed true code = FaultFailed code
failed false code = Ipc (record { tag = 0x8000; error = code; «from» = nilthread; words = record { items = [] } })

-- The threads at boot: sigma0 is thread 1 in space 0, without a pager. Root is thread 2 in space 1, and its pager is sigma0. Both are
-- running, with no reply yet (this profile's own).
abbrev pub first_threads : Threads
first_threads = record {
  threads = fin.insert (fin.insert fin.empty 1 (record { id = record { 0 = 0x4001 }; space = 0; pager = nilthread; state = Running None }))
      2 (record { id = record { 0 = 0x8001 }; space = 1; pager = record { 0 = 0x4001 }; state = Running None });
  before = set.empty;
  next_space = 2;
}

-- The invariant of the threads: each thread's id has its number, the number of its space is below that of the next new one, and the pairs
-- of the queue are a strict total order of the senders.
pub record IsConsistent (t : Threads) : Type 0 where
  pub number : (n : ℕ) (thread : Thread) → thread_at t n ≡ Some thread → number_of thread.id ≡ n
  pub small : (n : ℕ) (thread : Thread) → thread_at t n ≡ Some thread → n < numbers
  pub space : (n : ℕ) (thread : Thread) → thread_at t n ≡ Some thread → thread.space < t.next_space
  pub next_space : t.next_space < space_numbers
  pub few : fin.len t.threads ≤ max_threads
  pub senders_only : (a b : ℕ) → Before t a b → IsTrue (sends t a) × IsTrue (sends t b)
  pub irreflexive : (a : ℕ) → ¬ (Before t a a)
  pub transitive : (a b c : ℕ) → Before t a b → Before t b c → Before t a c
  pub total : (a b : ℕ) → IsTrue (sends t a) → IsTrue (sends t b) → a ≢ b → Before t a b ⊎ Before t b a

abbrev pub threads_code : Coded Thread → Coded Threads
threads_code thread =
    code_by (fin.FinMap nat_cmp Thread × (set.FinSet pair_cmp × ℕ)) (coded× (fin.code coded_ℕ thread) (coded× (set.code (coded× coded_ℕ coded_ℕ)) coded_ℕ))
    (λ t. (t.threads, (t.before, t.next_space))) (λ p. record { threads = p.0; before = p.1.0; next_space = p.1.1 }) (λ _. refl)
