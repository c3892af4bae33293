-- What a thread is doing, as C gets it (this profile's own).
use Rattle.std.specs.Prelude.{◌≡◌, ℕ, Bool, true, false, [], codes, Option, None, Some}
use Rattle.std.specs.Option.{option_map_or}
use Rattle.l4_threads.specs.Threads.{Threads, thread_at}
use Rattle.l4_threads.specs.declared.Source.{Source}
use Rattle.l4_threads.specs.declared.Source.TheVariants.{Anyone, Thread as Only}
use Rattle.l4_threads.specs.declared.State.{State}
use Rattle.l4_threads.specs.declared.State.TheVariants.{Running, Sending as Sends, Receiving as Receives}
use Rattle.l4_threads.specs.declared.Thread.{Thread}
use Rattle.l4_ipc.specs.Machine.{Machine}
use Rattle.l4_refusals.specs.Texts.{spelled}
use Rattle.l4_c_values.specs.Told.{filled}
use Rattle.l4_c_queries.specs.declared.states.StateResult.{StateResult}

-- 1 for true, 0 for false
abbrev pub flag : Bool → ℕ
flag true = 1
flag false = 0

-- the id of the thread with this number, or nilthread if there is none
abbrev pub id_at : Threads → ℕ → ℕ
id_at t n = option_map_or (λ (thread : Thread). thread.id.0) (thread_at t n) 0

-- the id of the thread whose message a receive phase accepts, or anythread if it accepts any
abbrev pub source_id : Threads → Source → ℕ
source_id t Anyone = 0xffff_ffff
source_id t (Only n) = id_at t n

-- a thread whose state has this number, with the partner for which it waits, whether the wait has a timeout of zero, and whether it belongs
-- to a page fault
abbrev pub state_with : Thread → ℕ → ℕ → Bool → Bool → StateResult
state_with thread number partner expires fault = record {
  refusal = 0;
  state = number;
  space = thread.space;
  id = thread.id.0;
  pager = thread.pager.0;
  partner = partner;
  expires = flag expires;
  fault = flag fault;
  reserved = filled 3 [];
}

-- 1: it runs, and has made no call yet; 2: it runs, and its last call has ended; 3: it waits in a send phase; 4: it waits in a receive phase
abbrev pub state_in : Threads → Thread → State → StateResult
state_in t thread (Running None) = state_with thread 1 0 false false
state_in t thread (Running (Some reply)) = state_with thread 2 0 false false
state_in t thread (Sends s) = state_with thread 3 (id_at t s.to) s.expires s.fault
state_in t thread (Receives r) = state_with thread 4 (source_id t r.«from») r.expires r.fault

-- no thread; the code is a refusal, or 0
abbrev pub no_state_result : ℕ → StateResult
no_state_result code = record { refusal = code; state = 0; space = 0; id = 0; pager = 0; partner = 0; expires = 0; fault = 0; reserved = filled 3 [] }

abbrev pub state_result : Threads → Option Thread → StateResult
state_result t None = no_state_result 0
state_result t (Some thread) = state_in t thread thread.state

-- what the thread with this number is doing, if it exists; an empty handle is refused (B1)
abbrev pub TellsState : Option Machine → ℕ → StateResult → Type 0
TellsState None n r = r ≡ no_state_result (spelled (codes "B1"))
TellsState (Some m) n r = r ≡ state_result m.threads (thread_at m.threads n)
