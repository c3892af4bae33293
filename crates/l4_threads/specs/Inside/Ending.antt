-- Which calls end with a thread, one state at a time. (this profile's own)
use Rattle.l4_threads.specs.declared.Reply.{Reply}
use Rattle.l4_threads.specs.declared.Reply.TheVariants.{Gone}
use Rattle.std.specs.Prelude.{ℕ, ◌==◌, ◌&&◌, ◌||◌, not, Bool, false}
use Rattle.std.specs.Option.{option_map_or}
use Rattle.l4_threads.specs.declared.State.{State}
use Rattle.l4_threads.specs.declared.State.TheVariants.{Running, Sending as Sends, Receiving as Receives}
use Rattle.l4_threads.specs.Threads.{Threads, state_of, failed, is_running}
use Rattle.l4_threads.specs.Control.{waits_for}

-- the state ends once the thread n is gone: it sends to n, or receives from n by name
abbrev pub frees : ℕ → State → Bool
frees n (Running reply) = false
frees n (Sends s) = s.to == n
frees n (Receives r) = waits_for n r.«from»

-- what a call replies whose partner is gone (L4 X.2 manual, IPC: ErrorCode, non-existing partner)
abbrev pub freed_reply : State → Reply
freed_reply (Running reply) = Gone
freed_reply (Sends s) = failed s.fault 4
freed_reply (Receives r) = failed r.fault 5

-- whether the thread's call ends with the victim
abbrev pub ends_at : Threads → ℕ → ℕ → Bool
ends_at t victim n = option_map_or (λ state. not (is_running state) && ((n == victim) || frees victim state)) (state_of t n) false
