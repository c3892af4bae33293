-- What a thread does next: its call ends, or a phase of its call begins (L4 X.2 manual, Ipc; the ErrorCodes are this profile's own).
use Rattle.std.specs.Prelude.{ℕ, ◌==◌, Bool, true, false, if◌then◌else◌, List, [], ◌∷◌, Option, Some, None, option_and_then, IsSome, IsTrue}
use Rattle.std.specs.Option.{option_map_or}
use Rattle.l4_threads.specs.declared.ThreadId.{ThreadId}
use Rattle.l4_threads.specs.declared.Source.TheVariants.{Anyone, Thread as One}
use Rattle.l4_threads.specs.declared.Later.{Later}
use Rattle.l4_threads.specs.declared.Reply.{Reply}
use Rattle.l4_threads.specs.declared.Reply.TheVariants.{Ipc as IpcReply}
use Rattle.l4_threads.specs.Threads.{Threads, state_of, named, nilthread, runs, may_receive, failed, start_send, start_receive, end_call}
use Rattle.l4_phases.specs.declared.turns.Next.{Next}
use Rattle.l4_phases.specs.declared.turns.Next.TheVariants.{Ends, Sends, Receives}

-- the reply of an Ipc that received nothing
abbrev pub plain_reply : Reply
plain_reply = IpcReply (record { tag = 0; error = 0; «from» = nilthread; words = record { items = [] } })

-- the receive phase begins: it accepts messages from any thread, or from one that exists; if that thread does not exist, the call fails
abbrev pub receiving : Threads → Later → Bool → Next
receiving t later fault =
    if later.«from».0 == 0xffff_ffff then Receives (record { «from» = Anyone; window = later.window; expires = later.expires; fault = fault }) else
    option_map_or (λ n. Receives (record { «from» = One n; window = later.window; expires = later.expires; fault = fault })) (named t later.«from») (Ends (failed fault 5))

-- what a call does after its send phase: its receive phase, or it ends
abbrev pub going_on : Threads → Option Later → Bool → Next
going_on t None fault = Ends plain_reply
going_on t (Some later) fault = receiving t later fault

-- the partner of a send phase, a thread other than the caller; anythread names none
abbrev pub partner : Threads → ℕ → ThreadId → Option ℕ
partner t caller id = if id.0 == 0xffff_ffff then None else option_and_then (λ n. if n == caller then None else Some n) (named t id)

-- The thread can do this next: it exists; to send, it is running; and to receive, it is not receiving yet.
abbrev pub CanEnter : Threads → ℕ → Next → Type 0
CanEnter t n (Ends reply) = IsSome (state_of t n)
CanEnter t n (Sends s) = IsTrue (runs t n)
CanEnter t n (Receives r) = IsTrue (may_receive t n)

-- the threads after the thread does this next
abbrev pub enters : Threads → ℕ → Next → Threads
enters t n (Ends reply) = end_call t n reply
enters t n (Sends s) = start_send t n s
enters t n (Receives r) = start_receive t n r

-- the list with this thread if its call ends, and otherwise the empty list
abbrev pub ended_by : ℕ → Next → List ℕ
ended_by n (Ends reply) = n ∷ []
ended_by n other = []

-- the list of the thread, if its call ends
abbrev pub ended_if : Bool → ℕ → List ℕ
ended_if true n = n ∷ []
ended_if false n = []
