-- The last calls of threads, which are reported with a difference (this profile's own).
use Rattle.std.specs.Prelude.{ℕ, Bool, List, [], ◌++◌, codes, decimal, Option, Some, None, if◌then◌else◌}
use Rattle.std.specs.FinMap as fin
use Rattle.std.specs.Option.{unwrap_or}
use Rattle.std.specs.Ordering.{nat_cmp}
use Rattle.l4_answers.specs.Replies.{newline}
use Rattle.l4_ipc.specs.declared.calls.Call.{Call}
use Rattle.l4_ipc.specs.declared.calls.Call.TheVariants.{Ipc, Fault, Unmap, Control}
use Rattle.l4_ipc.specs.declared.steps.Step.{Step}
use Rattle.l4_ipc.specs.declared.steps.Step.TheVariants.{Start, Transfer, Expire, Cancel}
use Rattle.l4_step_lines.specs.declared.requests.Request.{Request}
use Rattle.l4_step_lines.specs.declared.requests.Request.TheVariants.{Do, Enabled, Reply, Space, Pages}
use Rattle.l4_threads.specs.Threads.{number_of}

-- the last call of each thread that has one, as a line of a report
abbrev pub Calls : Type 0
Calls = fin.FinMap nat_cmp (List ℕ)

-- the line of a report that names the call in the line of this number
abbrev pub call_text : ℕ → List ℕ → List ℕ
call_text number line = codes "  line " ++ decimal number ++ codes ": " ++ line ++ newline

-- THREADS OF A REQUEST

-- the thread that starts a call
abbrev pub caller_of : Step → Option ℕ
caller_of (Start thread call) = Some thread
caller_of (Transfer sender receiver) = None
caller_of (Expire thread) = None
caller_of (Cancel thread cause) = None

abbrev pub starts_call : Request → Option ℕ
starts_call (Do step) = caller_of step
starts_call request = None

-- the thread to which a call sends
abbrev pub partner_of : Call → Option ℕ
partner_of (Ipc call) = Some (number_of call.to)
partner_of (Fault call) = None
partner_of (Unmap call) = None
partner_of (Control control) = None

-- the threads that a step names: a caller and the thread to which it sends, the sender and the receiver of a transfer, or one thread
abbrev pub thread_of : Step → ℕ
thread_of (Start thread call) = thread
thread_of (Transfer sender receiver) = sender
thread_of (Expire thread) = thread
thread_of (Cancel thread cause) = thread

abbrev pub receiver_of : Step → Option ℕ
receiver_of (Start thread call) = partner_of call
receiver_of (Transfer sender receiver) = Some receiver
receiver_of (Expire thread) = None
receiver_of (Cancel thread cause) = None

-- the threads that a request names, two at most
abbrev pub first_named : Request → Option ℕ
first_named (Do step) = Some (thread_of step)
first_named Enabled = None
first_named (Reply thread) = Some thread
first_named (Space thread) = Some thread
first_named (Pages space) = None

abbrev pub second_named : Request → Option ℕ
second_named (Do step) = receiver_of step
second_named request = None

-- WHAT IS REPORTED

-- the last call of a thread; nothing where there is no thread, or where it has none
abbrev pub last_call : Calls → Option ℕ → List ℕ
last_call calls None = []
last_call calls (Some thread) = unwrap_or (fin.get calls thread) []

-- the last calls of the threads that a request names
abbrev pub calls_of : Calls → Request → List ℕ
calls_of calls request = last_call calls (first_named request) ++ last_call calls (second_named request)

-- the call in the line of this number is the last one of its thread, where calls are kept
abbrev pub with_last : Bool → Calls → Option ℕ → ℕ → List ℕ → Calls
with_last keeps calls None number line = calls
with_last keeps calls (Some thread) number line = if keeps then fin.insert calls thread (call_text number line) else calls
