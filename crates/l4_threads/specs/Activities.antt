-- Queries about what a thread is doing (this profile's own).
use Rattle.std.specs.Prelude.{Option, Some, None}
use Rattle.l4_threads.specs.declared.Reply.{Reply}
use Rattle.l4_threads.specs.declared.Sending.{Sending}
use Rattle.l4_threads.specs.declared.Receiving.{Receiving}
use Rattle.l4_threads.specs.declared.State.{State}
use Rattle.l4_threads.specs.declared.State.TheVariants.{Running, Sending as Sends, Receiving as Receives}

-- the reply of the last ended call, if the thread is running
abbrev pub last_reply : State → Option Reply
last_reply (Running reply) = reply
last_reply other = None

-- the send phase, if the thread is sending
abbrev pub sending_in : State → Option Sending
sending_in (Sends s) = Some s
sending_in other = None

-- the receive phase, if the thread is receiving
abbrev pub receiving_in : State → Option Receiving
receiving_in (Receives r) = Some r
receiving_in other = None
