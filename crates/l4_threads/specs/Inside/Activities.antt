-- Which of an activity's places say what the thread is doing.
use Rattle.std.specs.Prelude.{Some, None}
use Rattle.l4_threads.specs.declared.Reply.{Reply}
use Rattle.l4_threads.specs.declared.Sending.{Sending as ASending}
use Rattle.l4_threads.specs.declared.Receiving.{Receiving as AReceiving}
use Rattle.l4_threads.specs.declared.State.{State}
use Rattle.l4_threads.specs.declared.State.TheVariants.{Running as Runs, Sending as Sends, Receiving as Receives}
use Rattle.l4_threads.specs.declared.activity.Phase.{Phase}
use Rattle.l4_threads.specs.declared.activity.Phase.TheVariants.{New, Running, Sending, Receiving}
use Rattle.l4_threads.specs.declared.activity.Activity.TheInside.{Inside}

-- what the places of this phase say
abbrev pub state_in : Phase → Reply → ASending → AReceiving → State
state_in New reply sending receiving = Runs None
state_in Running reply sending receiving = Runs (Some reply)
state_in Sending reply sending receiving = Sends sending
state_in Receiving reply sending receiving = Receives receiving

abbrev pub shown : Inside → State
shown a = state_in a.phase a.reply a.sending a.receiving
