-- What a thread does next, in a small value (this profile's own).
use Rattle.std.specs.Prelude.{ℕ, true, false, List, [], drop, slice_index, Option, Some, None}
use Rattle.l4_fpage.specs.Rights.{all_rights}
use Rattle.l4_fpage.specs.declared.fpages.Fpage.TheVariants.{Complete}
use Rattle.l4_msg.specs.declared.items.Item.{Item}
use Rattle.l4_threads.specs.declared.Reply.{Reply}
use Rattle.l4_threads.specs.declared.Sending.{Sending}
use Rattle.l4_threads.specs.declared.Thread.{Thread}
use Rattle.l4_threads.specs.declared.Reply.TheVariants.{Ipc as IpcReply}
use Rattle.l4_threads.specs.declared.ThreadId.{ThreadId}
use Rattle.l4_threads.specs.Threads.{Threads, sending_of, message_of}
use Rattle.l4_mapdb.specs.Mappings.{Mappings}
use Rattle.l4_fpage.specs.declared.sizes.PageSize.{PageSize}
use Rattle.l4_ipc.specs.declared.calls.FaultCall.{FaultCall}
use Rattle.l4_phases.specs.declared.turns.Sent.{Sent}
use Rattle.l4_phases.specs.declared.turns.Next.{Next}
use Rattle.l4_phases.specs.declared.turns.Next.TheVariants.{Ends as NextEnds, Sends as NextSends}
use Rattle.l4_phases.specs.declared.turns.Ending.{Ending}
use Rattle.l4_ipc.specs.declared.faulting.FaultTurn.{FaultTurn}
use Rattle.l4_ipc.specs.declared.faulting.FaultTurn.TheVariants.{Ends as FaultEnds, Tells}
use Rattle.l4_ipc.specs.declared.faulting.FaultingThread.{FaultingThread}
use Rattle.l4_phases.specs.Turns.{reply_of}
use Rattle.l4_ipc.specs.Start.{fault_words, fault_next}

-- the reply of an ending, if there is one, and otherwise the message
abbrev pub reply_or : Option Ending → Reply → Reply
reply_or None message = message
reply_or (Some ending) message = reply_of ending

-- the reply of a message that was received
abbrev pub message_reply : Thread → Sending → Reply
message_reply «from» sends = IpcReply (message_of (record { tag = slice_index sends.words.items 0; error = 0; «from» = «from».id }) (drop 1 sends.words.items))

-- what a thread does when it faults: if its call does not end, it reports the fault to its pager, and then receives from it
abbrev pub next_of_fault : ThreadId → FaultCall → FaultTurn → Next
next_of_fault pager call (FaultEnds ending) = NextEnds (reply_of ending)
next_of_fault pager call (Tells to) =
    NextSends (sending_of (fault_words call) [] (record { to = to; expires = false; «then» = Some (record { «from» = pager; window = Complete all_rights; expires = false }); fault = true }))

-- what this thread does when it faults
abbrev pub next_of_faulting : PageSize → Threads → Mappings → FaultingThread → FaultCall → Next
next_of_faulting size t s faulting call = fault_next size t s faulting.number faulting.space faulting.pager call

-- what is sent: these words, and the items in them
abbrev pub sent_of : List ℕ → List Item → Sent
sent_of words items = record { words = record { items = words }; items = record { items = items } }
