-- What a thread does next, in a small value (this profile's own).
use Rattle.std.specs.Prelude.{ℕ, []}
use Rattle.l4_threads.specs.declared.Reply.{Reply}
use Rattle.l4_threads.specs.declared.Reply.TheVariants.{Ipc as IpcReply, Answered as IsAnswered, Hit as IsHit}
use Rattle.l4_threads.specs.Threads.{nilthread, failed}
use Rattle.l4_phases.specs.declared.turns.Next.{Next}
use Rattle.l4_phases.specs.declared.turns.Next.TheVariants.{Ends as NextEnds, Receives as NextReceives}
use Rattle.l4_phases.specs.declared.turns.Ending.{Ending}
use Rattle.l4_phases.specs.declared.turns.Ending.TheVariants.{Plain, Failed, Answered, Hit}
use Rattle.l4_phases.specs.declared.turns.Turn.{Turn}
use Rattle.l4_phases.specs.declared.turns.Turn.TheVariants.{Ends, Receives}
use Rattle.l4_phases.specs.Phases.{plain_reply}

-- the reply of an Ipc with this tag, this ErrorCode and no words
abbrev pub wordless : ℕ → ℕ → Reply
wordless tag error = IpcReply (record { tag = tag; error = error; «from» = nilthread; words = record { items = [] } })

-- the reply of this ending
abbrev pub reply_of : Ending → Reply
reply_of Plain = plain_reply
reply_of (Failed fault code) = failed fault code
reply_of Answered = IsAnswered
reply_of Hit = IsHit

-- what the thread does next
abbrev pub next_of : Turn → Next
next_of (Ends ending) = NextEnds (reply_of ending)
next_of (Receives receiving) = NextReceives receiving
