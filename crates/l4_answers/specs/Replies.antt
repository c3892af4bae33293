-- The texts of steps, and of how calls ended (this profile's own).
use Rattle.std.specs.Prelude.{ℕ, ◌==◌, List, [], ◌∷◌, ◌++◌, Option, Some, None, if◌then◌else◌, codes, decimal}
use Rattle.l4_ipc.specs.declared.steps.CancelCause.{CancelCause}
use Rattle.l4_ipc.specs.declared.steps.CancelCause.TheVariants.{Timeout, Canceled as ByRequest}
use Rattle.l4_ipc.specs.declared.steps.Outcome.{Outcome}
use Rattle.l4_ipc.specs.declared.steps.Outcome.TheVariants.{Started, Done, NoWindow, Entangled, NoMemory, Expired, Canceled}
use Rattle.l4_threads.specs.declared.ThreadId.{ThreadId}
use Rattle.l4_threads.specs.declared.IpcReply.{IpcReply}
use Rattle.l4_threads.specs.declared.Reply.{Reply}
use Rattle.l4_threads.specs.declared.Reply.TheVariants.{Ipc, Hit, Answered, FaultFailed, Unmapped, Controlled, Gone}
use Rattle.l4_threads.specs.Threads.{number_of}
use Rattle.l4_text.specs.Texts.{word_text, words_text}

abbrev pub space : List ℕ
space = 32 ∷ []

abbrev pub newline : List ℕ
newline = 10 ∷ []

-- the outcome of a transfer
abbrev pub outcome_word : Outcome → List ℕ
outcome_word Started = []
outcome_word Done = codes "done"
outcome_word NoWindow = codes "no-window"
outcome_word Entangled = codes "entangled"
outcome_word NoMemory = codes "no-memory"
outcome_word Expired = []
outcome_word Canceled = []

abbrev pub transfer_text : ℕ → ℕ → Outcome → List ℕ
transfer_text sender receiver outcome =
    codes "transfer " ++ decimal sender ++ space ++ decimal receiver ++ space ++ outcome_word outcome ++ newline

abbrev pub expire_text : ℕ → List ℕ
expire_text number = codes "expire " ++ decimal number ++ newline

-- the name of the step that cancels a wait for this cause
abbrev pub cause_name : CancelCause → List ℕ
cause_name Timeout = codes "timeout"
cause_name ByRequest = codes "cancel"

abbrev pub cancel_text : ℕ → CancelCause → List ℕ
cancel_text number cause = cause_name cause ++ space ++ decimal number ++ newline

-- a thread's number, and a text after it
abbrev pub numbered_text : ℕ → List ℕ → List ℕ
numbered_text number rest = decimal number ++ rest ++ newline

abbrev pub waits_text : ℕ → List ℕ
waits_text number = numbered_text number (codes " waits")

-- no call of the thread has ended
abbrev pub none_text : ℕ → List ℕ
none_text number = numbered_text number (codes " none")

-- a thread by its id: nilthread, or its number
abbrev pub from_text : ThreadId → List ℕ
from_text id = if id.0 == 0 then codes "nil" else decimal (number_of id)

abbrev pub ipc_head : ℕ → IpcReply → List ℕ
ipc_head number reply = decimal number ++ codes " ipc " ++ word_text reply.tag ++ space ++ decimal reply.error ++ space ++ from_text reply.from

-- how a thread's call ended, without the words of its message; a deleted thread has no reply
abbrev pub reply_head : ℕ → Option Reply → List ℕ
reply_head number (Some (Ipc reply)) = ipc_head number reply
reply_head number (Some Hit) = decimal number ++ codes " fault hit"
reply_head number (Some Answered) = decimal number ++ codes " fault answered"
reply_head number (Some (FaultFailed code)) = decimal number ++ codes " fault failed " ++ decimal code
reply_head number (Some Unmapped) = decimal number ++ codes " unmap ok"
reply_head number (Some Controlled) = decimal number ++ codes " control ok"
reply_head number (Some Gone) = decimal number ++ codes " gone"
reply_head number None = decimal number ++ codes " gone"

-- the words of its message
abbrev pub reply_words : Option Reply → List ℕ
reply_words (Some (Ipc reply)) = reply.words.items
reply_words reply = []

abbrev pub reply_text : ℕ → Option Reply → List ℕ
reply_text number reply = reply_head number reply ++ words_text (reply_words reply) ++ newline
