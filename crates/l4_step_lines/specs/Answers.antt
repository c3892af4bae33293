-- The lines that answer a step (this profile's own).
use Rattle.std.specs.Prelude.{ℕ, List, ◌++◌, Option, Some, None, Result, Ok, Err, codes, decimal}
use Rattle.std.specs.List.{flat_map}
use Rattle.l4_threads.specs.declared.IpcReply.{IpcReply}
use Rattle.l4_threads.specs.declared.Reply.{Reply}
use Rattle.l4_threads.specs.declared.Reply.TheVariants.{Ipc, Hit, Answered, FaultFailed, Unmapped, Controlled, Gone}
use Rattle.l4_ipc.specs.declared.steps.Outcome.{Outcome}
use Rattle.l4_ipc.specs.declared.steps.Outcome.TheVariants.{Started, Done, NoWindow, Entangled, NoMemory, Expired, Canceled}
use Rattle.l4_ipc.specs.declared.steps.Answer.{Answer}
use Rattle.l4_ipc.specs.declared.steps.Step.{Step}
use Rattle.l4_ipc.specs.declared.steps.Step.TheVariants.{Transfer, Expire}
use Rattle.l4_mapdb.specs.declared.Mapping.{Mapping}
use Rattle.l4_answers.specs.Pages.{page_words, place_or_none}
use Rattle.l4_ipc.specs.declared.steps.Refused.{Refused}
use Rattle.l4_ipc.specs.Machine.{Machine}
use Rattle.l4_ipc.specs.Reading.{reply_of}
use Rattle.l4_text.specs.Texts.{word_text, words_text}
use Rattle.l4_answers.specs.Refusals.{Refusal, kernel_refusal, number_text}
use Rattle.l4_answers.specs.Replies.{space, newline, reply_words}

-- what a step did, in a word
abbrev pub outcome_name : Outcome → List ℕ
outcome_name Started = codes "started"
outcome_name Done = codes "done"
outcome_name NoWindow = codes "no-window"
outcome_name Entangled = codes "entangled"
outcome_name NoMemory = codes "no-memory"
outcome_name Expired = codes "expired"
outcome_name Canceled = codes "canceled"

abbrev pub ipc_name : IpcReply → List ℕ
ipc_name reply = codes "ipc " ++ word_text reply.tag ++ space ++ decimal reply.error ++ space ++ word_text reply.from.0

-- how a call ended, but for the words of its message; a text in its place where there is no reply
abbrev pub reply_name : List ℕ → Option Reply → List ℕ
reply_name none (Some (Ipc reply)) = ipc_name reply
reply_name none (Some Hit) = codes "hit"
reply_name none (Some Answered) = codes "answered"
reply_name none (Some (FaultFailed code)) = codes "failed " ++ decimal code
reply_name none (Some Unmapped) = codes "unmapped"
reply_name none (Some Controlled) = codes "controlled"
reply_name none (Some Gone) = codes "gone"
reply_name none None = none

-- After a mark, how a thread's call ended. A thread that is gone has no reply.
abbrev pub ended_line : List ℕ → ℕ → Option Reply → List ℕ
ended_line mark number reply = mark ++ decimal number ++ space ++ reply_name (codes "gone") reply ++ words_text (reply_words reply) ++ newline

abbrev pub ended_lines : List ℕ → List ℕ → Machine → List ℕ
ended_lines mark numbers after = flat_map (λ n. ended_line mark n (reply_of after.threads n)) numbers

abbrev pub refused_line : List ℕ → Refusal → List ℕ
refused_line mark refusal = mark ++ codes "refused " ++ (refusal.name ++ number_text refusal.number) ++ newline

-- after a step, each after a mark: what it did and how the calls ended that ended in it, or why it is refused
abbrev pub answer_lines : List ℕ → Result Answer Refused → Machine → List ℕ
answer_lines mark (Ok answer) after = mark ++ outcome_name answer.outcome ++ newline ++ ended_lines mark answer.ended.items after
answer_lines mark (Err refused) after = refused_line mark (kernel_refusal refused)

-- the answer to `reply`: how the last call of a thread ended that runs
abbrev pub reply_line : Option Reply → List ℕ
reply_line reply = reply_name (codes "none") reply ++ words_text (reply_words reply) ++ newline

-- the step that comes next
abbrev pub next_name : Option Step → List ℕ
next_name (Some (Transfer sender receiver)) = codes "transfer " ++ decimal sender ++ space ++ decimal receiver
next_name (Some (Expire number)) = codes "expire " ++ decimal number
next_name step = codes "none"

-- the answer to `enabled`
abbrev pub enabled_line : Option Step → List ℕ
enabled_line next = codes "enabled " ++ next_name next ++ newline

-- the answer to `space`
abbrev pub space_line : Option ℕ → List ℕ
space_line None = codes "none" ++ newline
space_line (Some number) = codes "space " ++ decimal number ++ newline

-- a page of the answer to `pages`, with its parent
abbrev pub page_line : ℕ → Mapping → List ℕ
page_line page mapping = page_words page mapping ++ space ++ place_or_none mapping.parent ++ newline
