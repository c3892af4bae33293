-- Replies and steps that C passes, as lines of text like the answers to a script (this profile's own).
use Rattle.std.specs.Prelude.{ℕ, ◌==◌, List, [], ◌++◌, min, take, Option, None, Some, if◌then◌else◌, codes, decimal}
use Rattle.l4_threads.specs.declared.IpcReply.{IpcReply}
use Rattle.l4_threads.specs.declared.Reply.{Reply}
use Rattle.l4_threads.specs.declared.Reply.TheVariants.{Ipc, Hit, Answered, FaultFailed, Unmapped, Controlled, Gone}
use Rattle.l4_text.specs.Texts.{words_text}
use Rattle.l4_answers.specs.Replies.{space, reply_head, reply_words}
use Rattle.l4_c_values.specs.declared.results.ReplyResult.{ReplyResult}
use Rattle.l4_c_values.specs.declared.results.NextResult.{NextResult}

abbrev pub ipc_given : ReplyResult → IpcReply
ipc_given r = record { tag = r.tag; error = r.error; «from» = record { 0 = r.«from» }; words = record { items = take (min r.word_count 64) r.words } }

-- the reply that C passed, or None if its kind is not that of a reply
abbrev pub reply_given : ReplyResult → Option Reply
reply_given r =
    if r.kind == 1 then Some (Ipc (ipc_given r))
    else if r.kind == 2 then Some Hit
    else if r.kind == 3 then Some Answered
    else if r.kind == 4 then Some (FaultFailed r.error)
    else if r.kind == 5 then Some Unmapped
    else if r.kind == 6 then Some Controlled
    else if r.kind == 7 then Some Gone
    else None

-- the line of a thread's reply, without its newline; empty if there is no reply
abbrev pub reply_line : ℕ → Option Reply → List ℕ
reply_line number None = []
reply_line number (Some reply) = reply_head number (Some reply) ++ words_text (reply_words (Some reply))

-- the outcome of a transfer in words, from its number in C
abbrev pub outcome_text : ℕ → List ℕ
outcome_text number =
    if number == 2 then codes " done"
    else if number == 3 then codes " no-window"
    else if number == 4 then codes " entangled"
    else if number == 5 then codes " no-memory"
    else []

-- the line of a step, without its newline; empty if there is no step
abbrev pub step_line : NextResult → List ℕ
step_line r =
    if r.kind == 1 then codes "transfer " ++ decimal r.thread ++ space ++ decimal r.receiver ++ outcome_text r.outcome
    else if r.kind == 2 then codes "expire " ++ decimal r.thread
    else if r.kind == 4 then codes "timeout " ++ decimal r.thread
    else if r.kind == 5 then codes "cancel " ++ decimal r.thread
    else []
