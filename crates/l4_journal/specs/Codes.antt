-- Calls, answers, replies and places as words: a tag, followed by a word for each field (this profile's own).
use Rattle.std.specs.Prelude.{ℕ, ◌/◌, ◌%◌, ◌^◌, ◌≤◌, ⊤, List, [], ◌∷◌, length}
use Rattle.l4_fpage.specs.Rights.{bits_of}
use Rattle.l4_msg.specs.Sizes.{max_words}
use Rattle.l4_threads.specs.Sizes.{max_threads}
use Rattle.l4_threads.specs.declared.Reply.{Reply}
use Rattle.l4_threads.specs.declared.Reply.TheVariants.{Ipc as ByIpc, Hit, Answered, FaultFailed, Unmapped, Controlled, Gone}
use Rattle.l4_ipc.specs.declared.calls.Call.{Call}
use Rattle.l4_ipc.specs.declared.calls.Call.TheVariants.{Ipc, Fault, Unmap, Control as Controls}
use Rattle.l4_ipc.specs.declared.calls.Control.{Control}
use Rattle.l4_ipc.specs.declared.calls.Control.TheVariants.{Create, SetPager, Delete}
use Rattle.l4_ipc.specs.declared.steps.Outcome.{Outcome}
use Rattle.l4_ipc.specs.declared.steps.Outcome.TheVariants.{Started, Done, NoWindow, Entangled, NoMemory, Expired, Canceled}
use Rattle.l4_ipc.specs.declared.steps.Answer.{Answer}

abbrev pub control_tag : Control → ℕ
control_tag (Create c) = 3
control_tag (SetPager s) = 4
control_tag (Delete id) = 5

abbrev pub call_tag : Call → ℕ
call_tag (Ipc c) = 0
call_tag (Fault f) = 1
call_tag (Unmap u) = 2
call_tag (Controls c) = control_tag c

abbrev pub control_fields : Control → List ℕ
control_fields (Create c) = c.id.0 ∷ c.space.0 ∷ c.pager.0 ∷ []
control_fields (SetPager s) = s.id.0 ∷ s.pager.0 ∷ []
control_fields (Delete id) = id.0 ∷ []

-- the fields of a call; its list comes last, and ends with the words
abbrev pub call_fields : Call → List ℕ
call_fields (Ipc c) = c.to.0 ∷ c.«from».0 ∷ c.timeouts ∷ c.acceptor ∷ c.words.items
call_fields (Fault f) = f.address ∷ f.ip ∷ bits_of f.access ∷ []
call_fields (Unmap u) = u.control ∷ u.words.items
call_fields (Controls c) = control_fields c

abbrev pub outcome_code : Outcome → ℕ
outcome_code Started = 0
outcome_code Done = 1
outcome_code NoWindow = 2
outcome_code Entangled = 3
outcome_code NoMemory = 4
outcome_code Expired = 5
outcome_code Canceled = 6

-- a list that is followed by other words: its length, and then the list
abbrev pub counted : List ℕ → List ℕ
counted words = length words ∷ words

abbrev pub answer_code : Answer → List ℕ
answer_code answer = outcome_code answer.outcome ∷ counted answer.ended.items

abbrev pub reply_code : Reply → List ℕ
reply_code (ByIpc r) = 0 ∷ r.tag ∷ r.error ∷ r.«from».0 ∷ counted r.words.items
reply_code Hit = 1 ∷ []
reply_code Answered = 2 ∷ []
reply_code (FaultFailed error) = 3 ∷ error ∷ []
reply_code Unmapped = 4 ∷ []
reply_code Controlled = 5 ∷ []
reply_code Gone = 6 ∷ []

-- a place in a history, which has up to 64 bits: its lower word and its upper word
abbrev pub place_code : ℕ → List ℕ
place_code place = place % 2 ^ 32 ∷ place / 2 ^ 32 ∷ []

-- Values that have words: their lists hold no more than their types have room for.

abbrev pub CallFits : Call → Type 0
CallFits (Ipc c) = length c.words.items ≤ max_words
CallFits (Fault f) = ⊤
CallFits (Unmap u) = length u.words.items ≤ max_words
CallFits (Controls c) = ⊤

abbrev pub AnswerFits : Answer → Type 0
AnswerFits answer = length answer.ended.items ≤ max_threads

abbrev pub ReplyFits : Reply → Type 0
ReplyFits (ByIpc r) = length r.words.items ≤ max_words
ReplyFits Hit = ⊤
ReplyFits Answered = ⊤
ReplyFits (FaultFailed error) = ⊤
ReplyFits Unmapped = ⊤
ReplyFits Controlled = ⊤
ReplyFits Gone = ⊤
