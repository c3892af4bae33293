-- Entries as words: a tag, the seat, and a word for each field (this profile's own).
use Rattle.std.specs.Prelude.{ℕ, Bool, true, false, List, [], ◌∷◌, ◌++◌, Option, Some, None, nat_eq, if◌then◌else◌}
use Rattle.l4_ipc.specs.NextSteps.{own_answer, cancel_answer}
use Rattle.l4_ipc.specs.Steps.{cause_error}
use Rattle.l4_ipc.specs.declared.steps.CancelCause.{CancelCause}
use Rattle.l4_ipc.specs.declared.steps.CancelCause.TheVariants.{Timeout, Canceled}
use Rattle.l4_ipc.specs.declared.steps.Step.TheVariants.{Cancel}
use Rattle.l4_ipc.specs.declared.calls.Call.{Call}
use Rattle.l4_ipc.specs.declared.steps.Answer.{Answer}
use Rattle.l4_ipc.specs.declared.steps.NextStep.{NextStep}
use Rattle.l4_ipc.specs.declared.steps.NextStep.TheVariants.{Transfer as Transferred, Expire as Expires}
use Rattle.l4_journal.specs.Words.{◌>>=◌, word_at}
use Rattle.l4_journal.specs.Codes.{call_tag, call_fields, outcome_code, answer_code}
use Rattle.l4_journal.specs.Reading.{call_of, outcome_at, answer_at}
use Rattle.l4_record.specs.Following.{start_entry, next_entry}
use Rattle.l4_record.specs.declared.entries.Entry.{Entry}

-- The entry of a start in which no call ended has the call's tag, which is below 6.
abbrev pub start_code : ℕ → Call → List ℕ
start_code seat call = call_tag call ∷ seat ∷ call_fields call

-- the entry of a start with any answer
abbrev pub answered_code : ℕ → Call → Answer → List ℕ
answered_code seat call answer = 8 ∷ seat ∷ (answer_code answer ++ call_tag call ∷ call_fields call)

-- the word that says whether the sender's call ended too
abbrev pub ends_word : Bool → ℕ
ends_word true = 1
ends_word false = 0

-- the entry of a next step
abbrev pub next_code : ℕ → NextStep → List ℕ
next_code seat (Transferred sender receiver outcome ends) = 6 ∷ seat ∷ sender ∷ receiver ∷ outcome_code outcome ∷ ends_word ends ∷ []
next_code seat (Expires n) = 7 ∷ seat ∷ n ∷ []

-- Entries after their tag and their seat.

abbrev pub start_at : ℕ → ℕ → List ℕ → Option Entry
start_at tag seat words = do
  call ← call_of tag words
  Some (start_entry seat call (own_answer false seat))

abbrev pub transfer_at : ℕ → List ℕ → Option Entry
transfer_at seat words = do
  sender ← word_at words
  receiver ← word_at sender.1
  outcome ← outcome_at receiver.1
  ends ← word_at outcome.1
  Some (next_entry seat (Transferred sender.0 receiver.0 outcome.0 (nat_eq ends.0 1)))

abbrev pub expire_at : ℕ → List ℕ → Option Entry
expire_at seat words = do
  waiter ← word_at words
  Some (next_entry seat (Expires waiter.0))

-- the word of the cause of a Cancel: e of its ErrorCode
abbrev pub cause_word : CancelCause → ℕ
cause_word cause = cause_error cause

abbrev pub cause_of : ℕ → Option CancelCause
cause_of word = if nat_eq word 1 then Some Timeout else (if nat_eq word 3 then Some Canceled else None)

-- the entry of a Cancel
abbrev pub cancel_code : ℕ → ℕ → CancelCause → List ℕ
cancel_code seat n cause = 9 ∷ seat ∷ n ∷ cause_word cause ∷ []

abbrev pub cancel_at : ℕ → List ℕ → Option Entry
cancel_at seat words = do
  waiter ← word_at words
  word ← word_at waiter.1
  cause ← cause_of word.0
  Some (record { seat = seat; step = Cancel waiter.0 cause; answer = cancel_answer waiter.0 })

abbrev pub answered_at : ℕ → List ℕ → Option Entry
answered_at seat words = do
  answer ← answer_at words
  tag ← word_at answer.1
  call ← call_of tag.0 tag.1
  Some (start_entry seat call answer.0)

-- the entry with this tag, seat and fields
unfoldable pub entry_of : ℕ → ℕ → List ℕ → Option Entry
entry_of tag seat words =
    if nat_eq tag 6 then transfer_at seat words
    else (if nat_eq tag 7 then expire_at seat words
    else (if nat_eq tag 8 then answered_at seat words
    else (if nat_eq tag 9 then cancel_at seat words else start_at tag seat words)))

-- the entry that these words are, or None
unfoldable pub entry_at : List ℕ → Option Entry
entry_at words = do
  tag ← word_at words
  seat ← word_at tag.1
  entry_of tag.0 seat.0 seat.1
