-- Entries of any kind as words: the seat, the answer, and then the step, whose call comes last (this profile's own).
use Rattle.std.specs.Prelude.{ℕ, zero, suc, ◌<◌, ◌^◌, ⊤, List, [], ◌∷◌, ◌++◌, Option, Some, None}
use Rattle.std.specs.List.{All}
use Rattle.l4_ipc.specs.declared.steps.Step.{Step}
use Rattle.l4_ipc.specs.declared.steps.Step.TheVariants.{Start, Transfer, Expire, Cancel}
use Rattle.l4_journal.specs.Words.{◌>>=◌, word_at}
use Rattle.l4_journal.specs.Codes.{call_tag, call_fields, answer_code, CallFits, AnswerFits}
use Rattle.l4_journal.specs.Reading.{call_of, answer_at}
use Rattle.l4_record.specs.declared.entries.Entry.{Entry}
use Rattle.l4_ipc.specs.declared.steps.CancelCause.{CancelCause}
use Rattle.l4_ipc.specs.declared.steps.CancelCause.TheVariants.{Timeout, Canceled}

-- the kind of a Cancel with this cause
abbrev pub cause_kind : CancelCause → ℕ
cause_kind Timeout = 3
cause_kind Canceled = 4

-- a step: its kind, and its fields
abbrev pub step_code : Step → List ℕ
step_code (Start n call) = 0 ∷ n ∷ call_tag call ∷ call_fields call
step_code (Transfer s r) = 1 ∷ s ∷ r ∷ []
step_code (Expire n) = 2 ∷ n ∷ []
step_code (Cancel n cause) = cause_kind cause ∷ n ∷ []

abbrev pub entry_code : Entry → List ℕ
entry_code entry = entry.seat ∷ (answer_code entry.answer ++ step_code entry.step)

-- lists hold no more than their types have room for
abbrev pub StepFits : Step → Type 0
StepFits (Start n call) = CallFits call
StepFits (Transfer s r) = ⊤
StepFits (Expire n) = ⊤
StepFits (Cancel n cause) = ⊤

abbrev pub EntryFits : Entry → Type 0
EntryFits entry = AnswerFits entry.answer × StepFits entry.step

-- each of these numbers is a word of four bytes
abbrev pub AreWords : List ℕ → Type 0
AreWords words = All (λ word. word < 2 ^ 32) words

-- The entry can be written: its numbers are words, and its lists hold no more than their types have room for.
pub record IsWritable (entry : Entry) : Type 0 where
  pub fits : EntryFits entry
  pub words : AreWords (entry_code entry)

-- Steps after their kind.

abbrev pub started_at : List ℕ → Option Step
started_at words = do
  number ← word_at words
  tag ← word_at number.1
  call ← call_of tag.0 tag.1
  Some (Start number.0 call)

abbrev pub moved_at : List ℕ → Option Step
moved_at words = do
  sender ← word_at words
  receiver ← word_at sender.1
  Some (Transfer sender.0 receiver.0)

abbrev pub expired_at : List ℕ → Option Step
expired_at words = do
  number ← word_at words
  Some (Expire number.0)

abbrev pub canceled_at : CancelCause → List ℕ → Option Step
canceled_at cause words = do
  number ← word_at words
  Some (Cancel number.0 cause)

-- the step of this kind
unfoldable pub step_of : ℕ → List ℕ → Option Step
step_of zero words = started_at words
step_of (suc zero) words = moved_at words
step_of (suc (suc zero)) words = expired_at words
step_of (suc (suc (suc zero))) words = canceled_at Timeout words
step_of (suc (suc (suc (suc zero)))) words = canceled_at Canceled words
step_of (suc (suc (suc (suc (suc kind))))) words = None

-- the entry that these words are, or None
unfoldable pub entry_at : List ℕ → Option Entry
entry_at words = do
  seat ← word_at words
  answer ← answer_at seat.1
  kind ← word_at answer.1
  step ← step_of kind.0 kind.1
  Some (record { seat = seat.0; step = step; answer = answer.0 })
