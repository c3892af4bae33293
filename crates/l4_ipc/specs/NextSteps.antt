-- Answers: of a start in which no other thread's call ended, and of next steps, without a list of threads (this profile's own).
use Rattle.std.specs.Prelude.{ℕ, Bool, [], ◌∷◌, ◌++◌, Result, Ok, Err}
use Rattle.l4_ipc.specs.declared.steps.Answer.{Answer}
use Rattle.l4_ipc.specs.declared.steps.NextStep.{NextStep}
use Rattle.l4_ipc.specs.declared.steps.NextStep.TheVariants.{Transfer as Transferred, Expire as Expires}
use Rattle.l4_ipc.specs.declared.steps.Outcome.{Outcome}
use Rattle.l4_ipc.specs.declared.steps.Outcome.TheVariants.{Started, Expired, Canceled}
use Rattle.l4_ipc.specs.declared.steps.Refused.{Refused}
use Rattle.l4_ipc.specs.declared.steps.Step.{Step}
use Rattle.l4_ipc.specs.declared.steps.Step.TheVariants.{Transfer, Expire}
use Rattle.l4_phases.specs.Phases.{ended_if}

-- the step
abbrev pub step_of : NextStep → Step
step_of (Transferred sender receiver outcome ends) = Transfer sender receiver
step_of (Expires n) = Expire n

-- the answer of a step that ends the wait of one thread
abbrev pub wait_answer : Outcome → ℕ → Answer
wait_answer outcome n = record { outcome = outcome; ended = record { items = n ∷ [] } }

-- its answer; in a transfer the receiver's call ended, and before it the sender's if `ends` is true
abbrev pub answer_of : NextStep → Answer
answer_of (Transferred sender receiver outcome ends) = record { outcome = outcome; ended = record { items = ended_if ends sender ++ receiver ∷ [] } }
answer_of (Expires n) = wait_answer Expired n

-- the result of a step that ends the wait of one thread: its answer, or its refusal
abbrev pub wait_result : Outcome → ℕ → Result (Unit {0}) Refused → Result Answer Refused
wait_result outcome n (Ok done) = Ok (wait_answer outcome n)
wait_result outcome n (Err e) = Err e

-- the answer of a wait that was canceled, and the result of a Cancel
abbrev pub cancel_answer : ℕ → Answer
cancel_answer n = wait_answer Canceled n

abbrev pub canceled_if : ℕ → Result (Unit {0}) Refused → Result Answer Refused
canceled_if n result = wait_result Canceled n result

-- the result of an Expire
abbrev pub expired_if : ℕ → Result (Unit {0}) Refused → Result Answer Refused
expired_if n result = wait_result Expired n result

-- the answer of a start in which this thread's call ended, or none did
abbrev pub own_answer : Bool → ℕ → Answer
own_answer ended n = record { outcome = Started; ended = record { items = ended_if ended n } }
