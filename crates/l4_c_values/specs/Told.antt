-- Results as C gets them (this profile's own).
use Rattle.std.specs.Prelude.{ℕ, ◌-◌, List, [], ◌++◌, length, min, replicate, Option, None, Some, Result, Ok, Err}
use Rattle.l4_ipc.specs.declared.steps.Refused.{Refused}
use Rattle.l4_ipc.specs.declared.steps.Answer.{Answer}
use Rattle.l4_ipc.specs.declared.steps.Step.{Step}
use Rattle.l4_ipc.specs.declared.steps.Step.TheVariants.{Start, Transfer, Expire, Cancel}
use Rattle.l4_ipc.specs.declared.steps.Outcome.{Outcome}
use Rattle.l4_ipc.specs.declared.steps.Outcome.TheVariants.{Started, Done, NoWindow, Entangled, NoMemory, Expired, Canceled}
use Rattle.l4_answers.specs.Refusals.{kernel_refusal}
use Rattle.l4_refusals.specs.Texts.{spelled}
use Rattle.l4_c_values.specs.declared.results.StepResult.{StepResult}
use Rattle.l4_c_values.specs.declared.results.NextResult.{NextResult}
use Rattle.l4_c_values.specs.declared.results.PageResult.{PageResult}

-- the number that a refusal carries, or 0
abbrev pub carried : Option ℕ → ℕ
carried None = 0
carried (Some number) = number

-- a place as `detail` has it: the greatest number of `detail` if the place is greater
abbrev pub told_place : ℕ → ℕ
told_place place = min place 0xffffffff

-- this number of places: the numbers, and zeros after them
abbrev pub filled : ℕ → List ℕ → List ℕ
filled places numbers = numbers ++ replicate (places - length numbers) 0

abbrev pub outcome_number : Outcome → ℕ
outcome_number Started = 1
outcome_number Done = 2
outcome_number NoWindow = 3
outcome_number Entangled = 4
outcome_number NoMemory = 5
outcome_number Expired = 6
outcome_number Canceled = 7

-- a refusal, without an outcome
abbrev pub refusal_result : ℕ → ℕ → StepResult
refusal_result code number = record { refusal = code; detail = number; outcome = 0; ended_count = 0; ended = filled 64 []; reserved = filled 2 [] }

-- an answer: its outcome, and the threads whose calls ended
abbrev pub answer_result : Answer → StepResult
answer_result answer = record {
  refusal = 0;
  detail = 0;
  outcome = outcome_number answer.outcome;
  ended_count = length answer.ended.items;
  ended = filled 64 answer.ended.items;
  reserved = filled 2 [];
}

-- the result of a step: its answer, or its refusal
abbrev pub step_result : Result Answer Refused → StepResult
step_result (Ok answer) = answer_result answer
step_result (Err e) = refusal_result (spelled (kernel_refusal e).name) (carried (kernel_refusal e).number)

abbrev pub kind_of : Step → ℕ
kind_of (Start n call) = 0
kind_of (Transfer sender receiver) = 1
kind_of (Expire n) = 2
kind_of (Cancel n cause) = 0

abbrev pub thread_of : Step → ℕ
thread_of (Start n call) = 0
thread_of (Transfer sender receiver) = sender
thread_of (Expire n) = n
thread_of (Cancel n cause) = 0

abbrev pub receiver_of : Step → ℕ
receiver_of (Start n call) = 0
receiver_of (Transfer sender receiver) = receiver
receiver_of (Expire n) = 0
receiver_of (Cancel n cause) = 0

-- no next step; the code is a refusal, or 0
abbrev pub no_step_result : ℕ → NextResult
no_step_result code = record { refusal = code; kind = 0; thread = 0; receiver = 0; outcome = 0; ended_count = 0; ended = filled 2 []; reserved = filled 2 [] }

-- the next step, which is never a Start
abbrev pub next_result : Step → NextResult
next_result step = record {
  refusal = 0;
  kind = kind_of step;
  thread = thread_of step;
  receiver = receiver_of step;
  outcome = 0;
  ended_count = 0;
  ended = filled 2 [];
  reserved = filled 2 [];
}

-- a next step that was executed, and its outcome
abbrev pub done_result : Step → Answer → NextResult
done_result step answer = record {
  refusal = 0;
  kind = kind_of step;
  thread = thread_of step;
  receiver = receiver_of step;
  outcome = outcome_number answer.outcome;
  ended_count = length answer.ended.items;
  ended = filled 2 answer.ended.items;
  reserved = filled 2 [];
}

-- no page; the code is a refusal, or 0
abbrev pub no_page_result : ℕ → PageResult
no_page_result code = record { refusal = code; there = 0; page = 0 }

abbrev pub page_result : ℕ → PageResult
page_result page = record { refusal = 0; there = 1; page = page }
