-- What parts of carrying a line out do, and report to a sink.
use Rattle.std.specs.Prelude.{◌≡◌, ℕ, ◌≤◌, Bool, List, [], ◌∷◌, ◌++◌, length}
use Rattle.std.specs.List.{flat_map}
use Rattle.l4_ipc.specs.Machine.{Machine}
use Rattle.l4_ipc.specs.declared.calls.Call.{Call}
use Rattle.l4_ipc.specs.declared.steps.Answer.{Answer}
use Rattle.l4_ipc.specs.declared.steps.Step.{Step}
use Rattle.l4_ipc.specs.declared.steps.Step.TheVariants.{Start}
use Rattle.l4_ipc.specs.declared.steps.NextStep.{NextStep}
use Rattle.l4_ipc.specs.NextSteps.{step_of, answer_of}
use Rattle.l4_record.specs.declared.appended.Appended.{Appended}
use Rattle.l4_record.specs.declared.refusals.RecordRefusal.{RecordRefusal}
use Rattle.l4_record.specs.Segments.{kept_count}
use Rattle.l4_record.specs.Seated.{Seated, is_among, Refuses as RefusesCall}
use Rattle.l4_shell.specs.Inside.Entering.{Entered}
use Rattle.l4_answers.specs.Reports.{Report, RefusedLine, AddsAll}
use Rattle.l4_shell.specs.Refusals.{call_refusal}
use Rattle.l4_shell.specs.Sessions.{Session, ended_reports, done_reports, ended_in, waiting_reports, Act, steps_in, AreActs, most_acts, StopsActing}

-- what is told of a step with this answer, in the machine right after it
abbrev pub step_reports : Step → Answer → Machine → List Report
step_reports step answer new = done_reports (record { step = step; answer = answer; after = new })

-- what is told of a step that came next, where the replies of the calls that ended in it are read later
abbrev pub next_reports : Machine → NextStep → List Report
next_reports m next = step_reports (step_of next) (answer_of next) m

-- the threads whose calls ended in these steps
abbrev pub ended_later : List NextStep → List ℕ
ended_later steps = flat_map (λ next. (answer_of next).ended.items) steps

-- what a call appended was told; the thread's call ended in it or not
pub record TellsAppended {T : Type 0} (m : Machine) (appended : Appended) (thread : ℕ) (ended : Bool) (has_told : T → T → List Report → Type 0) (before after : T) : Type 0 where
  pub ended_is : ended ≡ is_among thread (appended.start.ended.items ++ ended_later appended.next.items)
  pub tells : AddsAll has_told before after (ended_reports m appended.start.ended.items ++ flat_map (next_reports m) appended.next.items)

-- a call was entered, and its start told and the steps that followed; another thread's call ended in one of them or not
pub record TellsCall {T : Type 0} (old : Seated) (caller : ℕ) (call : Call) (thread : ℕ) (ended : Bool) (new : Seated) (has_told : T → T → List Report → Type 0) (before after : T) : Type 0 where
  pub enters : Entered old new caller call
  pub ended_is : ended ≡ is_among thread (enters.answer.ended.items ++ ended_in enters.steps)
  pub tells : AddsAll has_told before after (step_reports (Start caller call) enters.answer enters.started ++ flat_map done_reports enters.steps)

-- a call was refused, and that told
pub record TellsRefusal {T : Type 0} (old : Seated) (line thread : ℕ) (call : Call) (new : Seated) (has_told : T → T → List Report → Type 0) (before after : T) : Type 0 where
  pub refusal : RecordRefusal
  pub refused : RefusesCall old.machine (kept_count old.kept_from old.history) old.numbers thread call refusal
  pub same : new ≡ old
  pub tells : AddsAll has_told before after (RefusedLine line (call_refusal refusal) ∷ [])

-- served threads acted until none does further, and that was told; the thread's call ended in one of the acts or not
pub record TellsActs {T : Type 0} (old : Session) (thread : ℕ) (ended : Bool) (new : Session) (has_told : T → T → List Report → Type 0) (before after : T) : Type 0 where
  pub acts : List Act
  pub between : Session
  pub are : AreActs old acts between
  pub few : length acts ≤ most_acts
  pub last : List Report
  pub stops : StopsActing between (length acts) last new
  pub ended_is : ended ≡ is_among thread (ended_in (steps_in acts))
  pub tells : AddsAll has_told before after (flat_map done_reports (steps_in acts) ++ last)

-- the same after a call of the thread in which the calls of these threads ended; the last report says that the thread's call has not ended
pub record GoesOn (old : Session) (thread : ℕ) (ended : List ℕ) (told : List Report) (new : Session) : Type 0 where
  pub acts : List Act
  pub between : Session
  pub are : AreActs old acts between
  pub few : length acts ≤ most_acts
  pub last : List Report
  pub stops : StopsActing between (length acts) last new
  pub told_is : told ≡ (flat_map done_reports (steps_in acts) ++ last) ++ waiting_reports thread (is_among thread (ended ++ ended_in (steps_in acts)))
