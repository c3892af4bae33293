-- The effects and results of calls from C (this profile's own).
use Rattle.std.specs.Prelude.{◌≡◌, ◌⊎◌, ℕ, ◌<◌, ◌≤◌, List, [], ◌∷◌, length, codes, Option, None, Some, Result, Ok, Err}
use Rattle.l4_fpage.specs.Pages.{max_frames}
use Rattle.l4_fpage.specs.declared.sizes.PageSize.{PageSize}
use Rattle.l4_threads.specs.Sizes.{max_threads}
use Rattle.l4_ipc.specs.Machine.{Machine, IsBoot}
use Rattle.l4_ipc.specs.Steps.{Steps, IsNext, IsIdle}
use Rattle.l4_ipc.specs.declared.calls.Call.{Call}
use Rattle.l4_ipc.specs.declared.steps.Step.TheVariants.{Start}
use Rattle.l4_ipc.specs.declared.steps.Refused.{Refused}
use Rattle.l4_ipc.specs.declared.steps.Answer.{Answer}
use Rattle.l4_ipc.specs.declared.steps.Step.{Step}
use Rattle.l4_ipc.specs.Following.{Done, AreNext}
use Rattle.l4_c_values.specs.Called.{IsCall, IsNoCall}
use Rattle.l4_refusals.specs.Texts.{spelled}
use Rattle.l4_c_values.specs.Told.{refusal_result, answer_result, step_result, no_step_result, next_result, done_result}
use Rattle.l4_c_values.specs.declared.calls.CallGiven.{CallGiven}
use Rattle.l4_c_values.specs.declared.results.EnterResult.{EnterResult}
use Rattle.l4_c_values.specs.declared.results.NextResult.{NextResult}
use Rattle.l4_c_values.specs.declared.results.StepResult.{StepResult}

-- the handle's kernel executes the step, and the result reports its answer; an empty handle is refused (B1)
abbrev pub Answers : Option Machine → Step → StepResult → Option Machine → Type 0
Answers None step r new = (r ≡ refusal_result (spelled (codes "B1")) 0) × (new ≡ None)
Answers (Some old) step r new =
    (given : Result Answer Refused) × (after : Machine) × Steps old step given after × (r ≡ step_result given) × (new ≡ Some after)

-- An empty handle then holds a kernel in its boot state with pages of this size, unless the number of frames is not 1 to 4,096 (K6) or an
-- allocation failed. A handle that is not empty is refused (B2) and unchanged.
abbrev pub Boots : Option Machine → PageSize → ℕ → ℕ → Option Machine → Type 0
Boots (Some old) size frames number new = (number ≡ spelled (codes "B2")) × (new ≡ Some old)
Boots None size frames number new =
    ((m : Machine) × IsBoot frames m × (m.size ≡ size) × (number ≡ 0) × (new ≡ Some m))
    ⊎ (((frames ≡ 0) ⊎ (max_frames < frames)) × (number ≡ spelled (codes "K6")) × (new ≡ None))
    ⊎ ((1 ≤ frames) × (frames ≤ max_frames) × (number ≡ spelled (codes "NoMemory")) × (new ≡ None))

-- a thread of the handle's kernel starts the call that C passed; an empty handle is refused first (B1), and then an unknown kind of call
-- (B3)
abbrev pub Starts : Option Machine → ℕ → CallGiven → List ℕ → StepResult → Option Machine → Type 0
Starts None thread g words r new = (r ≡ refusal_result (spelled (codes "B1")) 0) × (new ≡ None)
Starts (Some old) thread g words r new =
    (IsNoCall g × (r ≡ refusal_result (spelled (codes "B3")) 0) × (new ≡ Some old))
    ⊎ ((call : Call) × IsCall g words call × Answers (Some old) (Start thread call) r new)

-- the next step, or none if no step is enabled
abbrev pub Names : Option Machine → NextResult → Type 0
Names None r = r ≡ no_step_result (spelled (codes "B1"))
Names (Some m) r = ((r ≡ no_step_result 0) × IsIdle m) ⊎ ((step : Step) × IsNext m step × (r ≡ next_result step))

-- the next step is executed, if one is enabled
abbrev pub GoesOn : Option Machine → NextResult → Option Machine → Type 0
GoesOn None r new = (r ≡ no_step_result (spelled (codes "B1"))) × (new ≡ None)
GoesOn (Some old) r new =
    ((r ≡ no_step_result 0) × IsIdle old × (new ≡ Some old))
    ⊎ ((step : Step) × (answer : Answer) × (after : Machine)
    × IsNext old step × Steps old step (Ok answer) after × (r ≡ done_result step answer) × (new ≡ Some after))

-- As many of the executed steps as fit are written in order. The places after them are unchanged.
abbrev pub noted : List Done → List NextResult → List NextResult
noted [] places = places
noted (done ∷ dones) [] = []
noted (done ∷ dones) (place ∷ places) = done_result done.step done.answer ∷ noted dones places

-- The next step is executed until no step is enabled. The steps are at most as many as there can be threads; they are counted and written.
pub record Follows (old : Machine) (places : List NextResult) (count : ℕ) (written : List NextResult) (new : Machine) : Type 0 where
  pub dones : List Done
  pub next : AreNext old dones new
  pub idle : IsIdle new
  pub counted : count ≡ length dones
  pub few : count ≤ max_threads
  pub steps : written ≡ noted dones places

-- The call that C passed is started, and then the next step is executed until no step is enabled. If the call is refused, nothing changes
-- and nothing is written.
abbrev pub Goes : Machine → ℕ → CallGiven → List ℕ → List NextResult → EnterResult → List NextResult → Machine → Type 0
Goes old thread g words places r written new =
    (IsNoCall g × (r ≡ record { start = refusal_result (spelled (codes "B3")) 0; step_count = 0 }) × (written ≡ places) × (new ≡ old))
    ⊎ ((call : Call) × IsCall g words call
    × (((e : Refused) × Steps old (Start thread call) (Err e) new × (r ≡ record { start = step_result (Err e); step_count = 0 }) × (written ≡ places))
    ⊎ ((answer : Answer) × (started : Machine) × Steps old (Start thread call) (Ok answer) started × (r.start ≡ answer_result answer)
    × Follows started places r.step_count written new)))

-- the same for a handle, which is refused if it is empty (B1)
abbrev pub Enters : Option Machine → ℕ → CallGiven → List ℕ → List NextResult → EnterResult → List NextResult → Option Machine → Type 0
Enters None thread g words places r written new =
    (r ≡ record { start = refusal_result (spelled (codes "B1")) 0; step_count = 0 }) × (written ≡ places) × (new ≡ None)
Enters (Some old) thread g words places r written new = (after : Machine) × Goes old thread g words places r written after × (new ≡ Some after)
