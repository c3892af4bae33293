-- A call that was entered, as a script's text tells it. (this profile's own)
use Rattle.std.specs.Prelude.{◌≡◌, ℕ, ◌≤◌, List, ◌∷◌, ◌++◌, length, map, Ok}
use Rattle.l4_ipc.specs.declared.calls.Call.{Call}
use Rattle.l4_ipc.specs.declared.steps.Answer.{Answer}
use Rattle.l4_ipc.specs.declared.steps.Step.TheVariants.{Start}
use Rattle.l4_ipc.specs.Machine.{Machine}
use Rattle.l4_ipc.specs.Steps.{Steps, IsIdle}
use Rattle.l4_ipc.specs.Following.{Done, AreNext}
use Rattle.l4_record.specs.Segments.{kept_count}
use Rattle.l4_record.specs.Sizes.{max_steps}
use Rattle.l4_record.specs.Seated.{Seated, CanEnter}
use Rattle.l4_record.specs.Following.{start_entry}
use Rattle.l4_record.specs.declared.entries.Entry.{Entry}
use Rattle.l4_shell.specs.Sessions.{done_entry}

-- the entries of a call: its start, and the steps that came next
abbrev pub call_entries : ℕ → Call → Answer → List Done → List Entry
call_entries n call answer steps = start_entry n call answer ∷ map (done_entry n) steps

-- The call was entered: the history goes on by its start and by the steps that come next, each with the machine right after it.
pub record Entered (old new : Seated) (n : ℕ) (call : Call) : Type 0 where
  pub can : CanEnter (kept_count old.kept_from old.history) old.numbers n
  pub answer : Answer
  pub started : Machine
  pub starts : Steps old.machine (Start n call) (Ok answer) started
  pub steps : List Done
  pub next : AreNext started steps new.machine
  pub few : length steps ≤ max_steps
  pub idle : IsIdle new.machine
  pub history : new.history ≡ old.history ++ call_entries n call answer steps
  pub same : (new.numbers ≡ old.numbers) × (new.seen ≡ old.seen) × (new.kept_from ≡ old.kept_from)
