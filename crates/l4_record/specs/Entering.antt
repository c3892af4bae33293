-- A call that was entered, and what it appended to the history (this profile's own).
use Rattle.std.specs.Prelude.{◌≡◌, ℕ, ◌≤◌, [], ◌∷◌, ◌++◌, length, map, Ok}
use Rattle.l4_ipc.specs.declared.calls.Call.{Call}
use Rattle.l4_ipc.specs.declared.steps.CancelCause.{CancelCause}
use Rattle.l4_ipc.specs.declared.steps.Step.TheVariants.{Start, Cancel}
use Rattle.l4_ipc.specs.Machine.{Machine}
use Rattle.l4_ipc.specs.NextSteps.{cancel_answer}
use Rattle.l4_ipc.specs.Steps.{Steps, IsIdle}
use Rattle.l4_record.specs.declared.appended.Appended.{Appended}
use Rattle.l4_record.specs.Following.{Lasts, ComeNext, start_entry, next_entry, cancel_entry}
use Rattle.l4_record.specs.Seated.{Seated, CanEnter}
use Rattle.l4_record.specs.Segments.{kept_count}
use Rattle.l4_record.specs.Sizes.{max_steps, last_start}

-- The call was entered. Its start, and the next steps until no step is enabled, at most 128, were appended to the history. The replies of
-- all calls that ended in these steps can still be read.
pub record Enters (old new : Seated) (n : ℕ) (call : Call) (appended : Appended) : Type 0 where
  pub can : CanEnter (kept_count old.kept_from old.history) old.numbers n
  pub started : Machine
  pub starts : Steps old.machine (Start n call) (Ok appended.start) started
  pub lasts : Lasts new.machine started appended.start
  pub next : ComeNext started appended.next.items new.machine
  pub few : length appended.next.items ≤ max_steps
  pub idle : IsIdle new.machine
  pub history : new.history ≡ old.history ++ start_entry n call appended.start ∷ map (next_entry n) appended.next.items
  pub same : (new.numbers ≡ old.numbers) × (new.seen ≡ old.seen) × (new.kept_from ≡ old.kept_from)

-- The wait of the thread was canceled, and this step was appended to the history. The reply of the call that ended can still be read, and
-- no step is enabled.
pub record Cancels (old new : Seated) (n : ℕ) (cause : CancelCause) : Type 0 where
  pub room : kept_count old.kept_from old.history ≤ last_start
  pub steps : Steps old.machine (Cancel n cause) (Ok (cancel_answer n)) new.machine
  pub idle : IsIdle new.machine
  pub history : new.history ≡ old.history ++ cancel_entry n cause ∷ []
  pub same : (new.numbers ≡ old.numbers) × (new.seen ≡ old.seen) × (new.kept_from ≡ old.kept_from)
