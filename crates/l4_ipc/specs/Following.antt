-- Next steps, one after another, as a loop over `enabled` executes them (this profile's own).
use Rattle.std.specs.Prelude.{◌≡◌, List, [], ◌∷◌, Ok}
use Rattle.l4_ipc.specs.declared.steps.Step.{Step}
use Rattle.l4_ipc.specs.declared.steps.Answer.{Answer}
use Rattle.l4_ipc.specs.Machine.{Machine}
use Rattle.l4_ipc.specs.Steps.{Steps, IsNext}

-- an executed step, its answer, and the machine right after it
pub record Done : Type 0 where
  pub step : Step
  pub answer : Answer
  pub after : Machine

-- these steps were executed in order, each as the next step, and lead from old to new
abbrev pub AreNext : Machine → List Done → Machine → Type 0
AreNext old [] new = new ≡ old
AreNext old (done ∷ rest) new =
    IsNext old done.step × Steps old done.step (Ok done.answer) done.after × AreNext done.after rest new
