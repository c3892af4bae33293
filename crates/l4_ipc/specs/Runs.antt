-- Runs of steps, each from the state that the step before it left (this profile's own).
use Rattle.std.specs.Prelude.{◌≡◌, List, [], ◌∷◌, Result}
use Rattle.l4_ipc.specs.declared.steps.Step.{Step}
use Rattle.l4_ipc.specs.declared.steps.Answer.{Answer}
use Rattle.l4_ipc.specs.declared.steps.Refused.{Refused}
use Rattle.l4_ipc.specs.Machine.{Machine}
use Rattle.l4_ipc.specs.Steps.{Steps}

-- from old, the steps may have these answers and refusals, and lead to new
abbrev pub Run : Machine → List Step → List (Result Answer Refused) → Machine → Type 0
Run old [] [] new = new ≡ old
Run old (step ∷ steps) (answer ∷ answers) new = (between : Machine) × Steps old step answer between × Run between steps answers new
Run old steps answers new = ⊥
