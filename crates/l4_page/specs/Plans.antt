-- The results of plans and checks (this profile's own).
use Rattle.std.specs.Prelude.{◌⊎◌, ℕ, Bool, List, Some, codes}
use Rattle.l4_fpage.specs.declared.sizes.PageSize.{PageSize}
use Rattle.l4_msg.specs.declared.regions.Region.{Region}
use Rattle.l4_plan_lines.specs.Answers.{Answered, is_proved}
use Rattle.l4_plan_lines.specs.declared.answers.Answer.{Answer as Verdict}
use Rattle.l4_plan_lines.specs.Plans.{IsPlanText}
use Rattle.l4_page.specs.declared.telling.Told.{Told as Answer}
use Rattle.l4_page.specs.Told.{IsTold, TellsNothing}

abbrev pub TellsPlan : PageSize → Region → List ℕ → List ℕ → Answer → Type 0
TellsPlan size r old new told =
    ((found : Bool) × (text : List ℕ) × IsPlanText size r found text × IsTold text found 0 old new told)
    ⊎ TellsNothing (codes "NoMemory") old new told

abbrev pub TellsCheck : PageSize → Region → List ℕ → List ℕ → List ℕ → Answer → Type 0
TellsCheck size r claim old new told =
    ((rest : List ℕ) × (verdict : Verdict) × (text : List ℕ) × Answered size r (Some claim) (Some rest) verdict text × IsTold text (is_proved verdict) 0 old new told)
    ⊎ TellsNothing (codes "NoMemory") old new told
