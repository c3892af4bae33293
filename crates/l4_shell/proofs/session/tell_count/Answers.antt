use Rattle.std.proofs.Common.{[], ◌∷◌, ap, refl, rules}
use Rattle.l4_answers.specs.Reports.{StepCount}
use Rattle.l4_record.specs.Seated.{Seated}
use Rattle.l4_shell.specs.Sessions.{session}
use Rattle.l4_shell.proofs.session.tell_count.Goals as goal

pub returns : goal.returns
returns g c = λ s. (
  StepCount c.steps-count.result ∷ [],
  (c.steps-count.result, c.steps-count.ensures.rises, search rules, refl, ap (λ (k : Seated). session k s) c.steps-count.ensures.seen),
  c.steps.ensures,
)
