use Rattle.l4_plan_lines.proofs.PlanTexts.{one_plan_text}
use Rattle.l4_plan_lines.proofs.laws.plan_text_is_unique.Goals as goal

pub returns : goal.returns
returns c = one_plan_text
