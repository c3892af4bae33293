use Rattle.l4_plan_lines.proofs.SameAnswers.{one_answer}
use Rattle.l4_plan_lines.proofs.laws.answer_is_unique.Goals as goal

pub returns : goal.returns
returns c = one_answer
