use Rattle.l4_text.proofs.Telling.{all_out, some_out}
use Rattle.l4_plan_lines.proofs.FoundLemmas.{answered}
use Rattle.l4_plan_lines.proofs.checking.answer_lines.Goals as goal

pub returns-in-Ok-finish-clause-ok : goal.returns-in-Ok-finish-clause-ok
returns-in-Ok-finish-clause-ok g c = (
  c.answer_text.result,
  answered _ _ _ _ _ _ _ c.in-Ok.ensures.ok c.answer_input-answer.ensures c.answer_text.ensures,
  all_out _ _ _ _ _ _ c.new-out.ensures c.put.ensures c.in-Ok-finish.ensures.ok,
)

pub returns-in-Err-finish-clause-write : goal.returns-in-Err-finish-clause-write
returns-in-Err-finish-clause-write g c e = (
  c.answer_input-answer.result,
  c.answer_text.result,
  answered _ _ _ _ _ _ _ c.in-Ok.ensures.ok c.answer_input-answer.ensures c.answer_text.ensures,
  some_out _ _ _ _ _ _ c.new-out.ensures c.put.ensures c.in-Err-finish.ensures.err.1,
)
