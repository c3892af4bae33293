use Rattle.l4_step_lines.proofs.Asking.{answers_step, answers_reply}
use Rattle.l4_step_lines.proofs.session.answer.Goals as goal

pub returns-in-Do : goal.returns-in-Do
returns-in-Do g c = answers_step _ _ _ _ _ _ _ _ c.in-Do.is c.do_step.ensures

pub returns-in-Reply : goal.returns-in-Reply
returns-in-Reply g c = answers_reply _ _ _ _ _ _ _ _ c.in-Reply.is c.reply.ensures c.tell_reply.ensures
