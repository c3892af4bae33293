use Rattle.std.proofs.Common.{ap}
use Rattle.l4_step_lines.proofs.Going.{answered_none, answered_read, answered_end, answered_on, answered_stop, answered_sent, first_of}
use Rattle.l4_step_lines.proofs.running.answer_all.Goals as goal

pub loop-number-init : goal.loop-number-init
loop-number-init g c = answered_none _ _ _ _ _ (ap (λ p. p.0) c.new-lines.ensures)

pub returns-then-has_failed : goal.returns-then-has_failed
returns-then-has_failed g c =
    first_of _ _ _ _ _ _ _ _ _ _ (answered_sent _ _ _ _ _ _ _ _ _ _ _ _ c.loop-number.invariant c.send_before_line.ensures.told)

pub returns-in-Err : goal.returns-in-Err
returns-in-Err g c = answered_read _ _ _ _ _ _ _ _ _ _ _ _ _ _ (answered_sent _ _ _ _ _ _ _ _ _ _ _ _ c.loop-number.invariant c.send_before_line.ensures.told) c.in-Err.ensures

pub returns-in_default : goal.returns-in_default
returns-in_default g c = answered_end _ _ _ _ _ _ _ _ _ _ _ _ _ _ (answered_sent _ _ _ _ _ _ _ _ _ _ _ _ c.loop-number.invariant c.send_before_line.ensures.told) c.in-Ok.ensures c.in_default.is

pub returns-in-Err-answer_line : goal.returns-in-Err-answer_line
returns-in-Err-answer_line g c =
    answered_stop c.in-Some.ending _ _ _ _ _ _ _ _ _ _ _ _ _ _ _ _ _ _ _ (answered_sent _ _ _ _ _ _ _ _ _ _ _ _ c.loop-number.invariant c.send_before_line.ensures.told) c.in-Ok.ensures c.in-Some.is c.line.ensures c.in-Err-answer_line.ensures

pub loop-number-preserved : goal.loop-number-preserved
loop-number-preserved g c =
    answered_on c.in-Some.ending _ _ _ _ _ _ _ _ _ _ _ _ _ _ _ _ _ _ (answered_sent _ _ _ _ _ _ _ _ _ _ _ _ c.loop-number.invariant c.send_before_line.ensures.told) c.in-Ok.ensures c.in-Some.is c.line.ensures c.in-Ok-answer_line.ensures
