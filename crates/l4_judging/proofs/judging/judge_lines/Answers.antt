use Rattle.std.proofs.Common.{ap, sym, ◌∙◌}
use Rattle.l4_judging.proofs.JudgedLines.{so_far_none, so_far_sent, so_far_on, stops_early, stops_write, stops_read, ends_all, ends_by, ends_at}
use Rattle.l4_judging.proofs.judging.judge_lines.Goals as goal

pub loop-number-init : goal.loop-number-init
loop-number-init g c = so_far_none _ _ _ _ _ _ c.requires (ap (λ p. p.0) c.new-lines.ensures)

pub returns-then-stops : goal.returns-then-stops
returns-then-stops g c = stops_early _ _ _ _ _ _ _ _ _ _ _ _ _ _ _ _ c.loop-number.invariant (sym c.stops.ensures ∙ c.if-stops.true) c.end_early.ensures

pub returns-then-has_failed : goal.returns-then-has_failed
returns-then-has_failed g c = stops_write _ _ _ _ _ _ _ _ _ _ _ _ (so_far_sent _ _ _ _ _ _ _ _ _ _ _ _ _ _ c.loop-number.invariant c.send_before_line.ensures.told)

pub returns-in-Err : goal.returns-in-Err
returns-in-Err g c = stops_read _ _ _ _ _ _ _ _ _ _ _ _ _ _ _ _ (so_far_sent _ _ _ _ _ _ _ _ _ _ _ _ _ _ c.loop-number.invariant c.send_before_line.ensures.told) c.in-Err.ensures

pub returns-in_default : goal.returns-in_default
returns-in_default g c =
    ends_all c.judge_end.result _ _ _ _ _ _ _ _ _ _ _ _ _ _ _ _ _ _ (so_far_sent _ _ _ _ _ _ _ _ _ _ _ _ _ _ c.loop-number.invariant c.send_before_line.ensures.told) c.in-Ok.ensures c.in_default.is (sym c.stops.ensures ∙ c.if-stops.false) c.judge_end.ensures

pub returns-in-Err-check_ending : goal.returns-in-Err-check_ending
returns-in-Err-check_ending g c =
    ends_by _ _ _ _ _ _ _ _ _ _ _ _ _ _ _ _ c.in-Some.ending _ (so_far_sent _ _ _ _ _ _ _ _ _ _ _ _ _ _ c.loop-number.invariant c.send_before_line.ensures.told) c.in-Ok.ensures c.in-Some.is (sym c.stops.ensures ∙ c.if-stops.false) c.in-Err-check_ending.ensures

pub returns-in-Err-judge_line : goal.returns-in-Err-judge_line
returns-in-Err-judge_line g c =
    ends_at _ _ _ _ _ _ _ _ _ _ c.judge_line.new.kernel _ c.judge_line.new.judged _ _ _ _ _ _ _ c.in-Some.ending _ _ (so_far_sent _ _ _ _ _ _ _ _ _ _ _ _ _ _ c.loop-number.invariant c.send_before_line.ensures.told) c.in-Ok.ensures c.in-Some.is c.in-Ok-check_ending.ensures
    (sym c.stops.ensures ∙ c.if-stops.false) c.line.ensures c.in-Err-judge_line.ensures

pub loop-number-preserved : goal.loop-number-preserved
loop-number-preserved g c =
    so_far_on _ _ _ _ _ _ _ _ _ _ _ _ _ _ _ _ _ _ _ _ c.in-Some.ending _ (so_far_sent _ _ _ _ _ _ _ _ _ _ _ _ _ _ c.loop-number.invariant c.send_before_line.ensures.told) c.in-Ok.ensures c.in-Some.is c.in-Ok-check_ending.ensures (sym c.stops.ensures ∙ c.if-stops.false) c.line.ensures c.in-Ok-judge_line.ensures
