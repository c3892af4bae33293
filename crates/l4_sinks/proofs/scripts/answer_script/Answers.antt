use Rattle.std.proofs.Common.{◌∙◌}
use Rattle.l4_sinks.proofs.Running.{runs_ok, runs_err}
use Rattle.l4_sinks.proofs.scripts.answer_script.Goals as goal

pub returns-in-Ok : goal.returns-in-Ok
returns-in-Ok g c =
    runs_ok g.W.Write.contents _ g.K.SegmentSink.has_kept _ _ _ _ _ _ _ _ _ _ _ _ _ _
    (record { writer_is = c.new-teller.ensures.writer; out_is = c.new-teller.ensures.out; explains_is = c.new-teller.ensures.explains ∙ c.explains_by.ensures; strict_is = c.new-teller.ensures.strict; refused_is = c.new-teller.ensures.refused })
    c.in-Ok.is c.into_parts-answers.ensures.refused c.into_parts-answers.ensures.writer c.run-answered.ensures

pub returns-in-Err : goal.returns-in-Err
returns-in-Err g c =
    runs_err g.W.Write.contents _ g.K.SegmentSink.has_kept _ _ _ _ _ _ _ _ _ _ _ _ _ _
    (record { writer_is = c.new-teller.ensures.writer; out_is = c.new-teller.ensures.out; explains_is = c.new-teller.ensures.explains ∙ c.explains_by.ensures; strict_is = c.new-teller.ensures.strict; refused_is = c.new-teller.ensures.refused })
    c.in-Err.is c.into_parts-answers.ensures.writer c.run-answered.ensures
