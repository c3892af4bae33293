use Rattle.std.proofs.Common.{sym, subst, ◌∙◌}
use Rattle.l4_record.specs.Seated.{Seated}
use Rattle.l4_shell.specs.Inside.Scripts.{HasFirstSeats}
use Rattle.l4_shell.proofs.Scripting.{runs_on, runs_not, first_is}
use Rattle.l4_shell.proofs.running.run.Goals as goal

pub returns-in-Ok : goal.returns-in-Ok
returns-in-Ok g c =
    let has = subst (λ (k : Seated). HasFirstSeats c.args.frames c.args.size k) (sym c.new-script.ensures.0) c.in-Some.ensures in
    runs_on g.S.Sink.has_told g.S.Sink.is_out g.S.Sink.closed (g.K.SegmentSink.takes c.args.segments.now) g.K.SegmentSink.has_kept _ _ _ _ _ _ _ _ _ _ _ _ _ _ _ _ _ _ c.answer_all-answered.result c.hand_out_rest-ended.result
    has.0 has.4 (first_is _ _ _ _ _ has (c.new-script.ensures.1 ∙ c.new.ensures) c.new-script.ensures.2) c.answer_all-answered.ensures.told c.in-Ok.ensures.ok c.in-Ok.ensures.same
    (c.answer_all-answered.ensures.kept has.5) c.answer_all-answered.ensures.takes c.hand_out_rest-ended.ensures

pub returns : goal.returns
returns g c =
    let has = subst (λ (k : Seated). HasFirstSeats c.args.frames c.args.size k) (sym c.new-script.ensures.0) c.in-Some.ensures in
    runs_not g.S.Sink.has_told g.S.Sink.is_out g.S.Sink.closed (g.K.SegmentSink.takes c.args.segments.now) g.K.SegmentSink.has_kept _ _ _ _ _ _ _ _ _ _ _ _ _ _ _ _ _ _ c.answer_all-answered.result c.hand_out_rest-ended.result
    has.0 has.4 (first_is _ _ _ _ _ has (c.new-script.ensures.1 ∙ c.new.ensures) c.new-script.ensures.2) c.answer_all-answered.ensures.told c.in-Err.ensures.err.1
    (c.answer_all-answered.ensures.kept has.5) c.answer_all-answered.ensures.takes c.hand_out_rest-ended.ensures
