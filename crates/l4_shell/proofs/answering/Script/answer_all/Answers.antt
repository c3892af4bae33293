use Rattle.std.proofs.Common.{ap, sym, refl, ◌∙◌}
use Rattle.l4_shell.proofs.Lengthened.{line_longer}
use Rattle.l4_shell.proofs.HandingOut.{keeps_boot, keeps_line, keeps_between, keeps_lost, between_is}
use Rattle.l4_shell.proofs.Scripting.{answered_none, answered_read, answered_end, answered_cut, answered_on, answered_lost, answered_sent, answered_closed, after_line, same_bytes}
use Rattle.l4_shell.proofs.answering.Script.answer_all.Goals as goal

pub loop-number-init : goal.loop-number-init
loop-number-init g c = (
  answered_none g.S.Sink.has_told g.S.Sink.closed _ _ _ _ _ (ap (λ p. p.0) c.new-lines.ensures),
  (λ none. keeps_boot _ g.K.SegmentSink.has_kept _ _ none),
  refl,
)

pub returns-in-Err-clause-told : goal.returns-in-Err-clause-told
returns-in-Err-clause-told g c = answered_read g.S.Sink.has_told g.S.Sink.closed _ _ _ _ _ _ _ _ _ _ _ _ _ (answered_sent g.S.Sink.has_told g.S.Sink.closed _ _ _ _ _ _ _ _ _ _ c.loop-number.invariant.0 c.before_line.ensures) c.in-Err.ensures

pub returns-in_default-clause-told : goal.returns-in_default-clause-told
returns-in_default-clause-told g c = answered_end g.S.Sink.has_told g.S.Sink.closed _ _ _ _ _ _ _ _ _ _ _ _ _ (answered_sent g.S.Sink.has_told g.S.Sink.closed _ _ _ _ _ _ _ _ _ _ c.loop-number.invariant.0 c.before_line.ensures) c.in-Ok.ensures c.in_default.is

pub returns-then-is_closed-clause-told : goal.returns-then-is_closed-clause-told
returns-then-is_closed-clause-told g c =
    answered_closed g.S.Sink.has_told g.S.Sink.closed _ _ _ _ _ _ _ _ _ (answered_sent g.S.Sink.has_told g.S.Sink.closed _ _ _ _ _ _ _ _ _ _ c.loop-number.invariant.0 c.before_line.ensures) (sym c.if-is_closed.ensures)

pub returns-then-not-hand_out_between_lines-clause-told : goal.returns-then-not-hand_out_between_lines-clause-told
returns-then-not-hand_out_between_lines-clause-told g c =
    let lost = c.if-not-hand_out_between_lines.ensures.lost refl in
    answered_lost g.S.Sink.has_told g.S.Sink.closed (g.K.SegmentSink.takes c.args.segments.now) c.in-Some.ending _ _ _ _ _ _ _ _ _
    (after_line g.S.Sink.has_told g.S.Sink.closed (g.K.SegmentSink.takes c.args.segments.now) c.in-Some.ending _ _ _ _ _ _ _ _ _ _ _ _ _ _ _ refl (sym c.if-is_closed.ensures)
    (answered_sent g.S.Sink.has_told g.S.Sink.closed _ _ _ _ _ _ _ _ _ _ c.loop-number.invariant.0 c.before_line.ensures) c.in-Ok.ensures c.in-Some.is (same_bytes g.S.Sink.has_told _ _ _ _ _ _ _ _ c.line.ensures c.answer_line.ensures))
    (sym c.loop-number.invariant.2 ∙ lost.0) lost.1.0

pub returns-then-not-hand_out_between_lines-clause-kept : goal.returns-then-not-hand_out_between_lines-clause-kept
returns-then-not-hand_out_between_lines-clause-kept g c = λ none.
    let lost = c.if-not-hand_out_between_lines.ensures.lost refl in
    keeps_lost (g.K.SegmentSink.takes c.args.segments.now) g.K.SegmentSink.has_kept _ _ _ c.answer_line.new.self.session.kernel c.hand_out_between_lines.new.kernel c.answer_line.new.self.session.servers lost.1
    (keeps_line _ g.K.SegmentSink.has_kept _ _ _ _ (line_longer _ _ _ _ _ c.answer_line.ensures.1) (c.loop-number.invariant.1 none))

pub returns-then-eq-clause-told : goal.returns-then-eq-clause-told
returns-then-eq-clause-told g c =
    answered_cut g.S.Sink.has_told g.S.Sink.closed _ c.in-Some.ending _ _ _ _ _ _ _ _
    (after_line g.S.Sink.has_told g.S.Sink.closed (g.K.SegmentSink.takes c.args.segments.now) c.in-Some.ending _ _ _ _ _ _ _ _ _ _ _ _ _ _ _ (between_is (g.K.SegmentSink.takes c.args.segments.now) _ g.K.SegmentSink.has_kept _ _ _ _ _ _ c.loop-number.invariant.2 (c.if-not-hand_out_between_lines.ensures.kept refl)) (sym c.if-is_closed.ensures)
    (answered_sent g.S.Sink.has_told g.S.Sink.closed _ _ _ _ _ _ _ _ _ _ c.loop-number.invariant.0 c.before_line.ensures) c.in-Ok.ensures c.in-Some.is (same_bytes g.S.Sink.has_told _ _ _ _ _ _ _ _ c.line.ensures c.answer_line.ensures)) c.if-eq.ensures

pub returns-then-eq-clause-kept : goal.returns-then-eq-clause-kept
returns-then-eq-clause-kept g c = λ none.
    keeps_between _ _ g.K.SegmentSink.has_kept _ _ _ _ _ _ c.loop-number.invariant.2 (c.if-not-hand_out_between_lines.ensures.kept refl)
    (keeps_line _ g.K.SegmentSink.has_kept _ _ _ _ (line_longer _ _ _ _ _ c.answer_line.ensures.1) (c.loop-number.invariant.1 none))

pub loop-number-preserved : goal.loop-number-preserved
loop-number-preserved g c = (
  answered_on g.S.Sink.has_told g.S.Sink.closed _ c.in-Some.ending _ _ _ _ _ _ _ _
      (after_line g.S.Sink.has_told g.S.Sink.closed (g.K.SegmentSink.takes c.args.segments.now) c.in-Some.ending _ _ _ _ _ _ _ _ _ _ _ _ _ _ _ (between_is (g.K.SegmentSink.takes c.args.segments.now) _ g.K.SegmentSink.has_kept _ _ _ _ _ _ c.loop-number.invariant.2 (c.if-not-hand_out_between_lines.ensures.kept refl)) (sym c.if-is_closed.ensures)
      (answered_sent g.S.Sink.has_told g.S.Sink.closed _ _ _ _ _ _ _ _ _ _ c.loop-number.invariant.0 c.before_line.ensures) c.in-Ok.ensures c.in-Some.is (same_bytes g.S.Sink.has_told _ _ _ _ _ _ _ _ c.line.ensures c.answer_line.ensures)) c.if-eq.ensures,
  (λ none. keeps_between _ _ g.K.SegmentSink.has_kept _ _ _ _ _ _ c.loop-number.invariant.2 (c.if-not-hand_out_between_lines.ensures.kept refl)
      (keeps_line _ g.K.SegmentSink.has_kept _ _ _ _ (line_longer _ _ _ _ _ c.answer_line.ensures.1) (c.loop-number.invariant.1 none))),
  c.hand_out_between_lines.ensures.takes ∙ c.loop-number.invariant.2,
)
