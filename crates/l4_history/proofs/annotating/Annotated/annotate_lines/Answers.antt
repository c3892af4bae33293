use Rattle.std.proofs.Common.{ap, sym, refl, ◌∙◌, inl, inr}
use Rattle.l4_history.proofs.AnnotatedScript.{lines_none, lines_sent, lines_failed, lines_read, lines_end, lines_ran_out, lines_over, lines_on, tells_modes, ran_modes, kept_modes, none_is}
use Rattle.l4_history.proofs.annotating.Annotated.annotate_lines.Goals as goal

pub loop-line-init : goal.loop-line-init
loop-line-init g c = (lines_none _ _ _ _ _ _ _ _ _ (ap (λ p. p.0) c.new-lines.ensures), refl)

pub returns-then-has_failed : goal.returns-then-has_failed
returns-then-has_failed g c =
    lines_failed _ _ _ _ _ _ _ _ _ _ _ _ _ _ _ (lines_sent _ _ _ _ _ _ _ _ _ _ _ _ _ _ _ _ _ c.loop-line.invariant.0 c.send_before_line.ensures.told) (sym c.has_failed.ensures ∙ c.if-has_failed.true)

pub returns-in-Err : goal.returns-in-Err
returns-in-Err g c = lines_read _ _ _ _ _ _ _ _ _ _ _ _ _ _ _ _ _ _ (lines_sent _ _ _ _ _ _ _ _ _ _ _ _ _ _ _ _ _ c.loop-line.invariant.0 c.send_before_line.ensures.told) _ c.in-Err.ensures

pub returns-in_default : goal.returns-in_default
returns-in_default g c = lines_end _ _ _ _ _ _ _ _ _ _ _ _ _ _ _ _ _ _ (lines_sent _ _ _ _ _ _ _ _ _ _ _ _ _ _ _ _ _ c.loop-line.invariant.0 c.send_before_line.ensures.told) _ _ c.in-Ok.ensures c.in_default.is refl refl

pub returns-in-Err-annotate_line : goal.returns-in-Err-annotate_line
returns-in-Err-annotate_line g c =
    lines_ran_out _ _ _ _ _ _ _ _ _ _ _ _ _ _ _ _ _ _ (lines_sent _ _ _ _ _ _ _ _ _ _ _ _ _ _ _ _ _ c.loop-line.invariant.0 c.send_before_line.ensures.told)
    c.in-Some.ending _ _ _ c.in-Err-annotate_line.fault c.in-Ok.ensures c.in-Some.is
    (ran_modes c.args.self.now _ _ _ c.in-Some.ending _ _ _ c.in-Err-annotate_line.fault _ _ _ _ c.loop-line.invariant.1 c.line.ensures c.in-Err-annotate_line.ensures.err)

pub returns-then-is_some : goal.returns-then-is_some
returns-then-is_some g c =
    lines_over _ _ _ _ _ _ _ _ _ _ _ _ _ _ _ _ _ _ (lines_sent _ _ _ _ _ _ _ _ _ _ _ _ _ _ _ _ _ c.loop-line.invariant.0 c.send_before_line.ensures.told)
    _ _ _ _ _ c.in-Some.ending _ _ c.in-Ok.ensures c.in-Some.is (tells_modes c.args.self.now _ _ _ _ c.in-Some.ending _ _ _ _ _ _ _ _ _ c.loop-line.invariant.1 c.line.ensures c.in-Ok-annotate_line.ensures.ok)
    refl refl (inl (sym c.is_some.ensures ∙ c.if-is_some.true))

pub returns-then-eq : goal.returns-then-eq
returns-then-eq g c =
    lines_over _ _ _ _ _ _ _ _ _ _ _ _ _ _ _ _ _ _ (lines_sent _ _ _ _ _ _ _ _ _ _ _ _ _ _ _ _ _ c.loop-line.invariant.0 c.send_before_line.ensures.told)
    _ _ _ _ _ c.in-Some.ending _ _ c.in-Ok.ensures c.in-Some.is (tells_modes c.args.self.now _ _ _ _ c.in-Some.ending _ _ _ _ _ _ _ _ _ c.loop-line.invariant.1 c.line.ensures c.in-Ok-annotate_line.ensures.ok)
    refl (sym (none_is c.in-Ok-annotate_line.refused (sym c.is_some.ensures ∙ c.if-is_some.false))) (inr (sym c.if-eq.true ∙ c.eq.ensures))

pub loop-line-preserved : goal.loop-line-preserved
loop-line-preserved g c = (
  lines_on _ _ _ _ _ _ _ _ _ _ _ _ _ _ _ _ _ _ (lines_sent _ _ _ _ _ _ _ _ _ _ _ _ _ _ _ _ _ c.loop-line.invariant.0 c.send_before_line.ensures.told)
      _ _ _ _ _ c.in-Some.ending _ c.in-Ok.ensures c.in-Some.is (tells_modes c.args.self.now _ _ _ _ c.in-Some.ending _ _ _ _ _ _ _ _ _ c.loop-line.invariant.1 c.line.ensures c.in-Ok-annotate_line.ensures.ok)
      (none_is c.in-Ok-annotate_line.refused (sym c.is_some.ensures ∙ c.if-is_some.false)) (sym c.if-eq.false ∙ c.eq.ensures),
  kept_modes c.args.self.now _ _ c.loop-line.invariant.1 c.in-Ok-annotate_line.ensures.same,
)
