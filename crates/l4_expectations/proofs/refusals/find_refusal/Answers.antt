use Rattle.std.proofs.Common.{length, sym, ap, ◌∙◌}
use Rattle.l4_answers.proofs.AnswerTexts.{some_left}
use Rattle.l4_expectations.specs.Expectations.{is_refusal}
use Rattle.l4_expectations.proofs.Refusing.{refusal_here, refusal_later}
use Rattle.l4_expectations.proofs.refusals.find_refusal.Goals as goal

pub returns-then-is_refusal : goal.returns-then-is_refusal
returns-then-is_refusal c =
    refusal_here c.args.left.now c.loop-left.left c.loop-left.invariant (some_left (length c.loop-left.left) _ c.is_empty.ensures c.loop-left-test.true)
    (ap is_refusal (sym c.first.ensures) ∙ sym c.is_refusal.ensures ∙ c.if-is_refusal.true)

pub loop-left-preserved : goal.loop-left-preserved
loop-left-preserved c =
    refusal_later c.args.left.now c.loop-left.left c.go_on.new.self c.loop-left.invariant (some_left (length c.loop-left.left) _ c.is_empty.ensures c.loop-left-test.true)
    (ap is_refusal (sym c.first.ensures) ∙ sym c.is_refusal.ensures ∙ c.if-is_refusal.false) c.go_on.ensures
