use Rattle.std.proofs.Common.{length, sym, ◌∙◌}
use Rattle.l4_answers.proofs.AnswerTexts.{some_left}
use Rattle.l4.proofs.Unordered.{unordered_here, unordered_later}
use Rattle.l4.proofs.kinds.has_unordered.Goals as goal

pub returns-then-is_unordered : goal.returns-then-is_unordered
returns-then-is_unordered c =
    unordered_here c.args.text.now c.loop-rest.rest.now _ c.loop-rest.invariant (some_left (length c.loop-rest.rest.now) _ c.is_empty.ensures c.loop-rest-test.true) c.first_line.ensures
    (sym c.is_unordered.ensures ∙ c.if-is_unordered.true)

pub loop-rest-preserved : goal.loop-rest-preserved
loop-rest-preserved c =
    unordered_later c.args.text.now c.loop-rest.rest.now _ c.later_lines-rest.result.now c.loop-rest.invariant (some_left (length c.loop-rest.rest.now) _ c.is_empty.ensures c.loop-rest-test.true) c.first_line.ensures
    (sym c.is_unordered.ensures ∙ c.if-is_unordered.false) c.later_lines-rest.ensures
