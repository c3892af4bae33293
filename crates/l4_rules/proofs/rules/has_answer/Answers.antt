use Rattle.std.proofs.Common.{length, sym, ◌∙◌}
use Rattle.l4_text.specs.Tokens.{tokens_of}
use Rattle.l4_answers.proofs.AnswerTexts.{some_left}
use Rattle.l4_rules.specs.Tokens.{same_tokens}
use Rattle.l4_rules.proofs.Lines.{line_here, line_later}
use Rattle.l4_rules.proofs.rules.has_answer.Goals as goal

pub returns-then-has_same_tokens : goal.returns-then-has_same_tokens
returns-then-has_same_tokens c =
    line_here (λ line. same_tokens c.args.names.now (tokens_of c.args.answer.now) (tokens_of line)) c.args.outcome.now c.loop-rest.rest.now _ c.loop-rest.invariant (some_left (length c.loop-rest.rest.now) _ c.is_empty.ensures c.loop-rest-test.true) c.first_line.ensures
    (sym c.has_same_tokens.ensures ∙ c.if-has_same_tokens.true)

pub loop-rest-preserved : goal.loop-rest-preserved
loop-rest-preserved c =
    line_later (λ line. same_tokens c.args.names.now (tokens_of c.args.answer.now) (tokens_of line)) c.args.outcome.now c.loop-rest.rest.now _ c.later_lines-rest.result.now c.loop-rest.invariant (some_left (length c.loop-rest.rest.now) _ c.is_empty.ensures c.loop-rest-test.true) c.first_line.ensures
    (sym c.has_same_tokens.ensures ∙ c.if-has_same_tokens.false) c.later_lines-rest.ensures
