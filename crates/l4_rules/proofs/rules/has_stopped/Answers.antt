use Rattle.std.proofs.Common.{length, sym, ◌∙◌}
use Rattle.l4_text.specs.Tokens.{tokens_of}
use Rattle.l4_answers.proofs.AnswerTexts.{some_left}
use Rattle.l4_rules.specs.Rules.{is_stopped}
use Rattle.l4_rules.proofs.Lines.{line_here, line_later}
use Rattle.l4_rules.proofs.rules.has_stopped.Goals as goal

pub returns-then-is_stopped : goal.returns-then-is_stopped
returns-then-is_stopped c =
    line_here (λ line. is_stopped c.args.names.now c.args.left (tokens_of c.args.allowed.now) (tokens_of line)) c.args.outcome.now c.loop-rest.rest.now _ c.loop-rest.invariant (some_left (length c.loop-rest.rest.now) _ c.is_empty.ensures c.loop-rest-test.true) c.first_line.ensures
    (sym c.is_stopped.ensures ∙ c.if-is_stopped.true)

pub loop-rest-preserved : goal.loop-rest-preserved
loop-rest-preserved c =
    line_later (λ line. is_stopped c.args.names.now c.args.left (tokens_of c.args.allowed.now) (tokens_of line)) c.args.outcome.now c.loop-rest.rest.now _ c.later_lines-rest.result.now c.loop-rest.invariant (some_left (length c.loop-rest.rest.now) _ c.is_empty.ensures c.loop-rest-test.true) c.first_line.ensures
    (sym c.is_stopped.ensures ∙ c.if-is_stopped.false) c.later_lines-rest.ensures
