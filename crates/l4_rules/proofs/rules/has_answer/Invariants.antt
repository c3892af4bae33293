use Rattle.std.proofs.Common.{◌≡◌, length}
use Rattle.l4_text.specs.Tokens.{tokens_of}
use Rattle.l4_rules.specs.Rules.{has_answer}
use Rattle.l4_rules.proofs.rules.has_answer.Given as goal

abbrev pub invariant-loop-rest : goal.invariant-loop-rest
invariant-loop-rest l = has_answer l.names (tokens_of l.answer) l.outcome ≡ has_answer l.names (tokens_of l.answer) l.rest

abbrev pub decreases-loop-rest : goal.decreases-loop-rest
decreases-loop-rest l = length l.rest
