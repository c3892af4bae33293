use Rattle.std.proofs.Common.{◌≡◌, length}
use Rattle.l4_text.specs.Tokens.{tokens_of}
use Rattle.l4_rules.specs.Rules.{has_stopped}
use Rattle.l4_rules.proofs.rules.has_stopped.Given as goal

abbrev pub invariant-loop-rest : goal.invariant-loop-rest
invariant-loop-rest l = has_stopped l.names l.left (tokens_of l.allowed) l.outcome ≡ has_stopped l.names l.left (tokens_of l.allowed) l.rest

abbrev pub decreases-loop-rest : goal.decreases-loop-rest
decreases-loop-rest l = length l.rest
