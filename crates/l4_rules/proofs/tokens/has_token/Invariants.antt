use Rattle.std.proofs.Common.{◌≡◌, length}
use Rattle.l4_text.specs.Tokens.{tokens_of}
use Rattle.l4_rules.specs.Tokens.{has_token}
use Rattle.l4_rules.proofs.tokens.has_token.Given as goal

abbrev pub invariant-loop-token : goal.invariant-loop-token
invariant-loop-token l = has_token l.names (tokens_of l.tokens) l.other ≡ has_token l.names (tokens_of l.rest) l.other

abbrev pub decreases-loop-token : goal.decreases-loop-token
decreases-loop-token l = length (tokens_of l.rest)
