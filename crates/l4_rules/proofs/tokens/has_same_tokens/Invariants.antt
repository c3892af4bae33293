use Rattle.std.proofs.Common.{◌≡◌, length}
use Rattle.l4_text.specs.Tokens.{tokens_of}
use Rattle.l4_rules.specs.Tokens.{same_tokens}
use Rattle.l4_rules.proofs.tokens.has_same_tokens.Given as goal

abbrev pub invariant-loop-token : goal.invariant-loop-token
invariant-loop-token l = same_tokens l.names (tokens_of l.one) (tokens_of l.other) ≡ same_tokens l.names (tokens_of l.left) (tokens_of l.right)

abbrev pub decreases-loop-token : goal.decreases-loop-token
decreases-loop-token l = length (tokens_of l.left)
