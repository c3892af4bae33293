use Rattle.std.proofs.Common.{◌≡◌, length}
use Rattle.l4_text.specs.Tokens.{tokens_of}
use Rattle.l4_rules.specs.Rules.{are_threads}
use Rattle.l4_rules.proofs.rules.are_threads.Given as goal

abbrev pub invariant-loop-token : goal.invariant-loop-token
invariant-loop-token l = are_threads l.names l.threads (tokens_of l.tokens) ≡ are_threads l.names l.threads (tokens_of l.rest)

abbrev pub decreases-loop-token : goal.decreases-loop-token
decreases-loop-token l = length (tokens_of l.rest)
