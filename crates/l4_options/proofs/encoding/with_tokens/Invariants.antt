use Rattle.std.proofs.Common.{◌≡◌}
use Rattle.l4_options.proofs.Words.{AreAdded}
use Rattle.l4_options.proofs.encoding.with_tokens.Given as goal

abbrev pub invariant-loop-token : goal.invariant-loop-token
invariant-loop-token l = (l.message.size ≡ l.fn.begun.size) × AreAdded l.fn.begun.size l.tokens l.token-index l.fn.begun.message l.message.message
