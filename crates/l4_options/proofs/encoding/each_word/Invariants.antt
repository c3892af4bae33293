use Rattle.l4_options.proofs.Words.{AreEncoded}
use Rattle.l4_options.proofs.encoding.each_word.Given as goal

abbrev pub invariant-loop-token : goal.invariant-loop-token
invariant-loop-token l = AreEncoded l.fn.kind l.fn.size l.tokens l.token-index l.words.items
