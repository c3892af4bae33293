use Rattle.l4_text.specs.Streams.{Tells}
use Rattle.l4_symbols.specs.Texts.{words_before}
use Rattle.l4_symbols.proofs.writing.tell_words.Given as goal

abbrev pub invariant-loop-k : goal.invariant-loop-k
invariant-loop-k g l = Tells (g.W.Write.contents l.fn.writer) (g.W.Write.contents l.writer) l.fn.out l.out (words_before l.words l.k)
