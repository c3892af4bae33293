use Rattle.std.proofs.Common.{◌+◌, ◌++◌, slice_index}
use Rattle.l4_text.specs.Streams.{Tells}
use Rattle.l4_decode.specs.Spelling.{each_text}
use Rattle.l4_decode.specs.Decoded.{word_line}
use Rattle.l4_decode.proofs.decoding.tell_words.Given as goal

abbrev pub invariant-loop-k : goal.invariant-loop-k
invariant-loop-k g l = Tells (g.W.Write.contents l.fn.writer) (g.W.Write.contents l.writer) l.fn.out l.out
    (each_text (λ k. l.mark ++ word_line l.kind (l.from + k) (slice_index l.words (l.from + k))) l.k)
