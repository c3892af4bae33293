use Rattle.std.proofs.Common.{◌+◌, ◌*◌, ◌++◌, slice_index}
use Rattle.l4_text.specs.Streams.{Tells}
use Rattle.l4_decode.specs.Spelling.{each_text}
use Rattle.l4_decode.specs.Items.{item_line}
use Rattle.l4_decode.proofs.decoding.tell_items.Given as goal

abbrev pub invariant-loop-k : goal.invariant-loop-k
invariant-loop-k g l = Tells (g.W.Write.contents l.fn.writer) (g.W.Write.contents l.writer) l.fn.out l.out
    (each_text (λ k. l.mark ++ item_line l.size k (slice_index l.words (l.from + 2 * k)) (slice_index l.words (l.from + 2 * k + 1))) l.k)
