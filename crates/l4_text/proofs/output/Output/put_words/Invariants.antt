use Rattle.std.proofs.Common.{◌≡◌, ℕ, List, ◌++◌}
use Rattle.std.specs.Slice.Iter.{chunks_rest, chunks_size}
use Rattle.l4_text.specs.Streams.{Tells}
use Rattle.l4_text.specs.Texts.{words_text}
use Rattle.l4_text.proofs.output.Output.put_words.Given as goal

abbrev pub invariant-loop-row : goal.invariant-loop-row
invariant-loop-row g l =
    (goal.iterator-loop-row g).can_next l.row-iterator
    × (goal.iterator-loop-row g).is_finite l.row-iterator
    × (chunks_size l.row-iterator ≡ 17)
    × ((told : List ℕ) × Tells (g.W.Write.contents l.initial.writer) (g.W.Write.contents l.writer) l.initial.self l.self told
    × (told ++ words_text (chunks_rest l.row-iterator) ≡ words_text l.words))
