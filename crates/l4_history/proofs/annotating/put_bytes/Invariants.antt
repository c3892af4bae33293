use Rattle.std.proofs.Common.{◌≡◌, ℕ, List, ◌++◌}
use Rattle.std.specs.Slice.Iter.{chunks_rest, chunks_size}
use Rattle.l4_text.specs.Streams.{Tells}
use Rattle.l4_history.proofs.annotating.put_bytes.Given as goal

abbrev pub invariant-loop-piece : goal.invariant-loop-piece
invariant-loop-piece g l =
    (goal.iterator-loop-piece g).can_next l.piece-iterator
    × (goal.iterator-loop-piece g).is_finite l.piece-iterator
    × (chunks_size l.piece-iterator ≡ 160)
    × ((told : List ℕ) × Tells (g.W.Write.contents l.initial.writer) (g.W.Write.contents l.writer) l.initial.out l.out told
    × (told ++ chunks_rest l.piece-iterator ≡ l.bytes))
