use Rattle.std.proofs.Common.{◌≡◌, ◌++◌, [], arith, rules, sym, ap, ◌∙◌, append_assoc, append-nil}
use Rattle.std.proofs.lemmas.List.{nil_from_length}
use Rattle.std.specs.Slice.Iter.{chunks_rest, chunks_size}
use Rattle.l4_text.proofs.Telling.{tells_none, tells_more, tells_is}
use Rattle.l4_history.proofs.annotating.put_bytes.Goals as goal

pub loop-piece-init : goal.loop-piece-init
loop-piece-init g c =
    let is = c.into_iter-piece-iterator.ensures.into_iter_gives in
    let size : chunks_size c.into_iter-piece-iterator.result ≡ 160 = ap chunks_size is ∙ c.chunks-piece-items.ensures.size in
    let rest = ap chunks_rest is ∙ c.chunks-piece-items.ensures.rest in
    (omega (arith, size), tt, size, ([], tells_none _ _, rest))

pub loop-piece-preserved : goal.loop-piece-preserved
loop-piece-preserved g c =
    let steps = c.in-Some.ensures.steps in
    let size = c.loop-piece.invariant.2 in
    let so_far = c.loop-piece.invariant.3 in (
      search rules,
      tt,
      steps.0 ∙ size,
      (
        so_far.0 ++ c.in-Some.piece.now,
        tells_more _ _ _ _ _ _ _ _ so_far.1 c.put_piece.ensures,
        append_assoc so_far.0 _ _ ∙ ap (λ t. so_far.0 ++ t) (sym steps.1.0) ∙ so_far.2,
      ),
    )

pub returns : goal.returns
returns g c =
    let so_far = c.loop-piece.invariant.3 in
    let none = nil_from_length _ c.in-None.ensures.steps.1.0 in
    tells_is _ _ _ _ _ _ (sym (append-nil so_far.0) ∙ ap (λ t. so_far.0 ++ t) (sym none) ∙ so_far.2) so_far.1
