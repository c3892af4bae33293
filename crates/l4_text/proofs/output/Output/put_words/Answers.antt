use Rattle.std.proofs.Common.{◌≡◌, ◌++◌, [], arith, rules, sym, ap, ◌∙◌, append_assoc, append-nil}
use Rattle.std.proofs.lemmas.List.{nil_from_length}
use Rattle.std.specs.Slice.Iter.{chunks_rest, chunks_size}
use Rattle.l4_text.specs.Texts.{words_text}
use Rattle.l4_text.proofs.Rows.{words_text-append}
use Rattle.l4_text.proofs.Telling.{tells_none, tells_more, tells_is}
use Rattle.l4_text.proofs.output.Output.put_words.Goals as goal

pub loop-row-init : goal.loop-row-init
loop-row-init g c =
    let is = c.into_iter-row-iterator.ensures.into_iter_gives in
    let size : chunks_size c.into_iter-row-iterator.result ≡ 17 = ap chunks_size is ∙ c.chunks-row-items.ensures.size in
    let rest = ap chunks_rest is ∙ c.chunks-row-items.ensures.rest in
    (omega (arith, size), tt, size, ([], tells_none _ _, ap words_text rest))

pub loop-row-preserved : goal.loop-row-preserved
loop-row-preserved g c =
    let steps = c.in-Some.ensures.steps in
    let size = c.loop-row.invariant.2 in
    let so_far = c.loop-row.invariant.3 in (
      search rules,
      tt,
      steps.0 ∙ size,
      (
        so_far.0 ++ words_text c.in-Some.row.now,
        tells_more _ _ _ _ _ _ _ _ so_far.1 c.put_row.ensures,
        append_assoc so_far.0 _ _
            ∙ ap (λ t. so_far.0 ++ t) (sym (words_text-append c.in-Some.row.now (chunks_rest c.next.new.self)) ∙ ap words_text (sym steps.1.0))
            ∙ so_far.2,
      ),
    )

pub returns : goal.returns
returns g c =
    let so_far = c.loop-row.invariant.3 in
    let none = nil_from_length _ c.in-None.ensures.steps.1.0 in
    tells_is _ _ _ _ _ _ (sym (append-nil so_far.0) ∙ ap (λ t. so_far.0 ++ words_text t) (sym none) ∙ so_far.2) so_far.1
