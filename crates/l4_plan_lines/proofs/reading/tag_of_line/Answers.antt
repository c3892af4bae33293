use Rattle.std.proofs.Common.{◌≡◌, ℕ, ◌∙◌, ap, sym, List, drop}
use Rattle.std.proofs.lemmas.Bool.{false≢true}
use Rattle.std.proofs.lemmas.Bool.Decides.{Decides-eqb}
use Rattle.std.proofs.lemmas.Slice.Eq.{slice_eq-Decides}
use Rattle.l4_plan_lines.specs.Lines.{tag_line}
use Rattle.std.proofs.lemmas.List.{take_rest}
use Rattle.l4_plan_lines.proofs.reading.tag_of_line.Goals as goal

pub returns-then-eq-clause-found : goal.returns-then-eq-clause-found
returns-then-eq-clause-found c =
    sym ((slice_eq-Decides Decides-eqb _ _ _ c.eq.ensures).0 c.if-eq.true)
    ∙ c.as_slice.ensures.value ∙ c.tag_text-spelled.ensures.value

pub returns-clause-only : goal.returns-clause-only
returns-clause-only c tag small e =
    let w : c.word_of-tag.result ≡ tag = c.word_of-tag.ensures tag small (take_rest c.args.line.now 4 ∙ ap (λ (l : List ℕ). drop 4 l) e) in
    let text : c.as_slice.result.now ≡ tag_line c.word_of-tag.result = c.as_slice.ensures.value ∙ c.tag_text-spelled.ensures.value in
    let same : c.as_slice.result.now ≡ c.args.line.now = text ∙ ap tag_line w ∙ sym e in
    absurd (false≢true (sym c.if-eq.false ∙ (slice_eq-Decides Decides-eqb _ _ _ c.eq.ensures).1 same))
