use Rattle.std.proofs.Common.{◌≡◌, ℕ, ◌∙◌, ap, sym, List, drop, Some}
use Rattle.std.proofs.lemmas.Bool.{false≢true}
use Rattle.std.proofs.lemmas.Bool.Decides.{Decides-eqb}
use Rattle.std.proofs.lemmas.Slice.Eq.{slice_eq-Decides}
use Rattle.l4_plan_lines.specs.Lines.{page_line}
use Rattle.std.proofs.lemmas.List.{take_rest}
use Rattle.l4_plan_lines.proofs.reading.page_of_line.Goals as goal

pub returns-then-eq-clause-found : goal.returns-then-eq-clause-found
returns-then-eq-clause-found c =
    sym ((slice_eq-Decides Decides-eqb _ _ _ c.eq.ensures).0 c.if-eq.true)
    ∙ c.as_slice.ensures.value ∙ c.page_text-spelled.ensures.value

pub returns-clause-only : goal.returns-clause-only
returns-clause-only c page small e =
    let p : ◌≡◌ (Some c.in-Some.page) (Some page) = c.in-Some.ensures page small (take_rest c.args.line.now 5 ∙ ap (λ (l : List ℕ). drop 5 l) e) in
    let w : c.in-Some.page ≡ page = cc in
    let text : c.as_slice.result.now ≡ page_line c.in-Some.page = c.as_slice.ensures.value ∙ c.page_text-spelled.ensures.value in
    let same : c.as_slice.result.now ≡ c.args.line.now = text ∙ ap page_line w ∙ sym e in
    absurd (false≢true (sym c.if-eq.false ∙ (slice_eq-Decides Decides-eqb _ _ _ c.eq.ensures).1 same))
