use Rattle.std.proofs.Common.{◌≡◌, ℕ, ◌∙◌, ap, sym, List, take, drop, Some}
use Rattle.std.proofs.lemmas.Bool.{false≢true}
use Rattle.std.proofs.lemmas.Bool.Decides.{Decides-eqb}
use Rattle.std.proofs.lemmas.Slice.Eq.{slice_eq-Decides}
use Rattle.l4_plan_lines.specs.Lines.{item_line}
use Rattle.std.proofs.lemmas.List.{take_rest}
use Rattle.l4_plan_lines.proofs.reading.words_of_line.Goals as goal

pub returns-then-eq-clause-found : goal.returns-then-eq-clause-found
returns-then-eq-clause-found c =
    sym ((slice_eq-Decides Decides-eqb _ _ _ c.eq.ensures).0 c.if-eq.true)
    ∙ c.as_slice.ensures.value ∙ c.item_text-spelled.ensures.value

pub returns-clause-only : goal.returns-clause-only
returns-clause-only c first second page f s t e =
    let a = c.word_of-first.result in
    let b = c.word_of-second.result in
    let p = c.in-Some.page in
    let one : a ≡ first = c.word_of-first.ensures first f (ap (λ (l : List ℕ). take 8 (drop 5 l)) e) in
    let two : b ≡ second = c.word_of-second.ensures second s (ap (λ (l : List ℕ). take 8 (drop 14 l)) e) in
    let q : ◌≡◌ (Some p) (Some page) = c.in-Some.ensures page t (take_rest c.args.line.now 28 ∙ ap (λ (l : List ℕ). drop 28 l) e) in
    let three : p ≡ page = cc in
    let text : c.as_slice.result.now ≡ item_line a b p = c.as_slice.ensures.value ∙ c.item_text-spelled.ensures.value in
    let same : c.as_slice.result.now ≡ c.args.line.now = text ∙ (λ i. item_line (one i) (two i) (three i)) ∙ sym e in
    absurd (false≢true (sym c.if-eq.false ∙ (slice_eq-Decides Decides-eqb _ _ _ c.eq.ensures).1 same))

pub returns-then-eq-clause-only : goal.returns-then-eq-clause-only
returns-then-eq-clause-only c first second page f s t e =
    let one : c.word_of-first.result ≡ first = c.word_of-first.ensures first f (ap (λ (l : List ℕ). take 8 (drop 5 l)) e) in
    let two : c.word_of-second.result ≡ second = c.word_of-second.ensures second s (ap (λ (l : List ℕ). take 8 (drop 14 l)) e) in
    let q : ◌≡◌ (Some c.in-Some.page) (Some page) = c.in-Some.ensures page t (take_rest c.args.line.now 28 ∙ ap (λ (l : List ℕ). drop 28 l) e) in
    let three : c.in-Some.page ≡ page = cc in
    λ i. Some (one i, two i, three i)
