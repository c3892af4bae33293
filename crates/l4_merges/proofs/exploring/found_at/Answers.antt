use Rattle.std.proofs.Common.{◌≡◌, arith, sym, ap, refl, ◌∙◌}
use Rattle.std.proofs.lemmas.Bool.{false≢true}
use Rattle.std.proofs.lemmas.Bool.Decides.{Decides-eqb}
use Rattle.std.proofs.lemmas.Slice.Eq.{slice_eq-Decides}
use Rattle.l4_merges.specs.declared.found.Found.{Found}
use Rattle.l4_merges.proofs.Covering.{new_more}
use Rattle.l4_merges.proofs.exploring.found_at.Goals as goal

pub returns-then-eq-clause-place : goal.returns-then-eq-clause-place
returns-then-eq-clause-place c =
    let same : c.as_slice.result.now ≡ c.args.outcome.now = (slice_eq-Decides Decides-eqb c.as_slice.result.now c.args.outcome.now _ refl).0 (sym c.eq.ensures ∙ c.if-eq.true) in
    (c.index-found-place.result, omega (arith, c.loop-place-test.true), sym c.index-found-place.is, ap (λ (f : Found). f.outcome.items) c.index-found-place.is ∙ sym c.as_slice.ensures.value ∙ same)

pub loop-place-preserved : goal.loop-place-preserved
loop-place-preserved c =
    new_more c.args.outcome.now c.index-found-place.result c.args.found.now c.loop-place.place c.loop-place-test.true c.index-found-place.is
    (λ same. false≢true (sym c.if-eq.false ∙ c.eq.ensures ∙ (slice_eq-Decides Decides-eqb c.as_slice.result.now c.args.outcome.now _ refl).1 (c.as_slice.ensures.value ∙ ap (λ (f : Found). f.outcome.items) (sym c.index-found-place.is) ∙ same))) c.loop-place.invariant

pub returns-clause-new : goal.returns-clause-new
returns-clause-new c e k d lt = c.loop-place.invariant k d (omega (arith, lt, c.loop-place-test.false))
