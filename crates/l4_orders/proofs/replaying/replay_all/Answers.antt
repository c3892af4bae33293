use Rattle.std.proofs.Common.{◌≡◌, ℕ, List, refl, sym, subst, ◌∙◌}
use Rattle.std.proofs.lemmas.Bool.Decides.{Decides-eqb}
use Rattle.std.proofs.lemmas.Slice.Eq.{slice_eq-Decides}
use Rattle.l4_orders.specs.Filling.{FillsBy}
use Rattle.l4_orders.proofs.Filled.{err_on}
use Rattle.l4_orders.proofs.Stepping.{witness_of, witness_more, witness_all}
use Rattle.l4_orders.proofs.replaying.replay_all.Goals as goal

pub loop-one-preserved : goal.loop-one-preserved
loop-one-preserved c =
    let same : c.as_slice-in-loop-one.result.now ≡ c.as_slice-in-loop-one-2.result.now = (slice_eq-Decides Decides-eqb c.as_slice-in-loop-one.result.now c.as_slice-in-loop-one-2.result.now _ refl).0 (sym c.eq.ensures ∙ c.if-eq.true) in
    witness_more _ _ _ c.args.found.now c.loop-one.one-index c.one-item.result c.loop-one-test.true c.one-item.is c.loop-one.invariant
    (witness_of _ _ _ c.one-item.result _ _ c.as_slice.ensures.value (sym c.as_slice-in-loop-one.ensures.value ∙ same ∙ c.as_slice-in-loop-one-2.ensures.value) c.in_ok-outcome.ensures)

pub returns : goal.returns
returns c = witness_all _ _ _ c.args.found.now c.loop-one.one-index c.loop-one-test.false c.loop-one.invariant

pub returns-in_err-outcome : goal.returns-in_err-outcome
returns-in_err-outcome c =
    err_on c.from_residual.result _ _ _ c.from_residual.ensures.1
    (λ full. (c.one-item.result, (c.loop-one.one-index, c.loop-one-test.true, sym c.one-item.is), subst (λ (order : List ℕ). FillsBy c.args.frames c.args.size c.args.plan.now order) c.as_slice.ensures.value (c.in_err-outcome.ensures full)))
