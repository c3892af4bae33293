use Rattle.std.proofs.Common.{Option, inr, sym, subst}
use Rattle.l4_ipc.specs.Machine.{Machine}
use Rattle.l4_ipc.specs.Steps.{IsNext}
use Rattle.l4_c.specs.Exports.{Names}
use Rattle.l4_c.proofs.stepping.l4_enabled.Goals as goal

pub returns-in-Some-enabled-clause-named : goal.returns-in-Some-enabled-clause-named
returns-in-Some-enabled-clause-named c =
    let next = subst (λ (m : Machine). IsNext m c.in-Some-enabled.step) c.deref.ensures c.in-Some-enabled.ensures in
    subst (λ (old : Option Machine). Names old c.step_told.result) (sym c.in-Some.ensures.taken) (inr (c.in-Some-enabled.step, next, c.step_told.ensures))
