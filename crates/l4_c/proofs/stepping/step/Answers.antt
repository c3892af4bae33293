use Rattle.std.proofs.Common.{Option, sym, subst}
use Rattle.l4_ipc.specs.Machine.{Machine}
use Rattle.l4_ipc.specs.Steps.{Steps}
use Rattle.l4_c.specs.Exports.{Answers}
use Rattle.l4_c.proofs.stepping.step.Goals as goal

pub returns : goal.returns
returns c =
    subst (λ (old : Option Machine). Answers old c.args.step.now c.told.result c.put.new.self.value) (sym c.in-Some.ensures.taken)
    (c.step-given.result, c.step-given.new.self, subst (λ (m : Machine). Steps m c.args.step.now c.step-given.result c.step-given.new.self) c.deref_mut.ensures.value c.step-given.ensures, c.told.ensures, c.put.ensures)
