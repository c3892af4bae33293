use Rattle.std.proofs.Common.{Option, sym, subst}
use Rattle.l4_ipc.specs.Machine.{Machine}
use Rattle.l4_c.specs.Exports.{Goes, Enters}
use Rattle.l4_c.proofs.stepping.l4_enter.Goals as goal

pub returns : goal.returns
returns c =
    let after = c.enter-entered.new.kernel in let r = c.enter-entered.result in let places = c.args.steps.now in let written = c.enter-entered.new.steps in
    subst (λ (old : Option Machine). Enters old c.args.thread c.args.call.now c.args.words.now places r written c.put.new.self.value) (sym c.in-Some.ensures.taken)
    (after, subst (λ (m : Machine). Goes m c.args.thread c.args.call.now c.args.words.now places r written after) c.deref_mut.ensures.value c.enter-entered.ensures, c.put.ensures)
