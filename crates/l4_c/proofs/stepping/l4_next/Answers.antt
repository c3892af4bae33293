use Rattle.std.proofs.Common.{Option, Ok, inr, sym, subst}
use Rattle.l4_ipc.specs.Machine.{Machine}
use Rattle.l4_ipc.specs.NextSteps.{step_of, answer_of}
use Rattle.l4_ipc.specs.Steps.{Steps, IsNext}
use Rattle.l4_c.specs.Exports.{GoesOn}
use Rattle.l4_c.proofs.stepping.l4_next.Goals as goal

pub returns-in-Some-done : goal.returns-in-Some-done
returns-in-Some-done c =
    let step = step_of c.in-Some-done.next in let answer = answer_of c.in-Some-done.next in let after = c.next-done.new.self in
    let next = subst (λ (m : Machine). IsNext m step) c.deref_mut.ensures.value c.in-Some-done.ensures.0 in
    let steps = subst (λ (m : Machine). Steps m step (Ok answer) after) c.deref_mut.ensures.value c.in-Some-done.ensures.1 in
    subst (λ (old : Option Machine). GoesOn old c.done_told.result c.put.new.self.value) (sym c.in-Some.ensures.taken)
    (inr (step, answer, after, next, steps, c.done_told.ensures, c.put.ensures))
