use Rattle.std.proofs.Common.{Ok, sym, ◌∙◌, subst}
use Rattle.l4_ipc.specs.declared.steps.Answer.{Answer}
use Rattle.l4_ipc.specs.Steps.{Steps}
use Rattle.l4_record.proofs.Same.{same_answer}
use Rattle.l4_history.proofs.telling.repeats.Goals as goal

pub returns-in-Ok : goal.returns-in-Ok
returns-in-Ok c = λ yes.
    subst (λ (a : Answer). Steps c.args.kernel.now c.args.entry.now.step (Ok a) c.step.new.self) (same_answer c.in-Ok.answer c.args.entry.now.answer (sym c.eq.ensures ∙ yes)) c.in-Ok.ensures
