use Rattle.std.proofs.Common.{Ok, inr, refl, sym, subst}
use Rattle.l4_ipc.specs.declared.steps.Answer.{Answer}
use Rattle.l4_ipc.specs.Steps.{Steps}
use Rattle.l4_record.proofs.Replayed.{other_answer}
use Rattle.l4_record.proofs.Same.{same_answer}
use Rattle.l4_provenance.proofs.replaying.repeat_entry.Goals as goal

pub returns-then-eq-clause-ok : goal.returns-then-eq-clause-ok
returns-then-eq-clause-ok c =
    subst (λ (a : Answer). Steps c.args.kernel.now c.args.entry.now.step (Ok a) c.step.new.self) (same_answer c.in-Ok.answer c.args.entry.now.answer (sym c.if-eq.ensures)) c.in-Ok.ensures

pub returns-in_default : goal.returns-in_default
returns-in_default c = record {
  ok = tt;
  err = record {
    answer = Ok c.in-Ok.answer;
    step = c.in-Ok.ensures;
    other = other_answer c.in-Ok.answer c.args.entry.now.answer (sym c.if-eq.ensures);
    why = inr (c.in_default.not-NoMemory, refl);
  };
}
