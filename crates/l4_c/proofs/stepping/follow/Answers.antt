use Rattle.std.proofs.Common.{arith, sym, subst}
use Rattle.l4_ipc.proofs.Work.{fewer}
use Rattle.l4_ipc.specs.Following.{AreNext}
use Rattle.l4_ipc.specs.Machine.{Machine}
use Rattle.l4_ipc.specs.NextSteps.{step_of, answer_of}
use Rattle.l4_ipc.specs.Steps.{IsIdle}
use Rattle.l4_c.proofs.Following.{going_first, going_more}
use Rattle.l4_c.proofs.stepping.follow.Goals as goal

pub loop-step-init : goal.loop-step-init
loop-step-init c = going_first _ _ c.law_consistent.ensures

pub loop-step-smaller : goal.loop-step-smaller
loop-step-smaller c = fewer _ _ (step_of c.in-Some.step) (answer_of c.in-Some.step) c.in-Some.ensures.0 c.in-Some.ensures.1

pub loop-step-preserved : goal.loop-step-preserved
loop-step-preserved c =
    going_more c.args.kernel.now _ _ c.loop-step.count c.args.steps.now c.loop-step.steps c.note.new.steps (step_of c.in-Some.step) (answer_of c.in-Some.step)
    c.loop-step.invariant c.in-Some.ensures.0 c.in-Some.ensures.1 c.note.ensures.there c.note.ensures.beyond

pub returns : goal.returns
returns c =
    let so_far = c.loop-step.invariant in let kept = sym c.in_default.ensures.1 in
    record {
      dones = so_far.dones;
      next = subst (λ (k : Machine). AreNext c.args.kernel.now so_far.dones k) kept so_far.next;
      idle = subst (λ (k : Machine). IsIdle k) kept c.in_default.ensures.0;
      counted = so_far.counted;
      few = (let few = so_far.few in omega (arith, few));
      steps = so_far.steps;
    }
