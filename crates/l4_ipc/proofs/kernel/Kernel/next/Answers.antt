use Rattle.std.proofs.Common.{Ok, refl}
use Rattle.l4_ipc.specs.declared.steps.Step.TheVariants.{Transfer, Expire}
use Rattle.l4_ipc.specs.Machine.{machine}
use Rattle.l4_ipc.specs.declared.steps.NextStep.TheVariants.{Transfer as Transferred, Expire as Expiry}
use Rattle.l4_ipc.specs.NextSteps.{answer_of}
use Rattle.l4_ipc.proofs.SoundKept.{sound_step}
use Rattle.l4_ipc.proofs.kernel.Kernel.next.Goals as goal

pub invariant_of-self : goal.invariant_of-self
invariant_of-self c = record {
  sound = sound_step (machine c.self.inside.size c.self.inside.threads c.self.inside.forest) (Transfer c.in-Some.from c.in-Some.to) (Ok (answer_of (Transferred c.in-Some.from c.in-Some.to c.carry_over-outcome.result.0 c.carry_over-outcome.result.1))) (machine c.self.inside.size c.carry_over-outcome.new.threads c.carry_over-outcome.new.forest) (c.carry_over-outcome.ensures.step) c.self.invariant.sound;
  fits = c.carry_over-outcome.ensures.fits c.self.invariant.fits;
}

pub returns-in-Some : goal.returns-in-Some
returns-in-Some c = rw (← c.self.view_is) (c.in-Some.ensures, c.carry_over-outcome.ensures.step)

pub returns-in_default-next_expiry : goal.returns-in_default-next_expiry
returns-in_default-next_expiry c = rw (← c.self.view_is, c.settle.ensures) (record { no_transfer = c.in_default.ensures; no_expiry = c.in_default-next_expiry.ensures }, refl)

pub unreachable-requires : goal.unreachable-requires
unreachable-requires c = (c.in_default-expire.ensures c.self.inside.size c.self.inside.forest).0 c.in-Some-next_expiry.ensures.can_expire

pub invariant_of-self-2 : goal.invariant_of-self-2
invariant_of-self-2 c = record {
  sound = sound_step (machine c.self.inside.size c.self.inside.threads c.self.inside.forest) (Expire c.in-Some-next_expiry.number) (Ok (answer_of (Expiry c.in-Some-next_expiry.number))) (machine c.self.inside.size c.expire.new.threads c.self.inside.forest) ((c.in-Ok.ensures c.self.inside.size c.self.inside.forest)) c.self.invariant.sound;
  fits = c.self.invariant.fits;
}

pub returns : goal.returns
returns c = rw (← c.self.view_is) ((c.in_default.ensures, c.in-Some-next_expiry.ensures), (c.in-Ok.ensures c.self.inside.size c.self.inside.forest))
