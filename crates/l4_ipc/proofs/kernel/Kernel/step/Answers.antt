use Rattle.l4_ipc.specs.declared.steps.Step.TheVariants.{Start, Transfer, Expire, Cancel}
use Rattle.l4_ipc.specs.Machine.{machine}
use Rattle.l4_ipc.specs.NextSteps.{canceled_if, expired_if}
use Rattle.l4_ipc.specs.Steps.{Steps}
use Rattle.l4_ipc.proofs.Fitting.{fits_start}
use Rattle.l4_ipc.proofs.SoundKept.{sound_step}
use Rattle.l4_ipc.proofs.kernel.Kernel.step.Goals as goal

pub transfer-requires : goal.transfer-requires
transfer-requires c = c.self.invariant.sound.have_spaces

pub invariant_of-self : goal.invariant_of-self
invariant_of-self c =
    let old = machine c.self.inside.size c.self.inside.threads c.self.inside.forest in let new = machine c.self.inside.size c.start_answered.new.threads c.start_answered.new.forest in
    let step : Steps old (Start c.in-Start.number c.in-Start.call) c.start_answered.result new = c.start_answered.ensures in
    record { sound = sound_step old (Start c.in-Start.number c.in-Start.call) c.start_answered.result new step c.self.invariant.sound; fits = fits_start old c.in-Start.number c.in-Start.call c.start_answered.result new step c.self.invariant.fits }

pub invariant_of-self-in-Transfer : goal.invariant_of-self-in-Transfer
invariant_of-self-in-Transfer c = record {
  sound = sound_step (machine c.self.inside.size c.self.inside.threads c.self.inside.forest) (Transfer c.in-Transfer.sender c.in-Transfer.receiver) c.transfer.result (machine c.self.inside.size c.transfer.new.threads c.transfer.new.forest) c.transfer.ensures.step c.self.invariant.sound;
  fits = c.transfer.ensures.fits c.self.invariant.fits;
}

pub invariant_of-self-in-Expire : goal.invariant_of-self-in-Expire
invariant_of-self-in-Expire c = record {
  sound = sound_step (machine c.self.inside.size c.self.inside.threads c.self.inside.forest) (Expire c.in-Expire.number) (expired_if c.in-Expire.number c.expire-ended.result) (machine c.self.inside.size c.expire-ended.new.threads c.self.inside.forest) (c.expire-ended.ensures c.self.inside.size c.self.inside.forest) c.self.invariant.sound;
  fits = c.self.invariant.fits;
}

pub invariant_of-self-in-Cancel : goal.invariant_of-self-in-Cancel
invariant_of-self-in-Cancel c = record {
  sound = sound_step (machine c.self.inside.size c.self.inside.threads c.self.inside.forest) (Cancel c.in-Cancel.waiter c.in-Cancel.cause) (canceled_if c.in-Cancel.waiter c.cancel-ended.result) (machine c.self.inside.size c.cancel-ended.new.threads c.self.inside.forest) (c.cancel-ended.ensures c.self.inside.size c.self.inside.forest) c.self.invariant.sound;
  fits = c.self.invariant.fits;
}

pub returns-in-Start : goal.returns-in-Start
returns-in-Start c = rw (← c.self.view_is, c.in-Start.is) c.start_answered.ensures

pub returns-in-Transfer : goal.returns-in-Transfer
returns-in-Transfer c = rw (← c.self.view_is, c.in-Transfer.is) c.transfer.ensures.step

pub returns-in-Expire : goal.returns-in-Expire
returns-in-Expire c = rw (← c.self.view_is, c.in-Expire.is, c.wait_result.ensures) (c.expire-ended.ensures c.self.inside.size c.self.inside.forest)

pub returns-in-Cancel : goal.returns-in-Cancel
returns-in-Cancel c = rw (← c.self.view_is, c.in-Cancel.is, c.wait_result-in-Cancel.ensures) (c.cancel-ended.ensures c.self.inside.size c.self.inside.forest)
