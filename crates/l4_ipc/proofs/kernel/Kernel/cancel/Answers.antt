use Rattle.l4_ipc.specs.declared.steps.Step.TheVariants.{Cancel}
use Rattle.l4_ipc.specs.Machine.{machine}
use Rattle.l4_ipc.specs.NextSteps.{canceled_if}
use Rattle.l4_ipc.proofs.SoundKept.{sound_step}
use Rattle.l4_ipc.proofs.kernel.Kernel.cancel.Goals as goal

pub invariant_of-self : goal.invariant_of-self
invariant_of-self c = record {
  sound = sound_step (machine c.self.inside.size c.self.inside.threads c.self.inside.forest) (Cancel c.args.number c.args.cause) (canceled_if c.args.number c.cancel.result) (machine c.self.inside.size c.cancel.new.threads c.self.inside.forest) (c.cancel.ensures c.self.inside.size c.self.inside.forest) c.self.invariant.sound;
  fits = c.self.invariant.fits;
}

pub returns : goal.returns
returns c = rw (← c.self.view_is) (c.cancel.ensures c.self.inside.size c.self.inside.forest)
