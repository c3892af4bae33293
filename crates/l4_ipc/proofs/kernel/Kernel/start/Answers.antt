use Rattle.l4_ipc.specs.declared.steps.Step.TheVariants.{Start}
use Rattle.l4_ipc.specs.Inside.Answering.{written}
use Rattle.l4_ipc.specs.Machine.{machine}
use Rattle.l4_ipc.specs.Steps.{Steps}
use Rattle.l4_ipc.proofs.Fitting.{fits_start}
use Rattle.l4_ipc.proofs.SoundKept.{sound_step}
use Rattle.l4_ipc.proofs.Starts.{written_ok, written_err}
use Rattle.l4_ipc.proofs.kernel.Kernel.start.Goals as goal

pub invariant_of-self : goal.invariant_of-self
invariant_of-self c =
    let old = machine c.self.inside.size c.self.inside.threads c.self.inside.forest in let new = machine c.self.inside.size c.start.new.threads c.start.new.forest in
    let given = written c.start.result c.start.new.answer in
    let step : Steps old (Start c.args.number c.args.call.now) given new = c.start.ensures in
    record { sound = sound_step old (Start c.args.number c.args.call.now) given new step c.self.invariant.sound; fits = fits_start old c.args.number c.args.call.now given new step c.self.invariant.fits }

pub returns-clause-ok : goal.returns-clause-ok
returns-clause-ok c = rw (← c.self.view_is) (written_ok _ _ c.args.number c.args.call.now c.start.result c.start.new.answer c.start.ensures)

pub returns-clause-err : goal.returns-clause-err
returns-clause-err c = rw (← c.self.view_is) (written_err _ _ c.args.number c.args.call.now c.start.result c.start.new.answer c.start.ensures)
