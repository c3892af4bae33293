use Rattle.std.proofs.Common.{◌≡◌, inr}
use Rattle.l4_checkpoints.specs.Checkpoints.{HasForm}
use Rattle.l4_checkpoints.specs.declared.faults.CheckpointFault.{CheckpointFault}
use Rattle.l4_checkpoints.specs.declared.faults.CheckpointFaultKind.TheVariants.{Machine as IsOfWords}
use Rattle.l4_checkpoints.proofs.Forming.{has_form, after_each}
use Rattle.l4_checkpoints.proofs.Refusing.{other_end}
use Rattle.l4_checkpoints.proofs.reading.read_checkpoint.Goals as goal

pub returns-in-Err-clause-form : goal.returns-in-Err-clause-form
returns-in-Err-clause-form c = λ h. absurd (c.in-Err.ensures.kind h)

pub returns-in-Some-clause-none : goal.returns-in-Some-clause-none
returns-in-Some-clause-none c =
    let h = c.in-Ok.heading in
    inr (inr (other_end c.args.bytes.now h.frames h.size h.entries h.count c.in-Ok.ensures.ok c.in-Some.ensures.end))

pub returns-in-Some-clause-form : goal.returns-in-Some-clause-form
returns-in-Some-clause-form c = λ h. absurd (c.in-Some.ensures.kind h)

pub returns-in-Ok-build-clause-form : goal.returns-in-Ok-build-clause-form
returns-in-Ok-build-clause-form c =
    let h = c.in-Ok.heading in
    let form : HasForm c.args.bytes.now = has_form c.args.bytes.now h.frames h.size h.entries h.count c.in-Ok.ensures.ok c.in_default.ensures.end in
    after_each (λ (f : CheckpointFault). f.kind ≡ IsOfWords) (HasForm c.args.bytes.now) c.compared.result form

pub returns-clause-form : goal.returns-clause-form
returns-clause-form c =
    let h = c.in-Ok.heading in
    λ e. has_form c.args.bytes.now h.frames h.size h.entries h.count c.in-Ok.ensures.ok c.in_default.ensures.end
