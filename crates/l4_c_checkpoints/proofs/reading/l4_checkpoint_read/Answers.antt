use Rattle.std.proofs.Common.{List, ℕ, Some, Option, inl, inr, sym, ap, ◌∙◌, subst}
use Rattle.l4_ipc.specs.Machine.{Machine}
use Rattle.l4_c_checkpoints.specs.Checkpoints.{ReadsCheckpoint}
use Rattle.l4_c_checkpoints.proofs.reading.l4_checkpoint_read.Goals as goal

pub returns-in-Ok-new : goal.returns-in-Ok-new
returns-in-Ok-new c =
    subst (λ (old : Option Machine). ReadsCheckpoint old c.args.bytes.now c.checkpoint_told.result c.put-in-Ok-new.new.self.value) (sym c.in_default.ensures.taken)
    (inl (c.in-Ok.read.frames, c.in-Ok.read.entries, c.in-Ok.read.kernel, c.in-Ok.ensures.ok, c.checkpoint_told.ensures, c.put-in-Ok-new.ensures ∙ ap Some c.in-Ok-new.ensures.ok))
