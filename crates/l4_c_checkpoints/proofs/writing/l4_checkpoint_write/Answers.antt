use Rattle.std.proofs.Common.{Option, sym, subst}
use Rattle.l4_ipc.specs.Machine.{Machine}
use Rattle.l4_c_checkpoints.specs.Checkpoints.{Writes, WritesCheckpoint}
use Rattle.l4_c_checkpoints.proofs.writing.l4_checkpoint_write.Goals as goal

pub returns-clause-told : goal.returns-clause-told
returns-clause-told c =
    let r = c.write-told.result in let out = c.write-told.new.out in
    subst (λ (old : Option Machine). WritesCheckpoint old c.args.frames c.args.entries c.args.out.now r out) (sym c.in-Some.ensures.taken)
    (subst (λ (m : Machine). Writes c.args.frames c.args.entries m c.args.out.now r out) c.deref.ensures c.write-told.ensures)
