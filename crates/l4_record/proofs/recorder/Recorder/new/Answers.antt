use Rattle.std.proofs.Common.{ap, length}
use Rattle.l4_record.proofs.Booting.{begins_kept}
use Rattle.l4_record.proofs.recorder.Recorder.new.Goals as goal

pub invariant_of-recorder : goal.invariant_of-recorder
invariant_of-recorder c =
    let p = c.in-Ok-new.publisher in (
      begins_kept c.args.frames c.in-Ok.kernel _ _ p.board p.shown c.in-Ok.ensures.0 c.law_forest.ensures c.in-Ok-new.ensures c.new-2.ensures c.new-3.ensures,
      ap length c.new-2.ensures,
    )
