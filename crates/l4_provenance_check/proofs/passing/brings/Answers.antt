use Rattle.l4_provenance_check.proofs.Alone.{told_carried}
use Rattle.l4_record.proofs.Carried.{carried_brings}
use Rattle.l4_provenance_check.proofs.passing.brings.Goals as goal

pub returns-clause-ok : goal.returns-clause-ok
returns-clause-ok c =
    let does = c.in_default.ensures.ok in
    let done = c.is_done-done.ensures.0 c.if-not-done.false in (
      does,
      (
        λ h. carried_brings c.args.kernel.now c.redo.new.kernel c.args.entry.now c.args.link.now does done (c.is_carried-carried.ensures.0 h),
        λ h. c.is_carried-carried.ensures.1 (told_carried c.args.kernel.now c.redo.new.kernel c.args.entry.now c.args.link.now h),
      ),
    )
