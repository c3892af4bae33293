use Rattle.std.proofs.lemmas.Bool.{false≢true}
use Rattle.l4_record.proofs.Written.{any_written, written_any}
use Rattle.l4_provenance_check.proofs.carrying.is_written.Goals as goal

pub returns-in-None : goal.returns-in-None
returns-in-None c = (λ h. absurd (false≢true h), λ h. absurd (c.in-None.ensures h.1.0 h.1.1 h.1.2 h.1.3 h.1.4))

pub returns-in-Some : goal.returns-in-Some
returns-in-Some c =
    let m = c.args.kernel.now in
    let p = c.in-Some.ensures in (
      λ h. written_any m c.args.step.now _ _ _ _ p c.args.place (c.any_writes.ensures.0 h),
      λ h. c.any_writes.ensures.1 (any_written m c.args.step.now _ _ _ _ p c.args.place h),
    )
