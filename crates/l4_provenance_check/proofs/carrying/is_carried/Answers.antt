use Rattle.std.proofs.lemmas.Bool.{false≢true}
use Rattle.l4_record.proofs.Written.{any_carried, carried_any}
use Rattle.l4_provenance_check.proofs.carrying.is_carried.Goals as goal

pub returns-in-None : goal.returns-in-None
returns-in-None c = (λ h. absurd (false≢true h), λ h. absurd (c.in-None.ensures h.0 h.1 h.2 h.3 h.4))

pub returns-in-Some : goal.returns-in-Some
returns-in-Some c =
    let m = c.args.kernel.now in
    let p = c.in-Some.ensures in (
      λ h. carried_any m c.args.step.now _ _ _ _ p c.args.link.now (c.any_carries.ensures.0 h),
      λ h. c.any_carries.ensures.1 (any_carried m c.args.step.now _ _ _ _ p c.args.link.now h),
    )
