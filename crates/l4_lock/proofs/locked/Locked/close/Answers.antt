use Rattle.std.proofs.Common.{refl, ap, ◌∙◌, subst}
use Rattle.l4_record.specs.Laws.{IsWholeRun}
use Rattle.l4_record.specs.Segments.{kept}
use Rattle.l4_lock.specs.Locked.{Lock}
use Rattle.l4_lock.proofs.Back.{told_mismatch, told_closed}
use Rattle.l4_lock.proofs.locked.Locked.close.Goals as goal

pub returns-in-Some-clause-err : goal.returns-in-Some-clause-err
returns-in-Some-clause-err c =
    (refl, refl, told_mismatch _ _ c.as_slice.result.now c.as_slice-2.result.now c.args.seats.items c.in-Some.mismatch c.self.view_is c.self.invariant c.as_slice.ensures c.as_slice-2.ensures.value c.in-Some.ensures)

pub returns-clause-ok : goal.returns-clause-ok
returns-clause-ok c = (
  c.into_parts.ensures.same.0 ∙ ap (λ (l : Lock). kept l.kept_from l.history) c.self.view_is,
  c.into_parts.ensures.same.1 ∙ ap (λ (l : Lock). l.kernel) c.self.view_is,
  told_closed _ _ c.as_slice.result.now c.as_slice-2.result.now c.args.seats.items c.self.view_is c.self.invariant c.as_slice.ensures c.as_slice-2.ensures.value c.in_default.ensures,
)

pub returns-clause-history : goal.returns-clause-history
returns-clause-history c = subst (λ (l : Lock). IsWholeRun l.frames l.history c.into_parts.result.1) c.self.view_is c.into_parts.ensures.history
