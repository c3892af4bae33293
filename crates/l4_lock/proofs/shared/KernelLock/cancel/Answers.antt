use Rattle.std.proofs.Common.{sym, ◌∙◌, subst}
use Rattle.l4_lock.specs.Locked.{IsKept}
use Rattle.l4_lock.proofs.Canceling.{declined_on}
use Rattle.l4_lock.proofs.shared.KernelLock.cancel.Goals as goal

pub returns-clause-ok : goal.returns-clause-ok
returns-clause-ok g c = record {
  old = c.deref_mut.result.now;
  new = c.cancel.new.self;
  kept = subst IsKept (c.deref.ensures ∙ sym c.deref_mut.ensures.value) c.law_kept.ensures;
  cancels = c.in_ok-cancel.ensures.ok;
}

pub returns-in_err-cancel-clause-refuses : goal.returns-in_err-cancel-clause-refuses
returns-in_err-cancel-clause-refuses g c =
    declined_on c.deref_mut.result.now c.args.number c.args.cause c.from_residual.result _ c.from_residual.ensures.1 (subst IsKept (c.deref.ensures ∙ sym c.deref_mut.ensures.value) c.law_kept.ensures) c.in_err-cancel.ensures.err.0
