use Rattle.std.proofs.Common.{sym, ◌∙◌, subst}
use Rattle.l4_lock.specs.Locked.{IsKept}
use Rattle.l4_lock.proofs.HandedOut.{is_handed_out}
use Rattle.l4_lock.proofs.shared.KernelLock.hand_out.Goals as goal

pub returns : goal.returns
returns g c =
    is_handed_out c.hand_out.result c.deref_mut.result.now c.hand_out.new.self (subst IsKept (c.deref.ensures ∙ sym c.deref_mut.ensures.value) c.law_kept.ensures)
    c.hand_out.ensures.some c.hand_out.ensures.none
