use Rattle.std.proofs.Common.{sym}
use Rattle.l4_seated_lock.proofs.Forgetting.{handed_agree}
use Rattle.l4_seated_lock.proofs.seated.SeatedLock.hand_out.Goals as goal

pub invariant_of-self : goal.invariant_of-self
invariant_of-self c =
    handed_agree c.self.inside.locked c.hand_out-segment.new.self c.hand_out-segment.result c.self.inside.seats.items c.forget_all.new.seats.items c.self.invariant c.law_kept.ensures c.law_kept-2.ensures
    c.hand_out-segment.ensures.some (sym c.if-is_some.ensures) c.forget_all.ensures
