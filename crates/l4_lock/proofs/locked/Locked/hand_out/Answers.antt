use Rattle.std.proofs.Common.{sym}
use Rattle.l4_lock.proofs.Forgetting.{can_forget, forgotten_kept}
use Rattle.l4_lock.proofs.locked.Locked.hand_out.Goals as goal

pub forget-requires : goal.forget-requires
forget-requires c =
    can_forget c.self.inside.recorder c.hand_out-segment.new.self c.self.inside.accounts.items c.hand_out-segment.result c.self.invariant c.law_kept.ensures c.hand_out-segment.ensures.some c.hand_out-segment.ensures.none
    (sym c.if-is_some.ensures)

pub invariant_of-self : goal.invariant_of-self
invariant_of-self c =
    forgotten_kept c.self.inside.recorder c.hand_out-segment.new.self c.self.inside.accounts.items c.hand_out-segment.result c.self.invariant c.law_kept.ensures c.hand_out-segment.ensures.some c.hand_out-segment.ensures.none
    c.forget.new.self.items c.forget.ensures (sym c.if-is_some.ensures)
