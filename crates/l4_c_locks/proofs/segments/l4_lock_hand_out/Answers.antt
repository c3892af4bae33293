use Rattle.std.proofs.Common.{Option, sym, subst}
use Rattle.l4_lock.specs.Locked.{Lock}
use Rattle.l4_c_locks.specs.Segmented.{HandsOutTo, HandsOutSegment}
use Rattle.l4_c_locks.proofs.segments.l4_lock_hand_out.Goals as goal

pub returns : goal.returns
returns c =
    let after = c.hand_out-handed.new.lock in let r = c.hand_out-handed.result in let later = c.hand_out-handed.new.handle.value in
    subst (λ (old : Option Lock). HandsOutSegment old c.args.segment.now.value r c.put.new.self.value later) (sym c.in-Some.ensures.taken)
    (after, subst (λ (l : Lock). HandsOutTo l c.args.segment.now.value r after later) c.deref_mut.ensures.value c.hand_out-handed.ensures, c.put.ensures)
