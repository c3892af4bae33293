use Rattle.std.proofs.Common.{Option, sym, subst}
use Rattle.l4_lock.specs.Locked.{Lock}
use Rattle.l4_c_locks.specs.Locking.{TakesReply, TakesSeat}
use Rattle.l4_c_locks.proofs.locking.l4_lock_take.Goals as goal

pub returns : goal.returns
returns c =
    let after = c.take-taken.new.lock in let r = c.take-taken.result in
    subst (λ (old : Option Lock). TakesSeat old c.args.number r c.put.new.self.value) (sym c.in-Some.ensures.taken)
    (after, subst (λ (l : Lock). TakesReply l c.args.number r after) c.deref_mut.ensures.value c.take-taken.ensures, c.put.ensures)
