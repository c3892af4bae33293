use Rattle.std.proofs.Common.{Option, sym, subst}
use Rattle.l4_lock.specs.Locked.{Lock}
use Rattle.l4_c_locks.specs.Locking.{CancelsWait, CancelsThread}
use Rattle.l4_c_locks.proofs.locking.cancel_thread.Goals as goal

pub returns : goal.returns
returns c =
    let after = c.cancel-canceled.new.lock in let r = c.cancel-canceled.result in
    subst (λ (old : Option Lock). CancelsThread old c.args.thread c.args.cause r c.put.new.self.value) (sym c.in-Some.ensures.taken)
    (after, subst (λ (l : Lock). CancelsWait l c.args.thread c.args.cause r after) c.deref_mut.ensures.value c.cancel-canceled.ensures, c.put.ensures)
