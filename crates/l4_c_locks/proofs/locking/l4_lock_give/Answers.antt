use Rattle.std.proofs.Common.{Option, sym, subst}
use Rattle.l4_lock.specs.Locked.{Lock}
use Rattle.l4_c_locks.specs.Locking.{Gives, GivesSeat}
use Rattle.l4_c_locks.proofs.locking.l4_lock_give.Goals as goal

pub returns : goal.returns
returns c =
    let after = c.give-given.new.lock in let r = c.give-given.result in
    subst (λ (old : Option Lock). GivesSeat old c.args.number r c.put.new.self.value) (sym c.in-Some.ensures.taken)
    (after, subst (λ (l : Lock). Gives l c.args.number r after) c.deref_mut.ensures.value c.give-given.ensures, c.put.ensures)
