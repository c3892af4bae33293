use Rattle.std.proofs.Common.{Option, sym, subst}
use Rattle.l4_lock.specs.Locked.{Lock}
use Rattle.l4_c_locks.specs.Locking.{EntersCall, EntersSeat}
use Rattle.l4_c_locks.proofs.locking.l4_lock_enter.Goals as goal

pub returns : goal.returns
returns c =
    let after = c.enter-entered.new.lock in let r = c.enter-entered.result in
    subst (λ (old : Option Lock). EntersSeat old c.args.number c.args.call.now c.args.words.now r c.put.new.self.value) (sym c.in-Some.ensures.taken)
    (after, subst (λ (l : Lock). EntersCall l c.args.number c.args.call.now c.args.words.now r after) c.deref_mut.ensures.value c.enter-entered.ensures, c.put.ensures)
