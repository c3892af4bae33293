use Rattle.l4_lock.proofs.Taken.{answered_in_turn}
use Rattle.l4_lock.proofs.shared.KernelLock.call.Goals as goal

pub returns-in-Some-take_own-clause-ok : goal.returns-in-Some-take_own-clause-ok
returns-in-Some-take_own-clause-ok g c =
    answered_in_turn c.args.seat.now c.enter_kept.new.seat c.loop.seat c.take_own.new.seat c.args.call c.in-Ok.began c.in-Waits.own c.in-Some-take_own.reply c.in-Waits.is c.in-Ok.ensures.ok
    c.loop.invariant.2 c.in-Some-take_own.ensures
