use Rattle.l4_lock.proofs.Taken.{takes_own}
use Rattle.l4_lock.proofs.shared.take_own.Goals as goal

pub returns : goal.returns
returns c =
    takes_own c.take_for.result c.args.locked.now c.take_for.new.self c.args.seat.now c.take_for.new.seat c.args.own.now c.law_kept.ensures c.take_for.ensures.some c.take_for.ensures.none
