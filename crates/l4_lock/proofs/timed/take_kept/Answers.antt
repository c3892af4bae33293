use Rattle.l4_lock.proofs.Taken.{takes_or_not}
use Rattle.l4_lock.proofs.timed.take_kept.Goals as goal

pub returns : goal.returns
returns c =
    takes_or_not _ c.take.result c.args.locked.now c.take.new.self c.args.seat.now c.take.new.seat c.law_kept.ensures c.take.ensures.some c.take.ensures.none
