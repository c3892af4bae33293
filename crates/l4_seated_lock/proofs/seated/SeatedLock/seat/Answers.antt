use Rattle.l4_seated_lock.proofs.Answering.{unseated, shown}
use Rattle.l4_seated_lock.proofs.seated.SeatedLock.seat.Goals as goal

pub returns-in_default : goal.returns-in_default
returns-in_default c =
    unseated c.self.inside.locked c.args.self.now c.self.view_is c.self.inside.seats.items c.as_slice.result.now c.as_slice.ensures.value c.self.invariant c.args.number c.in_default.ensures

pub returns : goal.returns
returns c =
    shown c.self.inside.locked c.args.self.now c.self.view_is c.self.inside.seats.items c.as_slice.result.now c.as_slice.ensures.value c.self.invariant c.args.number
    c.in-Some.at c.index.result.now c.in-Some.ensures c.index.ensures c.law_kept.ensures
