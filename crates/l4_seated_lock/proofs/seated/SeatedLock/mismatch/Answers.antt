use Rattle.l4_seated_lock.proofs.Returned.{told}
use Rattle.l4_seated_lock.proofs.seated.SeatedLock.mismatch.Goals as goal

pub returns : goal.returns
returns c =
    told c.self.inside.locked c.args.self.now c.self.view_is c.self.inside.seats.items c.as_slice.result.now c.as_slice.ensures.value c.self.invariant c.args.numbers.now c.mismatch.result
    c.law_kept.ensures c.mismatch.ensures
