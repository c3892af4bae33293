use Rattle.std.proofs.Common.{inr, refl}
use Rattle.l4_c_locks.proofs.locking.enter.Goals as goal

pub returns-in-Ok : goal.returns-in-Ok
returns-in-Ok c = inr (c.write_call.new.call, c.if-not-write_call.ensures.is refl, inr (c.in-Ok.entered, c.in-Ok.ensures.ok, c.entered_told.ensures))
