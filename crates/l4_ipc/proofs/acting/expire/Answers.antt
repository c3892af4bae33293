use Rattle.std.proofs.Common.{refl}
use Rattle.l4_ipc.proofs.Starts.{expired}
use Rattle.l4_ipc.proofs.acting.expire.Goals as goal

pub returns : goal.returns
returns c = λ size s. expired size c.args.threads.now c.cancel.new.threads s c.args.number c.cancel.result (c.if-not-can_expire.ensures.0 refl) (c.cancel.ensures size s)
