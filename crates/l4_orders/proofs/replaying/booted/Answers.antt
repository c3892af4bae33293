use Rattle.std.proofs.Common.{sym, subst}
use Rattle.l4_shell.specs.ByLines.{IsFirst}
use Rattle.l4_orders.proofs.replaying.booted.Goals as goal

pub returns-in-Ok : goal.returns-in-Ok
returns-in-Ok c = subst (IsFirst c.args.frames c.args.size) (sym c.in-Ok.ensures.ok) c.in-Some.ensures
