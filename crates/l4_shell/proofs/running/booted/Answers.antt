use Rattle.std.proofs.Common.{sym}
use Rattle.l4_shell.proofs.Booted.{ok_part}
use Rattle.l4_shell.proofs.Going.{first_seats}
use Rattle.l4_shell.proofs.running.booted.Goals as goal

pub returns : goal.returns
returns c =
    first_seats _ _ _ _ _ c.in-Ok.ensures (ok_part _ _ _ c.give.ensures (sym c.if-is_err.ensures.value)) (ok_part _ _ _ c.give-2.ensures (sym c.if-is_err-2.ensures.value))
