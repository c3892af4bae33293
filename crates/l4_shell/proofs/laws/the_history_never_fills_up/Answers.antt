use Rattle.l4_shell.proofs.Room.{never_full, as_kept}
use Rattle.l4_shell.proofs.laws.the_history_never_fills_up.Goals as goal

pub returns : goal.returns
returns c = (never_full, as_kept)
