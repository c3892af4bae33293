use Rattle.std.proofs.Common.{◌-◌, ◌*◌}
use Rattle.l4_history.proofs.ListedMoves.{Listed}
use Rattle.l4_history.proofs.moves.step_moves.Given as goal

abbrev pub invariant-loop-moved : goal.invariant-loop-moved
invariant-loop-moved l = Listed l.kernel l.step l.item l.page l.pages.items

abbrev pub decreases-loop-moved : goal.decreases-loop-moved
decreases-loop-moved l = (18446744073709551616 - l.item) * 4194305 - l.page
