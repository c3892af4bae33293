use Rattle.l4_lock.specs.Closing.{HasSeat}
use Rattle.l4_lock.proofs.closing.has_seat.Given as goal

abbrev pub invariant-loop-i : goal.invariant-loop-i
invariant-loop-i l = ¬ (HasSeat l.seats l.i l.number)
