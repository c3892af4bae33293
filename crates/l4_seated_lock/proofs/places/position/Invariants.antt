use Rattle.l4_lock.specs.Closing.{HasSeat}
use Rattle.l4_seated_lock.proofs.places.position.Given as goal

abbrev pub invariant-loop-i : goal.invariant-loop-i
invariant-loop-i l = ¬ (HasSeat l.seats l.i l.number)
