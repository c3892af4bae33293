use Rattle.l4_seated_lock.proofs.Naming.{SoFarStrange}
use Rattle.l4_seated_lock.proofs.closing.first_foreign.Given as goal

abbrev pub invariant-loop-i : goal.invariant-loop-i
invariant-loop-i l = SoFarStrange l.seats l.numbers l.i l.found
