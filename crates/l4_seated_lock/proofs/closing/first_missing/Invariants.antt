use Rattle.l4_seated_lock.proofs.Naming.{SoFarUnnamed}
use Rattle.l4_seated_lock.proofs.closing.first_missing.Given as goal

abbrev pub invariant-loop-i : goal.invariant-loop-i
invariant-loop-i l = SoFarUnnamed l.seats l.numbers l.i l.found
