use Rattle.l4_seated_lock.specs.Inside.Numbers.{HasNumber}
use Rattle.l4_seated_lock.proofs.closing.has_number.Given as goal

abbrev pub invariant-loop-i : goal.invariant-loop-i
invariant-loop-i l = ¬ (HasNumber l.numbers l.i l.number)
