use Rattle.std.proofs.Common.{◌≡◌, ◌-◌, ◌++◌, drop}
use Rattle.l4_naturals.proofs.Printing.{digits_text}
use Rattle.l4_naturals.proofs.digits.put_digits.Given as goal

abbrev pub invariant-loop-done : goal.invariant-loop-done
invariant-loop-done l = l.out.items ≡ l.initial.out.items ++ digits_text (drop (l.count - l.done) l.digits)
