use Rattle.std.proofs.Common.{◌≡◌, ◌++◌, take, drop}
use Rattle.l4_c_texts.proofs.write_text.Given as goal

abbrev pub invariant-loop-i : goal.invariant-loop-i
invariant-loop-i l = l.out ≡ take l.i l.text ++ drop l.i l.initial.out
