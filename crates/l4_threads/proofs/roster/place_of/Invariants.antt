use Rattle.l4_threads.proofs.NumberLemmas.{NoneBefore}
use Rattle.l4_threads.proofs.roster.place_of.Given as goal

-- none of the numbers so far is this one
abbrev pub invariant-loop-i : goal.invariant-loop-i
invariant-loop-i l = NoneBefore l.numbers l.number l.i
