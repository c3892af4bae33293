use Rattle.l4_provenance.proofs.Moving.{Passed}
use Rattle.l4_provenance.proofs.moves.next_move.Given as goal

abbrev pub invariant-loop-number : goal.invariant-loop-number
invariant-loop-number l = Passed l.kernel l.step l.item l.page l.number l.from
