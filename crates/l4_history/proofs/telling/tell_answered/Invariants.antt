use Rattle.l4_history.proofs.SoFar.{AnsweredSoFar}
use Rattle.l4_history.proofs.telling.tell_answered.Given as goal

abbrev pub invariant-loop-done : goal.invariant-loop-done
invariant-loop-done g l =
    AnsweredSoFar (g.W.Write.contents l.fn.writer) (g.W.Write.contents l.writer) l.fn.out l.out l.fn.kernel l.kernel l.done-iterator l.fn.history.entries
