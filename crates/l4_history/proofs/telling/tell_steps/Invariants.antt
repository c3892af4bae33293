use Rattle.l4_history.proofs.SoFar.{StepsSoFar, lines_of}
use Rattle.l4_history.proofs.telling.tell_steps.Given as goal

abbrev pub invariant-loop-entry : goal.invariant-loop-entry
invariant-loop-entry g l =
    StepsSoFar (g.W.Write.contents l.fn.writer) (g.W.Write.contents l.writer) l.fn.out l.out l.entry-iterator (lines_of l.fn.history.entries)
