use Rattle.l4_text.proofs.LineSteps.{SoFar}
use Rattle.l4_text.proofs.lines.next_line.Given as goal

abbrev pub invariant-loop-turn : goal.invariant-loop-turn
invariant-loop-turn g l =
    SoFar (g.R.Read.remaining l.initial.reader) (g.R.Read.remaining l.reader) l.initial.source l.source l.line l.turn
