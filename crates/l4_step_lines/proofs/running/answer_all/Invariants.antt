use Rattle.l4_step_lines.proofs.Going.{Answered}
use Rattle.l4_step_lines.proofs.running.answer_all.Given as goal

abbrev pub invariant-loop-number : goal.invariant-loop-number
invariant-loop-number g l =
    Answered l.initial.kernel (g.R.Read.remaining l.initial.reader) (g.R.Read.remaining l.reader) l.lines.0 l.number l.kernel (g.W.Write.contents l.initial.writer) (g.W.Write.contents l.writer) l.initial.out l.out
