use Rattle.l4_judging.proofs.JudgedLines.{SoFar}
use Rattle.l4_judging.proofs.judging.judge_lines.Given as goal

abbrev pub invariant-loop-number : goal.invariant-loop-number
invariant-loop-number g l =
    SoFar l.initial.kernel l.initial.judged (g.R.Read.remaining l.initial.reader) (g.R.Read.remaining l.reader) l.lines.0 l.number l.kernel l.judged (g.W.Write.contents l.initial.writer) (g.W.Write.contents l.writer) l.initial.out l.out
