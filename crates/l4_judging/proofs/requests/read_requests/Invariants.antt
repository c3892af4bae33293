use Rattle.l4_judging.proofs.RequestLines.{Kept}
use Rattle.l4_judging.proofs.requests.read_requests.Given as goal

abbrev pub invariant-loop-number : goal.invariant-loop-number
invariant-loop-number g l = Kept (g.R.Read.remaining l.initial.reader) (g.R.Read.remaining l.reader) l.lines.0 l.number l.text.items
