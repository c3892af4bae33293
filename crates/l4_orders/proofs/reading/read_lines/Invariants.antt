use Rattle.l4_orders.specs.Inside.Parts.{parts_of}
use Rattle.l4_orders.proofs.PlanLines.{SoFar}
use Rattle.l4_orders.proofs.reading.read_lines.Given as goal

abbrev pub invariant-loop-number : goal.invariant-loop-number
invariant-loop-number g l =
    SoFar l.size (g.R.Read.remaining l.initial.reader) (g.R.Read.remaining l.reader) l.lines.0 l.number (parts_of l.reading)
