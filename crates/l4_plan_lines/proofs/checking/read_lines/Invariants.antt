use Rattle.l4_plan_lines.proofs.FoundLemmas.{SoFar}
use Rattle.l4_plan_lines.proofs.checking.read_lines.Given as goal

abbrev pub invariant-loop-turn : goal.invariant-loop-turn
invariant-loop-turn g l = SoFar (g.R.Read.remaining l.initial.reader) (g.R.Read.remaining l.reader) l.lines.0 l.found
