use Rattle.l4_judging.proofs.Skipping.{Reads}
use Rattle.l4_judging.proofs.judging.read_rest.Given as goal

abbrev pub invariant-loop-turn : goal.invariant-loop-turn
invariant-loop-turn g l = Reads (g.R.Read.remaining l.initial.reader) (g.R.Read.remaining l.reader)
