use Rattle.std.proofs.Common.{length}
use Rattle.l4_expectations.proofs.CopiedLines.{Adding}
use Rattle.l4_expectations.proofs.copying.Copying.add_answers.Given as goal

abbrev pub invariant-loop-rest : goal.invariant-loop-rest
invariant-loop-rest l = Adding l.initial.self l.self l.text l.rest

abbrev pub decreases-loop-rest : goal.decreases-loop-rest
decreases-loop-rest l = length l.rest
