use Rattle.l4_shell.specs.ByLines.{state_of}
use Rattle.l4_expectations.proofs.TestedLines.{SoFar}
use Rattle.l4_expectations.proofs.testing.test_lines.Given as goal

abbrev pub invariant-loop-number : goal.invariant-loop-number
invariant-loop-number g l =
    SoFar l.initial.tested.lenient (state_of l.initial.run) (g.R.Read.remaining l.initial.reader) (g.R.Read.remaining l.reader) l.lines.0 l.number (state_of l.run) l.tested
