use Rattle.l4_shell.specs.ByLines.{state_of}
use Rattle.l4_expectations.proofs.CopiedLines.{SoFar}
use Rattle.l4_expectations.proofs.copying.Copying.copy_lines.Given as goal

abbrev pub invariant-loop-number : goal.invariant-loop-number
invariant-loop-number g l =
    SoFar (state_of l.initial.run) (g.R.Read.remaining l.initial.reader) (g.R.Read.remaining l.reader) l.lines.0 l.number (state_of l.run) l.self
