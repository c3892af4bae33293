use Rattle.l4_shell.specs.ByLines.{state_of}
use Rattle.l4_page.proofs.Caused.{CausesSoFar}
use Rattle.l4_page.proofs.causing.causes.Given as goal

abbrev pub invariant-loop-number : goal.invariant-loop-number
invariant-loop-number l = CausesSoFar (state_of l.initial.run) (state_of l.run) l.script l.rest l.number l.causes.items
