use Rattle.std.proofs.Common.{take}
use Rattle.l4_shell.specs.ByLines.{state_of}
use Rattle.l4_orders.specs.Inside.Executed.{Executed}
use Rattle.l4_orders.proofs.executing.execute_all.Given as goal

abbrev pub invariant-loop-line : goal.invariant-loop-line
invariant-loop-line l = Executed (state_of l.initial.script) (state_of l.script) l.first l.number (take l.line-index l.lines)
