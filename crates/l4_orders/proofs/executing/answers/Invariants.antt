use Rattle.std.proofs.Common.{take}
use Rattle.l4_shell.specs.ByLines.{state_of}
use Rattle.l4_orders.specs.Inside.Executed.{Asked}
use Rattle.l4_orders.proofs.executing.answers.Given as goal

abbrev pub invariant-loop-query : goal.invariant-loop-query
invariant-loop-query l = Asked (state_of l.initial.script) (state_of l.script) l.first l.number (take l.query-index l.queries) l.text.items
