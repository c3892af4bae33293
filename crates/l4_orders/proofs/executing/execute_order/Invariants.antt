use Rattle.std.proofs.Common.{◌≡◌, take}
use Rattle.l4_shell.specs.ByLines.{state_of}
use Rattle.l4_orders.specs.Inside.Executed.{Executed}
use Rattle.l4_orders.specs.Plans.{gone_after, none_gone}
use Rattle.l4_orders.specs.Telling.{lines_from}
use Rattle.l4_orders.proofs.executing.execute_order.Given as goal

abbrev pub invariant-loop-place : goal.invariant-loop-place
invariant-loop-place l =
    Executed (state_of l.initial.script) (state_of l.script) l.first l.number (lines_from l.plan.blocks.items (none_gone l.plan) (take l.place-index l.order))
    × (l.gone.items ≡ gone_after (none_gone l.plan) (take l.place-index l.order))
