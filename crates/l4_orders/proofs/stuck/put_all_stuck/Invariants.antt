use Rattle.std.proofs.Common.{◌≡◌, ◌++◌, take}
use Rattle.l4_orders.specs.Turns.{stuck_lines}
use Rattle.l4_orders.proofs.stuck.put_all_stuck.Given as goal

abbrev pub invariant-loop-place : goal.invariant-loop-place
invariant-loop-place l = l.out.items ≡ l.initial.out.items ++ stuck_lines (take l.place l.blocks) (take l.place l.gone)
