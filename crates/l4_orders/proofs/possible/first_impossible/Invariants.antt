use Rattle.std.proofs.Common.{◌≡◌, drop}
use Rattle.l4_orders.specs.Possible.{first_impossible}
use Rattle.l4_orders.proofs.possible.first_impossible.Given as goal

abbrev pub invariant-loop-line : goal.invariant-loop-line
invariant-loop-line l = first_impossible l.size l.plan l.threads l.lines ≡ first_impossible l.size l.plan l.threads (drop l.line-index l.lines)
