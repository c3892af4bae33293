use Rattle.std.proofs.Common.{◌≡◌, ◌+◌, ◌++◌, take}
use Rattle.l4_orders.specs.Telling.{outcomes_text}
use Rattle.l4_orders.proofs.telling.put_outcomes.Given as goal

abbrev pub invariant-loop-one : goal.invariant-loop-one
invariant-loop-one l = (l.number ≡ l.one-index + 1) × (l.out.items ≡ l.initial.out.items ++ outcomes_text l.plan l.style 1 (take l.one-index l.found))
