use Rattle.std.proofs.Common.{◌≡◌, drop}
use Rattle.l4_orders.specs.Rules.{first_text}
use Rattle.l4_orders.proofs.rules.put_first.Given as goal

abbrev pub invariant-loop-one : goal.invariant-loop-one
invariant-loop-one l =
    (l.out.items ≡ l.initial.out.items) × (first_text l.plan l.explain l.line 1 l.found ≡ first_text l.plan l.explain l.line l.number (drop l.one-index l.found))
