use Rattle.std.proofs.Common.{◌≡◌, ◌++◌, flat_map, take}
use Rattle.l4_orders.specs.Rules.{first_text}
use Rattle.l4_orders.proofs.rules.put_all.Given as goal

abbrev pub invariant-loop-line : goal.invariant-loop-line
invariant-loop-line l = l.out.items ≡ l.initial.out.items ++ flat_map (λ line. first_text l.plan l.explain line 1 l.found) (take l.line-index l.lines)
