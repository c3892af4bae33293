use Rattle.std.proofs.Common.{◌≡◌, ◌++◌, flat_map, take}
use Rattle.l4_orders.specs.Plans.{gone_after, none_gone}
use Rattle.l4_orders.specs.Telling.{number_text, lines_from}
use Rattle.l4_orders.proofs.telling.put_numbers.Given as goal

abbrev pub invariant-loop-place : goal.invariant-loop-place
invariant-loop-place l =
    (l.out.items ≡ l.initial.out.items ++ flat_map (number_text l.explain) (lines_from l.plan.blocks.items (none_gone l.plan) (take l.place-index l.order)))
    × (l.gone.items ≡ gone_after (none_gone l.plan) (take l.place-index l.order))
