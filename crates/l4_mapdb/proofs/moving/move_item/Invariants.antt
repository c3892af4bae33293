use Rattle.std.proofs.Common.{◌≡◌, ◌≤◌, ◌-◌}
use Rattle.l4_links.specs.Entries.{Linked}
use Rattle.l4_mapdb.specs.Inside.Placing.{IsStart, Placed, IsDone}
use Rattle.l4_mapdb.proofs.moving.move_item.Given as goal

-- what the item moves of pages before this one is done
abbrev pub invariant-loop-page : goal.invariant-loop-page
invariant-loop-page l = (l.by.mv.source.first ≤ l.begin) × (l.links.spaces ≡ l.fn.links.spaces)
    × ((start : Linked) → IsStart start l.from l.to l.items → Placed start l.from l.to l.items (IsDone start l.from l.to l.items l.grants l.item 0) l.fn.links → Placed start l.from l.to l.items (IsDone start l.from l.to l.items l.grants l.item l.begin) l.links)

abbrev pub decreases-loop-page : goal.decreases-loop-page
decreases-loop-page l = l.end - l.begin
