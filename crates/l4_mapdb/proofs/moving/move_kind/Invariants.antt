use Rattle.std.proofs.Common.{◌≡◌}
use Rattle.l4_links.specs.Entries.{Linked}
use Rattle.l4_mapdb.specs.Inside.Placing.{IsStart, Placed, IsDone}
use Rattle.l4_mapdb.proofs.moving.move_kind.Given as goal

-- the items of the kind before this one are done
abbrev pub invariant-loop-item : goal.invariant-loop-item
invariant-loop-item l = (l.links.spaces ≡ l.fn.links.spaces)
    × ((start : Linked) → IsStart start l.from l.to l.items → Placed start l.from l.to l.items (IsDone start l.from l.to l.items l.grants 0 0) l.fn.links → Placed start l.from l.to l.items (IsDone start l.from l.to l.items l.grants l.item 0) l.links)
