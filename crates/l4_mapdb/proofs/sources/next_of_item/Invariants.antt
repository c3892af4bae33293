use Rattle.std.proofs.Common.{◌≡◌, ◌-◌, ◌≤◌, Some, slice_get}
use Rattle.l4_msg.specs.declared.items.ItemMove.{ItemMove}
use Rattle.l4_mapdb.proofs.Moves.{NoneBetween}
use Rattle.l4_mapdb.proofs.sources.next_of_item.Given as goal

-- no used move of the item stands between the first page that is asked for and this one
abbrev pub invariant-loop-found : goal.invariant-loop-found
invariant-loop-found l = record { after : l.page ≤ l.start; begun : (by : ItemMove) → slice_get l.items l.item ≡ Some by → by.mv.source.first ≤ l.start; none : NoneBetween l.links.entries l.from l.to l.items l.item l.page l.start }

abbrev pub decreases-loop-found : goal.decreases-loop-found
decreases-loop-found l = l.end - l.start
