use Rattle.std.proofs.Common.{◌≡◌, ℕ, ◌≤◌, length, Some, slice_get}
use Rattle.l4_msg.specs.declared.items.ItemMove.{ItemMove}
use Rattle.l4_links.specs.Inside.Bringing.{MakesTables, CanBring}
use Rattle.l4_links.specs.Inside.Keeping.{entries_of}
use Rattle.l4_links.proofs.wants.wants_all.Given as goal

-- what the items before this one need
abbrev pub invariant-loop-item : goal.invariant-loop-item
invariant-loop-item l = record {
  can : CanBring l.from l.to l.items l.item (entries_of l.nodes.slots) l.targets.items l.slots l.changes;
  few : (high : ℕ) (by : ItemMove) → l.item ≤ high → slice_get l.items high ≡ Some by → l.slots ≤ by.mv.target.first;
  within : l.item ≤ length l.items;
  makes : MakesTables l.fn.targets.items l.targets.items;
}
