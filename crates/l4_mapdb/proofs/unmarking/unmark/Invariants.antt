use Rattle.std.proofs.Common.{◌≡◌}
use Rattle.l4_mapdb.specs.Inside.Cutting.{Tidies}
use Rattle.l4_mapdb.specs.Inside.Messages.{OfItems}
use Rattle.l4_mapdb.proofs.unmarking.unmark.Given as goal

-- the pages of the items before this one are cut and have lost their marks
abbrev pub invariant-loop-item : goal.invariant-loop-item
invariant-loop-item l = record {
  tidies : Tidies (OfItems l.from l.to l.items l.item) l.fn.links.entries l.links.entries;
  spaces : l.links.spaces ≡ l.fn.links.spaces;
}
