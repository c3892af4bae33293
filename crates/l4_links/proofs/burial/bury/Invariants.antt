use Rattle.std.proofs.Common.{◌≡◌}
use Rattle.l4_links.specs.Inside.Keeping.{IsIndexed}
use Rattle.l4_links.proofs.Burying.{BuriedSoFar}
use Rattle.l4_links.proofs.burial.bury.Given as goal

abbrev pub invariant-loop : goal.invariant-loop
invariant-loop l = record {
  buried : BuriedSoFar l.fn.nodes.slots l.nodes.slots l.fn.first l.begin l.at l.counter;
  indexed : IsIndexed l.fn.nodes.slots l.fn.pages → IsIndexed l.nodes.slots l.pages;
  spaces : l.pages.spaces ≡ l.fn.pages.spaces;
}
