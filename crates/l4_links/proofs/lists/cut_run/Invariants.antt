use Rattle.std.proofs.Common.{◌≡◌}
use Rattle.l4_links.specs.Inside.Keeping.{IsIndexed}
use Rattle.l4_links.proofs.Gaps.{GoneSoFar}
use Rattle.l4_links.proofs.lists.cut_run.Given as goal

abbrev pub invariant-loop-gone : goal.invariant-loop-gone
invariant-loop-gone l = record {
  gone : GoneSoFar l.fn.nodes.slots l.nodes.slots l.top l.depth l.at l.gone;
  indexed : IsIndexed l.fn.nodes.slots l.fn.pages → IsIndexed l.nodes.slots l.pages;
  spaces : l.pages.spaces ≡ l.fn.pages.spaces;
}
