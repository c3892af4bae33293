use Rattle.std.proofs.Common.{◌-◌, false}
use Rattle.l4_forest.proofs.Capped.{CappedTo}
use Rattle.l4_forest.proofs.revoking.cap_below_pages.Given as goal

-- what descends from a page before this one is capped
abbrev pub invariant-loop-page : goal.invariant-loop-page
invariant-loop-page l = CappedTo l.space l.first l.end false l.cap l.fn.links l.links l.next

abbrev pub decreases-loop-page : goal.decreases-loop-page
decreases-loop-page l = l.end - l.next
