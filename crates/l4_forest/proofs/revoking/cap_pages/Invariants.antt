use Rattle.std.proofs.Common.{◌-◌}
use Rattle.l4_forest.proofs.Capped.{CappedTo}
use Rattle.l4_forest.proofs.revoking.cap_pages.Given as goal

-- what descends from a page before this one is capped
abbrev pub invariant-loop-page : goal.invariant-loop-page
invariant-loop-page l = CappedTo l.space l.first l.end l.with_self l.cap l.fn.links l.links l.next

abbrev pub decreases-loop-page : goal.decreases-loop-page
decreases-loop-page l = l.end - l.next
