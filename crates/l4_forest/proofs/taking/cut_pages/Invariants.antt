use Rattle.std.proofs.Common.{◌-◌, false}
use Rattle.l4_forest.proofs.Taken.{TakenTo}
use Rattle.l4_forest.proofs.taking.cut_pages.Given as goal

-- what descends from the pages before this one has gone
abbrev pub invariant-loop-page : goal.invariant-loop-page
invariant-loop-page l = TakenTo l.space l.first l.end false l.fn.links l.links l.next

abbrev pub decreases-loop-page : goal.decreases-loop-page
decreases-loop-page l = l.end - l.next
