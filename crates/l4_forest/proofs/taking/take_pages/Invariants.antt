use Rattle.std.proofs.Common.{◌-◌}
use Rattle.l4_forest.proofs.Taken.{TakenTo}
use Rattle.l4_forest.proofs.taking.take_pages.Given as goal

-- the pages before this one have gone, where they are meant, with what descends from them
abbrev pub invariant-loop-page : goal.invariant-loop-page
invariant-loop-page l = TakenTo l.space l.first l.end l.with_self l.fn.links l.links l.next

abbrev pub decreases-loop-page : goal.decreases-loop-page
decreases-loop-page l = l.end - l.next
