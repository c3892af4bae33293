use Rattle.std.proofs.Common.{◌≤◌, ◌-◌}
use Rattle.l4_spaces.specs.Tables.{space_pages}
use Rattle.l4_links.proofs.ParentWalk.{NoneYet}
use Rattle.l4_links.proofs.parents.seek_parent.Given as goal

abbrev pub invariant-loop-start : goal.invariant-loop-start
invariant-loop-start l = (l.page ≤ l.next) × NoneYet l.nodes.slots l.pages l.space l.page l.end l.next

abbrev pub decreases-loop-start : goal.decreases-loop-start
decreases-loop-start l = space_pages - l.next
