use Rattle.std.specs.List.{AllWithin}
use Rattle.l4_plan_check.specs.Inside.Pages.{LeavesOut}
use Rattle.l4_plan_check.proofs.items.block_from.Given as goal

abbrev pub invariant-loop-place : goal.invariant-loop-place
invariant-loop-place l = AllWithin (LeavesOut l.size l.page) l.items l.from l.place
