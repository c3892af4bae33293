use Rattle.std.proofs.Common.{◌-◌, ◌^◌}
use Rattle.l4_ipc.proofs.Holding.{HaveBelow}
use Rattle.l4_ipc.proofs.parts.are_all.Given as goal

abbrev pub invariant-loop-number : goal.invariant-loop-number
invariant-loop-number l = HaveBelow l.threads l.forest l.from

abbrev pub decreases-loop-number : goal.decreases-loop-number
decreases-loop-number l = 2 ^ 32 - l.from
