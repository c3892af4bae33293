use Rattle.std.proofs.Common.{◌-◌, ◌^◌}
use Rattle.l4_ipc.proofs.Holding.{FitBelow}
use Rattle.l4_ipc.proofs.parts.pages_fit.Given as goal

abbrev pub invariant-loop-space : goal.invariant-loop-space
invariant-loop-space l = FitBelow l.fn.size l.forest l.from

abbrev pub decreases-loop-space : goal.decreases-loop-space
decreases-loop-space l = 2 ^ 64 - l.from
