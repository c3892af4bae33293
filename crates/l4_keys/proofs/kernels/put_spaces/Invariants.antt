use Rattle.std.proofs.Common.{◌-◌, ◌^◌}
use Rattle.l4_keys.specs.Keys.{has_space, AreOfSpace}
use Rattle.l4_keys.proofs.Listing.{IsBegun}
use Rattle.l4_keys.proofs.kernels.put_spaces.Given as goal

abbrev pub invariant-loop-space : goal.invariant-loop-space
invariant-loop-space l = IsBegun (has_space l.kernel.mappings) (AreOfSpace l.kernel.mappings) l.initial.out.items l.from l.out.items

abbrev pub decreases-loop-space : goal.decreases-loop-space
decreases-loop-space l = 2 ^ 64 - l.from
