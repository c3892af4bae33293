use Rattle.std.proofs.Common.{◌-◌, ◌^◌}
use Rattle.l4_keys.specs.Keys.{has_owner, AreOfFrame}
use Rattle.l4_keys.proofs.Listing.{IsBegun}
use Rattle.l4_keys.proofs.servers.put_owners.Given as goal

abbrev pub invariant-loop-frame : goal.invariant-loop-frame
invariant-loop-frame l = IsBegun (has_owner l.owners) (AreOfFrame l.owners) l.initial.out.items l.from l.out.items

abbrev pub decreases-loop-frame : goal.decreases-loop-frame
decreases-loop-frame l = 2 ^ 32 - l.from
