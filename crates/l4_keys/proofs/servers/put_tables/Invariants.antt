use Rattle.std.proofs.Common.{◌-◌, ◌^◌}
use Rattle.l4_keys.specs.Keys.{has_table, AreOfTable}
use Rattle.l4_keys.proofs.Listing.{IsBegun}
use Rattle.l4_keys.proofs.servers.put_tables.Given as goal

abbrev pub invariant-loop-thread : goal.invariant-loop-thread
invariant-loop-thread l = IsBegun (has_table l.servers) (AreOfTable l.servers) l.initial.out.items l.from l.out.items

abbrev pub decreases-loop-thread : goal.decreases-loop-thread
decreases-loop-thread l = 2 ^ 32 - l.from
