use Rattle.std.proofs.Common.{◌-◌, ◌^◌}
use Rattle.l4_keys.specs.Keys.{has_thread, AreOfThread}
use Rattle.l4_keys.proofs.Listing.{IsBegun}
use Rattle.l4_keys.proofs.kernels.put_threads.Given as goal

abbrev pub invariant-loop-number : goal.invariant-loop-number
invariant-loop-number l = IsBegun (has_thread l.kernel.threads) (AreOfThread l.kernel.threads) l.initial.out.items l.from l.out.items

abbrev pub decreases-loop-number : goal.decreases-loop-number
decreases-loop-number l = 2 ^ 32 - l.from
