use Rattle.std.proofs.Common.{◌-◌, ◌^◌}
use Rattle.l4_keys.specs.Keys.{has_page, AreOfPage}
use Rattle.l4_keys.proofs.Listing.{IsBegun}
use Rattle.l4_keys.proofs.kernels.put_pages.Given as goal

abbrev pub invariant-loop-page : goal.invariant-loop-page
invariant-loop-page l = IsBegun (has_page l.kernel.mappings l.space) (AreOfPage l.kernel.mappings l.space) l.initial.out.items l.from l.out.items

abbrev pub decreases-loop-page : goal.decreases-loop-page
decreases-loop-page l = 2 ^ 32 - l.from
