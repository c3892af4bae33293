use Rattle.std.proofs.Common.{◌≡◌, ℕ, ◌<◌, ◌≤◌, None}
use Rattle.l4_sigma0.specs.Inside.Tables.{owner_in}
use Rattle.l4_sigma0.proofs.owners.next_owned.Given as goal

abbrev pub invariant-loop-frame : goal.invariant-loop-frame
invariant-loop-frame l = (other : ℕ) → l.from ≤ other → other < l.frame → owner_in l.owners other ≡ None
