use Rattle.std.proofs.Common.{◌-◌}
use Rattle.l4_saved.proofs.Numbers.{IsBetween}
use Rattle.l4_saved.proofs.entries.SavedEntries.entry_at.Given as goal

abbrev pub invariant-loop-low : goal.invariant-loop-low
invariant-loop-low l = IsBetween l.segments l.number l.low l.high

abbrev pub decreases-loop-low : goal.decreases-loop-low
decreases-loop-low l = l.high - l.low
