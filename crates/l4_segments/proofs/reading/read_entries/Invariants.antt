use Rattle.std.proofs.Common.{◌≡◌, length}
use Rattle.l4_segments.specs.Faults.{HasBegun}
use Rattle.l4_segments.proofs.reading.read_entries.Given as goal

abbrev pub invariant-loop-done : goal.invariant-loop-done
invariant-loop-done l = HasBegun l.bytes l.heading l.entries.items l.at × (length l.entries.items ≡ l.done)
