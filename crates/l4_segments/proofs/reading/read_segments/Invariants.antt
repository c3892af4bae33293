use Rattle.std.proofs.Common.{◌-◌, length}
use Rattle.l4_segments.proofs.Several.{ReadSoFar, IsLeft}
use Rattle.l4_segments.proofs.reading.read_segments.Given as goal

abbrev pub invariant-loop-read : goal.invariant-loop-read
invariant-loop-read l = ReadSoFar l.bytes l.segments.items l.at × IsLeft l.bytes l.segments.items l.at

abbrev pub decreases-loop-read : goal.decreases-loop-read
decreases-loop-read l = length l.bytes - l.at
