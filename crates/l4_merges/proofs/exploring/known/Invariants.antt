use Rattle.std.proofs.Common.{◌-◌, length}
use Rattle.l4_merges.proofs.Linking.{Looks}
use Rattle.l4_merges.proofs.exploring.known.Given as goal

abbrev pub invariant-loop-visited : goal.invariant-loop-visited
invariant-loop-visited l = Looks l.table l.seen l.key l.next (length l.seen - l.visited)
