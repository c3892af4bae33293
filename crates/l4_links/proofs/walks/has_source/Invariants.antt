use Rattle.l4_links.proofs.Seeking.{SeekSoFar}
use Rattle.l4_links.proofs.walks.has_source.Given as goal

abbrev pub invariant-loop : goal.invariant-loop
invariant-loop l = SeekSoFar l.fn.nodes.slots l.nodes.slots l.top l.depth l.stamp l.at l.counter
