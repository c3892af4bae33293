use Rattle.l4_links.specs.Inside.Stacks.{HasStack}
use Rattle.l4_links.proofs.Walking.{WalkSoFar}
use Rattle.l4_links.proofs.walks.cap_below.Given as goal

abbrev pub invariant-loop : goal.invariant-loop
invariant-loop l = WalkSoFar l.fn.nodes.slots l.nodes.slots l.top l.depth l.cap l.stamp l.at l.counter × HasStack l.nodes.slots l.doomed
