use Rattle.l4_links.specs.Inside.Parents.{NoParents}
use Rattle.l4_links.proofs.parents.parent_among.Given as goal

abbrev pub invariant-loop-low : goal.invariant-loop-low
invariant-loop-low l = NoParents l.nodes.slots l.row l.from l.low
