use Rattle.std.proofs.Common.{◌≡◌, ◌++◌, take, drop, map}
use Rattle.l4_c_values.specs.Linked.{link_result}
use Rattle.l4_c_queries.specs.Placed.{placed}
use Rattle.l4_c_queries.proofs.tracing.write_links.Given as goal

abbrev pub invariant-loop-at : goal.invariant-loop-at
invariant-loop-at l = take l.at l.out ++ placed (map link_result (drop l.at l.links)) (drop l.at l.out) ≡ placed (map link_result l.links) l.initial.out
