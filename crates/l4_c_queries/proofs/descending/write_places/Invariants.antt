use Rattle.std.proofs.Common.{◌≡◌, ◌++◌, take, drop, map}
use Rattle.l4_c_queries.specs.Descended.{place_result}
use Rattle.l4_c_queries.specs.Placed.{placed}
use Rattle.l4_c_queries.proofs.descending.write_places.Given as goal

abbrev pub invariant-loop-at : goal.invariant-loop-at
invariant-loop-at l = take l.at l.out ++ placed (map place_result (drop l.at l.places)) (drop l.at l.out) ≡ placed (map place_result l.places) l.initial.out
