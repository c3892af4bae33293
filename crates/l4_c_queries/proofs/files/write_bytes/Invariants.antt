use Rattle.std.proofs.Common.{◌≡◌, ◌++◌, take, drop}
use Rattle.l4_c_queries.specs.Placed.{placed}
use Rattle.l4_c_queries.proofs.files.write_bytes.Given as goal

abbrev pub invariant-loop-at : goal.invariant-loop-at
invariant-loop-at l = take l.at l.out ++ placed (drop l.at l.bytes) (drop l.at l.out) ≡ placed l.bytes l.initial.out
