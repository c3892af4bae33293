use Rattle.std.proofs.Common.{◌≡◌, ◌+◌, drop}
use Rattle.l4_c_queries.specs.Placed.{placed_behind}
use Rattle.l4_c_queries.proofs.entries.write_numbers.Given as goal

abbrev pub invariant-loop-at : goal.invariant-loop-at
invariant-loop-at l = placed_behind (l.behind + l.at) (drop l.at l.numbers) l.out ≡ placed_behind l.behind l.numbers l.initial.out
