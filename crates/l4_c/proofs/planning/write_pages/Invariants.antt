use Rattle.std.proofs.Common.{◌≡◌, ◌++◌, take, drop}
use Rattle.l4_c_queries.specs.Placed.{placed}
use Rattle.l4_c.proofs.planning.write_pages.Given as goal

abbrev pub invariant-loop-page : goal.invariant-loop-page
invariant-loop-page l = take l.at l.out ++ placed l.page-iterator (drop l.at l.out) ≡ placed l.fn.pages l.initial.out
