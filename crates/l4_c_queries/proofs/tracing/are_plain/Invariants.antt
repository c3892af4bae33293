use Rattle.std.proofs.Common.{◌≡◌, drop}
use Rattle.l4_c_queries.specs.Traced.{are_plain}
use Rattle.l4_c_queries.proofs.tracing.are_plain.Given as goal

abbrev pub invariant-loop-at : goal.invariant-loop-at
invariant-loop-at l = are_plain (drop l.at l.links) ≡ are_plain l.links
