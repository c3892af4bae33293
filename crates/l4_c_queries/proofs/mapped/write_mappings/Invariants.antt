use Rattle.std.proofs.Common.{◌-◌}
use Rattle.l4_c_queries.proofs.Mapping.{Mapped}
use Rattle.l4_c_queries.proofs.mapped.write_mappings.Given as goal

abbrev pub invariant-loop-page : goal.invariant-loop-page
invariant-loop-page l = Mapped l.kernel l.space l.initial.from l.from l.count l.initial.out l.out

abbrev pub decreases-loop-page : goal.decreases-loop-page
decreases-loop-page l = l.end - l.from
