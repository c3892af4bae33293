use Rattle.l4_spaces.proofs.Walk.{NoneYet}
use Rattle.l4_spaces.proofs.tables.next_table.Given as goal

abbrev pub invariant-loop-high : goal.invariant-loop-high
invariant-loop-high l = NoneYet l.tables.items l.page l.high l.end
