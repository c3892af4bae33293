use Rattle.l4_spaces.specs.Tables.{NoKeys}
use Rattle.l4_spaces.proofs.tables.next_among.Given as goal

abbrev pub invariant-loop-low : goal.invariant-loop-low
invariant-loop-low l = NoKeys l.row l.from l.low
