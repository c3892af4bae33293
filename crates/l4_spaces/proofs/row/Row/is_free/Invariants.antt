use Rattle.std.specs.Prelude.{◌≡◌, false}
use Rattle.l4_spaces.specs.Tables.{NoKeys}
use Rattle.l4_spaces.proofs.row.Row.is_free.Given as goal

abbrev pub invariant-loop-low : goal.invariant-loop-low
invariant-loop-low l = l.used ≡ false → NoKeys l.self l.from l.low
