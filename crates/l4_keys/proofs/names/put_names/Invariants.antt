use Rattle.std.proofs.Common.{◌≡◌, ◌++◌, flat_map, take}
use Rattle.l4_keys.specs.Words.{name_words}
use Rattle.l4_keys.proofs.names.put_names.Given as goal

abbrev pub invariant-loop-entry : goal.invariant-loop-entry
invariant-loop-entry l = l.out.items ≡ l.initial.out.items ++ flat_map name_words (take l.entry-index l.entries)
