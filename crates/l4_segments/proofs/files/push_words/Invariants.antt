use Rattle.std.proofs.Common.{◌≡◌, ◌++◌, drop}
use Rattle.l4_segments.specs.Files.{bytes_of}
use Rattle.l4_segments.proofs.files.push_words.Given as goal

abbrev pub invariant-loop-i : goal.invariant-loop-i
invariant-loop-i l = l.out.items ++ bytes_of (drop l.i l.words) ≡ l.initial.out.items ++ bytes_of l.words
