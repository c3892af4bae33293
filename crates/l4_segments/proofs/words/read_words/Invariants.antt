use Rattle.std.proofs.Common.{◌≡◌, ◌++◌, ◌+◌, ◌*◌, drop, length}
use Rattle.l4_segments.specs.Entries.{AreWords}
use Rattle.l4_segments.specs.Files.{bytes_of}
use Rattle.l4_segments.proofs.words.read_words.Given as goal

abbrev pub invariant-loop-i : goal.invariant-loop-i
invariant-loop-i l =
    (drop l.at l.bytes ≡ bytes_of l.out.items ++ drop (l.at + 4 * l.i) l.bytes) × (length l.out.items ≡ l.i) × AreWords l.out.items
