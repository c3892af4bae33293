use Rattle.std.proofs.Common.{◌≡◌, ◌++◌, drop, take}
use Rattle.std.specs.List.{All}
use Rattle.l4_segments.specs.Entries.{IsWritable}
use Rattle.l4_segments.specs.Files.{bytes_of, entries_code}
use Rattle.l4_segments.proofs.files.push_entries.Given as goal

abbrev pub invariant-loop-place : goal.invariant-loop-place
invariant-loop-place l =
    (l.out.items ++ bytes_of (entries_code (drop l.place l.history.entries)) ≡ l.initial.out.items ++ bytes_of (entries_code l.history.entries))
    × All IsWritable (take l.place l.history.entries)
