use Rattle.std.proofs.Common.{◌≡◌, ◌+◌, ◌++◌, length, take}
use Rattle.l4_text.proofs.kept.KeptBytes.push_array.Given as goal

abbrev pub invariant-loop-at : goal.invariant-loop-at
invariant-loop-at g l =
    (l.self-inside.len ≡ l.start) × (length l.self-inside.cells ≡ length l.initial.self-inside.cells)
    × (take (l.start + l.at) l.self-inside.cells ≡ take l.start l.initial.self-inside.cells ++ take l.at l.bytes)
