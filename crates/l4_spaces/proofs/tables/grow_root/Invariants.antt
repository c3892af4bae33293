use Rattle.std.proofs.Common.{ℕ, ◌≤◌, ◌≡◌, ◌+◌, length, vec_capacity}
use Rattle.l4_spaces.specs.Rows.{row}
use Rattle.l4_spaces.proofs.tables.grow_root.Given as goal

abbrev pub invariant-loop : goal.invariant-loop
invariant-loop l = (length l.tables.items ≡ l.counter) × (l.high + 1 ≤ vec_capacity l.tables) × ((other : ℕ) → row l.tables.items other ≡ row l.fn.tables.items other)
