use Rattle.std.proofs.Common.{◌≡◌, ◌≤◌, ℕ, length, slice_index_or, vec_capacity, ◌+◌}
use Rattle.l4_nodes.specs.Inside.Packed.{no_note}
use Rattle.l4_nodes.proofs.slots.reach.Given as goal

abbrev pub invariant-loop : goal.invariant-loop
invariant-loop l =
    (length l.notes.items ≡ l.counter) × (l.key + 1 ≤ vec_capacity l.notes) × (vec_capacity l.fn.notes ≤ vec_capacity l.notes)
    × ((other : ℕ) → slice_index_or l.notes.items other no_note ≡ slice_index_or l.fn.notes.items other no_note)
