use Rattle.std.proofs.Common.{◌≡◌, ◌<◌, ◌≤◌, ℕ, max, slice_get}
use Rattle.l4_lock.proofs.receipts.Receipts.same.Given as goal

abbrev pub invariant-loop-number : goal.invariant-loop-number
invariant-loop-number l =
    (max l.self.kept_from l.other.kept_from ≤ l.number)
    × ((k : ℕ) → max l.self.kept_from l.other.kept_from ≤ k → k < l.number → slice_get l.self.items k ≡ slice_get l.other.items k)
