use Rattle.std.proofs.Common.{◌≡◌, ℕ, ◌<◌, get_or}
use Rattle.l4_merges.specs.declared.found.Found.{Found}
use Rattle.l4_merges.proofs.exploring.found_at.Given as goal

abbrev pub invariant-loop-place : goal.invariant-loop-place
invariant-loop-place l = (k : ℕ) (d : Found) → k < l.place → (get_or l.found k d).outcome.items ≡ l.outcome → ⊥
