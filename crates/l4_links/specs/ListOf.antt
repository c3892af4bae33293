-- Lists without repetitions.
use Rattle.std.specs.Prelude.{◌≡◌, ◌↔◌, ℕ, List, Some, slice_get}

-- the list has each value that meets the condition, once, and no other value
pub record IsListOf {X : Type 0} (Meets : X → Type 0) (list : List X) : Type 0 where
  pub each : (x : X) → Meets x ↔ ((k : ℕ) × (slice_get list k ≡ Some x))
  pub once : (j k : ℕ) (x : X) → slice_get list j ≡ Some x → slice_get list k ≡ Some x → j ≡ k
