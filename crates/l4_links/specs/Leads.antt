-- Chains of parents (this profile's own).
use Rattle.std.specs.Prelude.{◌≡◌, ℕ, Option, Some}

-- one or more steps to the parent lead from the first key to the second
pub data Leads (parent : ℕ → Option ℕ) : ℕ → ℕ → Type 0 where
  step : {low high : ℕ} → parent low ≡ Some high → Leads parent low high
  steps : {low middle high : ℕ} → parent low ≡ Some middle → Leads parent middle high → Leads parent low high
