-- Chains of keys.
use Rattle.std.proofs.Common.{◌≡◌, ℕ, Option, Some, sym, ◌∙◌}
use Rattle.l4_links.specs.Leads.{Leads, step, steps}

-- chains go along parents that are parents there too
pub leads_within : (f g : ℕ → Option ℕ) → ((k p : ℕ) → f k ≡ Some p → g k ≡ Some p) → {low high : ℕ} → Leads f low high → Leads g low high
leads_within f g within {low} {high} (step is) = step (within low high is)
leads_within f g within {low} (steps {middle = middle} is rest) = steps (within low middle is) (leads_within f g within rest)

pub leads_along : (f g : ℕ → Option ℕ) → ((key : ℕ) → f key ≡ g key) → {low high : ℕ} → Leads f low high → Leads g low high
leads_along f g same = leads_within f g (λ k p is. sym (same k) ∙ is)

-- chains one after another are a chain
pub leads_on : (f : ℕ → Option ℕ) {low middle high : ℕ} → Leads f low middle → Leads f middle high → Leads f low high
leads_on f (step is) rest = steps is rest
leads_on f (steps is more) rest = steps is (leads_on f more rest)

-- nothing leads to what is the parent of nothing
pub leads_none : (f : ℕ → Option ℕ) (high : ℕ) → ((low : ℕ) → f low ≡ Some high → ⊥) → (low : ℕ) → Leads f low high → ⊥
leads_none f high none low (step up) = none low up
leads_none f high none low (steps {middle = middle} up rest) = leads_none f high none middle rest
