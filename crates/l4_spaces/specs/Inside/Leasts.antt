-- The least number of a list that is not below another one.
use Rattle.std.specs.Prelude.{◌≡◌, ℕ, ◌<◌, ◌≤◌, List, Option, Some, None, slice_get, nat_lt, if◌then◌else◌}
use Rattle.std.specs.Option.{option_map_or}

-- the least so far, with this number
abbrev pub least_with : ℕ → Option ℕ → ℕ → Option ℕ
least_with from least n = if nat_lt n from then least else Some (option_map_or (λ other. if nat_lt other n then other else n) least n)

module _ {X : Type 0} where
  -- a number stands in the list
  pub record Stands (es : List (ℕ × X)) (n : ℕ) : Type 0 where
    pub at : ℕ
    pub entry : ℕ × X
    pub there : slice_get es at ≡ Some entry
    pub number : entry.0 ≡ n

  -- the least so far, of the numbers before a place
  abbrev pub LeastSoFar : ℕ → List (ℕ × X) → ℕ → Option ℕ → Type 0
  LeastSoFar from es i None = (k : ℕ) (e : ℕ × X) → k < i → slice_get es k ≡ Some e → e.0 < from
  LeastSoFar from es i (Some n) = Stands es n × (from ≤ n) × ((k : ℕ) (e : ℕ × X) → k < i → slice_get es k ≡ Some e → from ≤ e.0 → n ≤ e.0)
