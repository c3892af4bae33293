-- The queue of senders as a list of numbers (this profile's own).
use Rattle.std.specs.Prelude.{◌≡◌, ℕ, ◌==◌, Bool, false, List, [], ◌∷◌, ◌++◌, map}
use Rattle.std.specs.List.{list_any}

-- the pairs of a list: each item with each later one
abbrev pub pairs_of : List ℕ → List (ℕ × ℕ)
pairs_of [] = []
pairs_of (a ∷ rest) = map (λ b. (a, b)) rest ++ pairs_of rest

-- whether the number is in the list
abbrev pub is_in : List ℕ → ℕ → Bool
is_in queue n = list_any (λ m. n == m) queue

-- no number is in the list twice
abbrev pub IsOnce : List ℕ → Type 0
IsOnce [] = Unit {0}
IsOnce (a ∷ rest) = (is_in rest a ≡ false) × IsOnce rest
