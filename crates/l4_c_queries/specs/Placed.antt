-- Items that are written to an array (this profile's own).
use Rattle.std.specs.Prelude.{ℕ, List, [], ◌∷◌, ◌++◌, take, drop}

-- the places after as many of the items as fit were written to them, from the first place on
abbrev pub placed : {X : Type 0} → List X → List X → List X
placed [] places = places
placed (item ∷ items) [] = []
placed (item ∷ items) (place ∷ places) = item ∷ placed items places

-- the places after as many of the items as fit were written to them, behind the first `at` places
abbrev pub placed_behind : {X : Type 0} → ℕ → List X → List X → List X
placed_behind at items places = take at places ++ placed items (drop at places)
