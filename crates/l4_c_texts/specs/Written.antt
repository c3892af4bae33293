-- Texts in an array that C passed (this profile's own).
use Rattle.std.specs.Prelude.{ℕ, List, [], ◌∷◌, ◌++◌, length, take, drop}

-- The array after the text was written to it: the first bytes of the text, at most one fewer than the array has; a 0 after them; and the
-- rest of the array, which is unchanged.
abbrev pub written : List ℕ → List ℕ → List ℕ
written text [] = []
written text (place ∷ places) = take (length places) text ++ 0 ∷ drop (length (take (length places) text)) places
