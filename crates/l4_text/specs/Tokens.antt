-- The tokens of a line (this profile's own).
use Rattle.std.specs.Prelude.{ℕ, ◌≡◌, ◌==◌, Bool, true, false, List, [], ◌∷◌, Option, filter}
use Rattle.std.specs.List.{slice_split}
use Rattle.l4_text.specs.Numbers.{number_of}

abbrev pub is_space : ℕ → Bool
is_space byte = byte == 32

abbrev pub has_bytes : List ℕ → Bool
has_bytes [] = false
has_bytes (b ∷ bs) = true

-- the parts of a line between its spaces, without the empty ones
unfoldable pub tokens_of : List ℕ → List (List ℕ)
tokens_of line = filter has_bytes (slice_split is_space line)

-- the number that a line's first token spells, None if it spells none, and the rest of the line after the token
abbrev pub FirstNumber : List ℕ → Option ℕ → List ℕ → Type 0
FirstNumber line number after = (token : List ℕ) × (tokens_of line ≡ token ∷ tokens_of after) × (number ≡ number_of token)
