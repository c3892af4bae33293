-- The lines of an answer (this profile's own).
use Rattle.std.specs.Prelude.{ℕ, ◌+◌, ◌==◌, ◌&&◌, Bool, not, List, length, take, drop, bytes_eq}
use Rattle.std.specs.List.{position_or_len}

-- the first line of a text
abbrev pub first_line : List ℕ → List ℕ
first_line text = take (position_or_len (λ byte. byte == 10) text) text

-- the lines behind it
abbrev pub later_lines : List ℕ → List ℕ
later_lines text = drop (position_or_len (λ byte. byte == 10) text + 1) text

-- this is the first of the lines that are left
abbrev pub is_next : List ℕ → List ℕ → Bool
is_next answer left = not (length (first_line left) == length left) && bytes_eq answer (first_line left)
