-- The spelling of words (this profile's own).
use Rattle.std.specs.Prelude.{ℕ, ◌+◌, ◌/◌, ◌%◌, ◌^◌, nat_lt, List, [], ◌∷◌, map, ◌++◌, if◌then◌else◌}

-- a hexadecimal digit in lower case
abbrev pub hex_digit : ℕ → ℕ
hex_digit value = if nat_lt value 10 then 48 + value else 87 + value

-- a word in eight hexadecimal digits, the highest first
abbrev pub word_text : ℕ → List ℕ
word_text word = map (λ shift. hex_digit (word / 2 ^ shift % 16)) (28 ∷ 24 ∷ 20 ∷ 16 ∷ 12 ∷ 8 ∷ 4 ∷ 0 ∷ [])

-- words, each after a space
abbrev pub words_text : List ℕ → List ℕ
words_text [] = []
words_text (word ∷ words) = 32 ∷ (word_text word ++ words_text words)
