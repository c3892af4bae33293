-- The line of words (this profile's own).
use Rattle.std.specs.Prelude.{ℕ, suc, zero, ◌+◌, ◌==◌, List, [], ◌∷◌, ◌++◌, length, slice_index, if◌then◌else◌, codes}
use Rattle.l4_text.specs.Texts.{word_text}

-- a word in hexadecimal, and what parts it from the next one or ends the line
unfoldable pub ended_word : ℕ → ℕ → List ℕ
ended_word byte word = codes "0x" ++ word_text word ++ byte ∷ []

-- the first n words of a line
abbrev pub words_before : List ℕ → ℕ → List ℕ
words_before words zero = []
words_before words (suc n) = words_before words n ++ ended_word (if n + 1 == length words then 10 else 32) (slice_index words n)

-- THE LINE OF WORDS: each with 0x and eight digits, parted by spaces
unfoldable pub line_of : List ℕ → List ℕ
line_of words = words_before words (length words)
