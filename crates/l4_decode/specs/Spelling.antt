-- How words, labels and lines are spelled (this profile's own).
use Rattle.std.specs.Prelude.{ℕ, zero, suc, List, [], ◌∷◌, ◌++◌, codes, drop}
use Rattle.l4_text.specs.Texts.{word_text}

-- a word: 0x and eight digits
unfoldable pub hex_text : ℕ → List ℕ
hex_text word = codes "0x" ++ word_text word

-- a label, which has at most sixteen bits: 0x and four digits
unfoldable pub label_text : ℕ → List ℕ
label_text label = codes "0x" ++ drop 4 (word_text label)

-- the reading of a word, the word, and its meaning in this reading
unfoldable pub meaning_line : List ℕ → ℕ → List ℕ → List ℕ
meaning_line name word meaning = name ++ hex_text word ++ codes ": " ++ meaning ++ 10 ∷ []

-- the texts of 0 to n - 1, one after another
abbrev pub each_text : (ℕ → List ℕ) → ℕ → List ℕ
each_text text zero = []
each_text text (suc n) = each_text text n ++ text n
