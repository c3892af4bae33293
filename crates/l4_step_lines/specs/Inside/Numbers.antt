-- Numbers that no line has (this profile's own).
use Rattle.std.specs.Prelude.{ℕ, ◌≡◌, ◌<◌, List, length, Some}
use Rattle.l4_text.specs.Grammar.{numbers_of}

-- the tokens spell no numbers, or more than the longest line has behind its words, an Ipc's
abbrev pub HaveNoFew : List (List ℕ) → Type 0
HaveNoFew tokens = (ns : List ℕ) → numbers_of tokens ≡ Some ns → 68 < length ns
