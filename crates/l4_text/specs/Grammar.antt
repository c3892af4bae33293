-- What the texts of scripts and of step lists have in common (this profile's own).
use Rattle.std.specs.Prelude.{ℕ, ◌==◌, ◌||◌, nat_lt, Bool, true, false, List, [], ◌∷◌, length, Option, Some, option_and_then, if◌then◌else◌}
use Rattle.l4_text.specs.Numbers.{number_of}
use Rattle.l4_text.specs.Sizes.{line_bytes}
use Rattle.l4_text.specs.Tokens.{tokens_of}
use Rattle.l4_text.specs.declared.lines.Ending.{Ending}
use Rattle.l4_text.specs.declared.lines.Ending.TheVariants.{Whole, Long, Cut}

-- THE LINES OF A TEXT

-- a line, and whether it ends with a newline
pub record TextLine : Type 0 where
  pub bytes : List ℕ
  pub whole : Bool

-- the lines with a byte added at the front of the first one
abbrev pub in_front : ℕ → List TextLine → List TextLine
in_front byte [] = record { bytes = byte ∷ []; whole = false } ∷ []
in_front byte (line ∷ lines) = record { bytes = byte ∷ line.bytes; whole = line.whole } ∷ lines

-- the lines of a text; the last one is cut if it does not end with a newline
abbrev pub lines_of : List ℕ → List TextLine
lines_of [] = []
lines_of (byte ∷ bytes) = if byte == 10 then (record { bytes = []; whole = true } ∷ lines_of bytes) else in_front byte (lines_of bytes)

-- how a line ends
abbrev pub ending_of : TextLine → Ending
ending_of line = if line.whole then (if nat_lt line_bytes (length line.bytes) then Long else Whole) else Cut

-- LINES WITHOUT AN ANSWER

-- the first byte is #
abbrev pub is_comment : List ℕ → Bool
is_comment [] = false
is_comment (byte ∷ bytes) = byte == 35

abbrev pub is_empty : List (List ℕ) → Bool
is_empty [] = true
is_empty (token ∷ tokens) = false

-- a comment, or a line without tokens
abbrev pub is_silent : List ℕ → Bool
is_silent bytes = is_comment bytes || is_empty (tokens_of bytes)

-- NUMBERS

-- what is read from a value, if there is one
infixl 10 ◌>>=◌
abbrev pub ◌>>=◌ : {A B : Type 0} → Option A → (A → Option B) → Option B
o >>= f = option_and_then f o

-- the numbers that the tokens spell, if each of them spells one
abbrev pub numbers_of : List (List ℕ) → Option (List ℕ)
numbers_of [] = Some []
numbers_of (token ∷ tokens) = number_of token >>= λ n. numbers_of tokens >>= λ ns. Some (n ∷ ns)
