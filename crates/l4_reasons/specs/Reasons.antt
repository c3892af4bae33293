-- Why a line can't be read, as text (this profile's own).
use Rattle.std.specs.Prelude.{ℕ, List, ◌++◌, codes, decimal}
use Rattle.l4_reasons.specs.Quoted.{quoted}
use Rattle.l4_reasons.specs.Hints.{hints}

-- the line's number
unfoldable pub line_says : ℕ → List ℕ
line_says line = codes "line " ++ decimal line ++ codes ": "

-- a token is wrong: its number from 1, the token, what would be right in its place, and what is said of its bytes
unfoldable pub token_says : ℕ → ℕ → List ℕ → List ℕ → List ℕ
token_says line number token expected = line_says line ++ codes "token " ++ decimal number ++ codes " " ++ quoted token ++ codes ": expected " ++ expected ++ hints token

-- a token is almost right: its number from 1, the token, what would make it right, and what is said of its bytes
unfoldable pub symbol_says : ℕ → ℕ → List ℕ → List ℕ → List ℕ
symbol_says line number token reason = line_says line ++ codes "token " ++ decimal number ++ codes " " ++ quoted token ++ codes ": " ++ reason ++ hints token

-- the line ends before a token: its number from 1, and what would be right
unfoldable pub missing_says : ℕ → ℕ → List ℕ → List ℕ
missing_says line number expected = line_says line ++ codes "token " ++ decimal number ++ codes " is missing: expected " ++ expected
