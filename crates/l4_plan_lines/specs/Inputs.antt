-- An input in lines, and its first wrong line (this profile's own).
use Rattle.std.specs.Prelude.{◌≡◌, ℕ, ◌+◌, ◌<◌, ◌≤◌, ◌⊎◌, List, [], ◌∷◌, ◌++◌, length}
use Rattle.l4_text.specs.Sizes.{line_bytes}
use Rattle.l4_text.specs.Lines.{NoNewline}
use Rattle.std.specs.List.{All, flat_map}
use Rattle.l4_plan_lines.specs.Lines.{ended}
use Rattle.l4_plan_lines.specs.Claims.{IsClaimOf, IsBeginning, EndsInTag, IsSecondTag}
use Rattle.l4_plan_lines.specs.declared.claims.Claim.{Claim}
use Rattle.l4_plan_lines.specs.declared.found.WrongLine.{WrongLine}
use Rattle.l4_plan_lines.specs.declared.found.LineFault.{LineFault}
use Rattle.l4_plan_lines.specs.declared.found.LineFault.TheVariants.{BadTokens, LineTooLong, CutLine}

-- the input consists of these lines, each with its newline, and a rest without a newline
pub record Splits (input : List ℕ) (lines : List (List ℕ)) (rest : List ℕ) : Type 0 where
  pub text : input ≡ flat_map ended lines ++ rest
  pub whole : All NoNewline lines
  pub cut : NoNewline rest

-- the line with this number, from 1; the lines before it are the beginning of a claim
pub record IsLine (lines : List (List ℕ)) (number : ℕ) : Type 0 where
  pub before : List (List ℕ)
  pub line : List ℕ
  pub after : List (List ℕ)
  pub split : lines ≡ before ++ line ∷ after
  pub place : number ≡ length before + 1
  pub good : IsBeginning before

-- with this line, the lines are no longer the beginning of a claim; and the line is not a second tag line
pub record IsBadLine (lines : List (List ℕ)) (number : ℕ) : Type 0 where
  pub at : IsLine lines number
  pub short : length at.line ≤ line_bytes
  pub bad : IsBeginning (at.before ++ at.line ∷ []) → ⊥
  pub single : IsSecondTag at.before at.line → ⊥

-- the line with this number, from 1, is the tag line of a message without items: another tag line follows it
pub record IsEmptyGroup (lines : List (List ℕ)) (number : ℕ) : Type 0 where
  pub before : List (List ℕ)
  pub line : List ℕ
  pub after : List (List ℕ)
  pub split : lines ≡ before ++ line ∷ after
  pub place : number ≡ length before
  pub good : IsBeginning before
  pub second : IsSecondTag before line

-- A whole line is wrong: it has more than 4,096 bytes, or with it the lines are no longer the beginning of a claim. Of two tag lines in a
-- row, it is the first.
abbrev pub IsWrongWhole : List (List ℕ) → ℕ → LineFault → Type 0
IsWrongWhole lines number CutLine = ⊥
IsWrongWhole lines number LineTooLong = (l : IsLine lines number) × (line_bytes < length l.line)
IsWrongWhole lines number BadTokens = IsBadLine lines number ⊎ IsEmptyGroup lines number

-- the input ends after a tag line, so that its message has no items
pub record EndsEmpty (lines : List (List ℕ)) (rest : List ℕ) (number : ℕ) : Type 0 where
  pub good : IsBeginning lines
  pub last : EndsInTag lines
  pub whole : rest ≡ []
  pub place : number ≡ length lines

-- The first wrong line: the one that the end of the input cuts, or a whole one. An empty input counts as one wrong line.
abbrev pub IsFirstWrong : List (List ℕ) → List ℕ → ℕ → LineFault → Type 0
IsFirstWrong lines rest number CutLine = IsBeginning lines × (0 < length rest) × (number ≡ length lines + 1)
IsFirstWrong lines rest number LineTooLong = IsWrongWhole lines number LineTooLong
IsFirstWrong lines rest number BadTokens = ((lines ≡ []) × (rest ≡ []) × (number ≡ 1)) ⊎ (EndsEmpty lines rest number ⊎ IsWrongWhole lines number BadTokens)

-- the input has this first wrong line
pub record IsRefused (input : List ℕ) (wrong : WrongLine) : Type 0 where
  pub lines : List (List ℕ)
  pub rest : List ℕ
  pub splits : Splits input lines rest
  pub first : IsFirstWrong lines rest wrong.number wrong.fault

-- the input consists of whole lines, at least one, which are this claim, and every message in them has an item
pub record IsWhole (input : List ℕ) (claim : Claim) : Type 0 where
  pub lines : List (List ℕ)
  pub splits : Splits input lines []
  pub some : 0 < length lines
  pub claimed : IsClaimOf lines claim
  pub filled : EndsInTag lines → ⊥
