-- What is found in the lines so far. (this profile's own)
use Rattle.std.specs.Prelude.{◌≡◌, ℕ, ◌<◌, ◌≤◌, List, [], ◌∷◌, ◌++◌, length, Option, MatchOption}
use Rattle.std.specs.Io.KnownBytes.{Consumes, IsAtEnd}
use Rattle.l4_text.specs.Sizes.{line_bytes}
use Rattle.l4_text.specs.declared.lines.Ending.{Ending}
use Rattle.l4_text.specs.declared.lines.Ending.TheVariants.{Whole, Long, Cut}
use Rattle.l4_plan_lines.specs.Claims.{IsClaimOf}
use Rattle.l4_plan_lines.specs.declared.found.Found.{Found}
use Rattle.l4_plan_lines.specs.Inputs.{Splits, IsWrongWhole, IsFirstWrong}

-- these whole lines are the claim so far, or the first wrong one of them is known
abbrev pub Reflects : Found → List (List ℕ) → Type 0
Reflects s lines = MatchOption s.wrong (IsClaimOf lines s.claim) (λ w. IsWrongWhole lines w.number w.fault)

-- the input ends with these lines and this rest: they are the claim, or the first wrong line is known
abbrev pub Stops : Found → List (List ℕ) → List ℕ → Type 0
Stops s lines rest =
    MatchOption s.wrong (IsClaimOf lines s.claim × (rest ≡ [])) (λ w. IsFirstWrong lines rest w.number w.fault)

-- the bytes of a line that ended like this, of which these are kept
abbrev pub EndsSo : Ending → List ℕ → List ℕ → Type 0
EndsSo Whole kept bytes = (length bytes ≤ line_bytes) × (kept ≡ bytes)
EndsSo Long kept bytes = line_bytes < length bytes
EndsSo Cut kept bytes = 0 < length bytes

-- after a line: one that is cut is the last
abbrev pub TakesOne : Ending → Found → List (List ℕ) → List ℕ → Type 0
TakesOne Whole s lines bytes = Reflects s (lines ++ bytes ∷ [])
TakesOne Long s lines bytes = Reflects s (lines ++ bytes ∷ [])
TakesOne Cut s lines bytes = Stops s lines bytes

-- the whole input is as this says
pub record HasEnded (s : Found) (input : List ℕ) : Type 0 where
  pub lines : List (List ℕ)
  pub rest : List ℕ
  pub splits : Splits input lines rest
  pub state : Stops s lines rest

-- the reader gave these bytes, to its end, and they are as this says
pub record HasRead (before after : Option (List ℕ)) (s : Found) : Type 0 where
  pub bytes : List ℕ
  pub read : Consumes before after bytes
  pub end : IsAtEnd after
  pub ended : HasEnded s bytes
