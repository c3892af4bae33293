-- Bytes that are read and bytes that are written (this profile's own).
use Rattle.std.specs.Prelude.{ℕ, ◌≡◌, Bool, true, false, List, [], ◌++◌, Option}
use Rattle.std.specs.Io.KnownBytes.{Appends}
use Rattle.l4_text.specs.Lines.{NoNewline}

-- a prefix of what was to be written was written
pub record WentOut (old new : Option (List ℕ)) (owed : List ℕ) : Type 0 where
  pub front : List ℕ
  pub rest : List ℕ
  pub whole : owed ≡ front ++ rest
  pub out : Appends old new front

-- The text was reported: all of it was written, except what is held back. After a failed write, a prefix of it was written.
abbrev pub HasTold : Option (List ℕ) → Option (List ℕ) → List ℕ → Bool → List ℕ → Type 0
HasTold old new held false text = (front : List ℕ) × (text ≡ front ++ held) × Appends old new front
HasTold old new held true text = WentOut old new text

-- whatever was reported before, this text was reported after it
abbrev pub Tells : Option (List ℕ) → Option (List ℕ) → List ℕ × Bool → List ℕ × Bool → List ℕ → Type 0
Tells old new before after text =
    (start : Option (List ℕ)) (told : List ℕ) → HasTold start old before.0 before.1 told → HasTold start new after.0 after.1 (told ++ text)

-- Nothing that was reported is held back, unless a write failed, or a whole line that was read has not been taken yet. So everything is
-- written before the next read.
abbrev pub IsOutBeforeRead : List ℕ → List ℕ × Bool → Type 0
IsOutBeforeRead pending out = NoNewline pending → out.1 ≡ false → out.0 ≡ []
