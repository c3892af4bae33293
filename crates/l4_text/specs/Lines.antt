-- Lines of a stream (this profile's own).
use Rattle.std.specs.Prelude.{ℕ, ◌≡◌, ◌+◌, ◌-◌, ◌*◌, ◌==◌, ◌<◌, ◌≤◌, nat_lt, Bool, true, false, List, [], ◌∷◌, ◌++◌, length, take, Option, Some, None, Result, Ok, Err}
use Rattle.std.specs.Io.KnownBytes.{Consumes, IsAtEnd}
use Rattle.l4_text.specs.Sizes.{line_bytes, most_reads}
use Rattle.l4_text.specs.declared.faults.RunFault.{RunFault}
use Rattle.l4_text.specs.declared.faults.RunFault.TheVariants.{Read}
use Rattle.l4_text.specs.declared.lines.Ending.{Ending}
use Rattle.l4_text.specs.declared.lines.Ending.TheVariants.{Whole, Long, Cut}

-- no byte is a newline
abbrev pub NoNewline : List ℕ → Type 0
NoNewline [] = Unit {0}
NoNewline (byte ∷ bytes) = ((byte == 10) ≡ false) × NoNewline bytes

-- the part of a line that is stored: its first 4,096 bytes, and whether there are more
abbrev pub kept_of : List ℕ → List ℕ × Bool
kept_of bytes = (take line_bytes bytes, nat_lt line_bytes (length bytes))

-- the bytes that were waiting and those that were read are, in this order, those that were taken and those that are waiting now
pub record Takes (old new : Option (List ℕ)) (before after taken : List ℕ) : Type 0 where
  pub read : List ℕ
  pub from : Consumes old new read
  pub same : before ++ read ≡ taken ++ after

-- how much a stream can still deliver, which bounds the number of lines
abbrev pub left_of : List ℕ × ℕ → ℕ
left_of source = (most_reads - source.1) * (line_bytes + 1) + length source.0

-- a line that ends with a newline was taken
pub record TakesLine (old new : Option (List ℕ)) (before after : List ℕ × ℕ) (kept : List ℕ × Bool) : Type 0 where
  pub bytes : List ℕ
  pub plain : NoNewline bytes
  pub takes : Takes old new before.0 after.0 (bytes ++ 10 ∷ [])
  pub kept_is : kept ≡ kept_of bytes
  pub shorter : left_of after < left_of before
  pub few : after.1 ≤ most_reads

-- the end of the input was reached, after these bytes
pub record TakesRest (old new : Option (List ℕ)) (before after : List ℕ × ℕ) (kept : List ℕ × Bool) : Type 0 where
  pub bytes : List ℕ
  pub plain : NoNewline bytes
  pub takes : Takes old new before.0 after.0 bytes
  pub kept_is : kept ≡ kept_of bytes
  pub empty : after.0 ≡ []

-- the next line, or the reason why there is none
abbrev pub GivesLine : Option (List ℕ) → Option (List ℕ) → List ℕ × ℕ → List ℕ × ℕ → List ℕ × Bool → Result (Option Ending) RunFault → Type 0
GivesLine old new before after kept (Ok (Some Whole)) = TakesLine old new before after kept × (kept.1 ≡ false)
GivesLine old new before after kept (Ok (Some Long)) = TakesLine old new before after kept × (kept.1 ≡ true)
GivesLine old new before after kept (Ok (Some Cut)) = TakesRest old new before after kept × IsAtEnd new × (0 < length kept.0)
GivesLine old new before after kept (Ok None) = TakesRest old new before after kept × IsAtEnd new × (kept.0 ≡ [])
GivesLine old new before after kept (Err e) = TakesRest old new before after kept × (e ≡ Read)
