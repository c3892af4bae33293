-- How a stream is read, piece by piece (this profile's own).
use Rattle.std.specs.Prelude.{ℕ, ◌≡◌, ◌≢◌, ◌+◌, ◌-◌, ◌/◌, ◌%◌, ◌==◌, ◌^◌, get_or, ◌<◌, ◌≤◌, Bool, true, false, List, [], length, take, drop, Option, Some, None, ◌⊎◌, Result, Ok, Err, not, if◌then◌else◌}
use Rattle.std.specs.Io.KnownBytes.{Consumes, IsAtEnd}
use Rattle.std.specs.List.{position_or_len}
use Rattle.l4_text.specs.Numbers.{value_from, hex_digit_of}
use Rattle.l4_text.specs.Tokens.{is_space, FirstNumber}
use Rattle.l4_text.specs.Sizes.{line_bytes, most_reads}
use Rattle.l4_text.specs.declared.faults.RunFault.{RunFault}
use Rattle.l4_text.specs.declared.faults.RunFault.TheVariants.{Read}

abbrev pub is_newline : ℕ → Bool
is_newline byte = byte == 10

-- The first bytes, this many, are whole lines: the last of them is a newline, if there are any, and no newline follows them.
pub record EndsLines (bytes : List ℕ) (end lines : ℕ) : Type 0 where
  pub within : lines ≤ end
  pub last : lines ≢ 0 → (get_or bytes (lines - 1) 0 == 10) ≡ true
  pub after : (k : ℕ) → lines ≤ k → k < end → (get_or bytes k 0 == 10) ≡ false

-- what was read and not taken, after this many bytes of it
abbrev pub behind : ℕ → List ℕ × ℕ → List ℕ × ℕ
behind count source = (drop count source.0, source.1)

-- the line that these first bytes are with its newline, or the stored one if there are none
abbrev pub line_in_front : ℕ → List ℕ × ℕ → List ℕ × Bool → List ℕ × Bool
line_in_front count source kept = if count == 0 then kept else (take (count - 1) source.0, false)

-- this many bytes are before the first newline
pub record IsLineLen (source : List ℕ × ℕ) (len : ℕ) : Type 0 where
  pub place : len ≡ position_or_len is_newline source.0
  pub within : len < length source.0
  pub short : length source.0 ≤ line_bytes
  pub few : source.1 ≤ most_reads

-- a read replaced the bytes that were there with new ones
pub record Filled (old new : Option (List ℕ)) (before after : List ℕ × ℕ) (result : Result Bool RunFault) : Type 0 where
  pub more : result ≡ Ok true → Consumes old new after.0 × (0 < length after.0) × (length after.0 ≤ line_bytes) × (after.1 ≡ before.1 + 1) × (after.1 ≤ most_reads)
  pub none : result ≡ Ok false → Consumes old new [] × IsAtEnd new × (after.0 ≡ [])
  pub fault : (e : RunFault) → result ≡ Err e → (e ≡ Read) × Consumes old new [] × (before.0 ≡ [] → after.0 ≡ [])

-- the value of a byte as a hexadecimal digit, or 2^32 if it is not one
abbrev pub IsHexDigit : ℕ → ℕ → Type 0
IsHexDigit byte value = ((value < 16) × (hex_digit_of byte ≡ Some value)) ⊎ ((value ≡ 2 ^ 32) × (hex_digit_of byte ≡ None))

abbrev pub is_no_space : ℕ → Bool
is_no_space byte = not (byte == 32)

-- a text begins with this many digits, and then a space or its end
abbrev pub HasDigits : ℕ → (ℕ → Option ℕ) → List ℕ → ℕ → ℕ → Type 0
HasDigits base digit text count value =
    (count ≤ length text) × (value_from base digit 0 (take count text) ≡ Some value) × (position_or_len is_space (drop count text) ≡ 0) × (value < 2 ^ 32)

-- a text begins with a token of this many bytes, which spells a number
abbrev pub HasToken : List ℕ → ℕ → ℕ → Type 0
HasToken text value count = (count ≤ length text) × (count ≤ 10) × (value < 2 ^ 32) × FirstNumber text (Some value) (take (length text - count) (drop count text))

-- the number of a line's first token, plus 2^32 for each byte up to the token's end
abbrev pub IsPacked : List ℕ → ℕ → Type 0
IsPacked line packed =
    2 ^ 32 ≤ packed → (packed / 2 ^ 32 ≤ length line) × FirstNumber line (Some (packed % 2 ^ 32)) (take (length line - packed / 2 ^ 32) (drop (packed / 2 ^ 32) line))
