-- Numbers in text (this profile's own).
use Rattle.std.specs.Prelude.{ℕ, ◌+◌, ◌-◌, ◌*◌, ◌^◌, ◌==◌, nat_lt, nat_le, Bool, false, ◌&&◌, List, [], ◌∷◌, length, drop, Option, Some, None, option_and_then, if◌then◌else◌}

-- whether a byte is one of those from a to b
abbrev pub is_in : ℕ → ℕ → ℕ → Bool
is_in a b byte = nat_le a byte && nat_le byte b

-- a decimal digit: 0 to 9
abbrev pub digit_of : ℕ → Option ℕ
digit_of byte = if is_in 48 57 byte then Some (byte - 48) else None

-- a hexadecimal digit: 0 to 9, a to f, A to F
abbrev pub hex_digit_of : ℕ → Option ℕ
hex_digit_of byte =
    if is_in 48 57 byte then Some (byte - 48)
    else (if is_in 97 102 byte then Some (byte - 97 + 10) else (if is_in 65 70 byte then Some (byte - 65 + 10) else None))

-- the number that the digits spell after digits with this value
abbrev pub value_from : ℕ → (ℕ → Option ℕ) → ℕ → List ℕ → Option ℕ
value_from base digit value [] = Some value
value_from base digit value (byte ∷ bytes) = option_and_then (λ d. value_from base digit (value * base + d) bytes) (digit byte)

-- between one and `most` digits
abbrev pub digits_of : ℕ → (ℕ → Option ℕ) → ℕ → List ℕ → Option ℕ
digits_of base digit most text = if nat_le 1 (length text) && nat_le (length text) most then value_from base digit 0 text else None

-- one to ten decimal digits
unfoldable pub decimal_of : List ℕ → Option ℕ
decimal_of text = digits_of 10 digit_of 10 text

-- one to eight hexadecimal digits
unfoldable pub hex_of : List ℕ → Option ℕ
hex_of text = digits_of 16 hex_digit_of 8 text

-- whether a text begins with 0x
abbrev pub is_hex : List ℕ → Bool
is_hex [] = false
is_hex (a ∷ []) = false
is_hex (a ∷ b ∷ bytes) = (a == 48) && (b == 120)

-- a number, if it is below a bound
abbrev pub below : ℕ → Option ℕ → Option ℕ
below bound number = option_and_then (λ n. if nat_lt n bound then Some n else None) number

-- a number below 2^32 in decimal
unfoldable pub decimal_number_of : List ℕ → Option ℕ
decimal_number_of text = below (2 ^ 32) (decimal_of text)

-- a word in hexadecimal
unfoldable pub word_of : List ℕ → Option ℕ
word_of text = below (2 ^ 32) (hex_of text)

-- a number: decimal, or hexadecimal after 0x, below 2^32
unfoldable pub number_of : List ℕ → Option ℕ
number_of text = below (2 ^ 32) (if is_hex text then hex_of (drop 2 text) else decimal_of text)
