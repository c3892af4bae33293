-- Natural numbers of any size in decimal (this profile's own).
use Rattle.std.specs.Prelude.{ℕ, zero, suc, ◌+◌, ◌*◌, ◌/◌, ◌%◌, nat_lt, if◌then◌else◌, List, [], ◌∷◌, ◌++◌}

-- the greatest number that a u64 can be
abbrev pub most_u64 : ℕ
most_u64 = 18446744073709551615

-- the number with these digits, the lowest first
abbrev pub value : List ℕ → ℕ
value [] = 0
value (digit ∷ digits) = digit + 10 * value digits

-- the last digits of a number in decimal, at most this many
unfoldable pub last_digits : ℕ → ℕ → List ℕ
last_digits zero n = []
last_digits (suc more) n = if nat_lt n 10 then (48 + n) ∷ [] else last_digits more (n / 10) ++ (48 + n % 10) ∷ []

-- a number in decimal. It has at most as many digits as it counts, and one more.
unfoldable pub numeral : ℕ → List ℕ
numeral n = last_digits (n + 1) n
