-- Digits as they are kept (this profile's own).
use Rattle.std.specs.Prelude.{ℕ, ◌<◌, ◌+◌, ◌*◌, List, [], ◌∷◌, ◌++◌}
use Rattle.l4_naturals.specs.Numerals.{value}

-- digits, the lowest first. The last one is not 0: the number 0 has none.
abbrev pub AreDigits : List ℕ → Type 0
AreDigits [] = Unit {0}
AreDigits (digit ∷ digits) = (digit < 10) × (0 < digit + 10 * value digits) × AreDigits digits
