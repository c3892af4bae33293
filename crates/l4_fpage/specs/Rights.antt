-- Sets of the rights to read, to write and to execute (L4 X.2 manual, Fpages: access rights).
use Rattle.std.specs.Prelude.{ℕ, ◌+◌, ◌/◌, ◌%◌, ◌==◌, Bool, true, false, not, ◌&&◌, ◌||◌, IsTrue, if◌then◌else◌, refl}
use Rattle.std.specs.Coded.{Coded, code_by, coded×, coded_bool}

-- one right
pub data Right : Type 0 where
  Read : Right
  Write : Right
  Execute : Right

-- a set of rights: which of the three are in it
pub record RightsSet : Type 0 where
  pub r : Bool
  pub w : Bool
  pub x : Bool

-- whether the set has the right
abbrev pub has : RightsSet → Right → Bool
has rights Read = rights.r
has rights Write = rights.w
has rights Execute = rights.x

abbrev pub no_rights : RightsSet
no_rights = record { r = false; w = false; x = false }

abbrev pub all_rights : RightsSet
all_rights = record { r = true; w = true; x = true }

-- the rights that both have
abbrev pub common : RightsSet → RightsSet → RightsSet
common a b = record { r = a.r && b.r; w = a.w && b.w; x = a.x && b.x }

-- the rights that one of them has, or both have
abbrev pub either : RightsSet → RightsSet → RightsSet
either a b = record { r = a.r || b.r; w = a.w || b.w; x = a.x || b.x }

-- the rights of the first that the second lacks
abbrev pub without : RightsSet → RightsSet → RightsSet
without a b = record { r = a.r && not b.r; w = a.w && not b.w; x = a.x && not b.x }

-- whether the set has no right
abbrev pub is_none : RightsSet → Bool
is_none a = not a.r && not a.w && not a.x

-- each right of the first is one of the second
abbrev pub Within : RightsSet → RightsSet → Type 0
Within a b = (right : Right) → IsTrue (has a right) → IsTrue (has b right)

-- the set that the low three bits of a word are: read is 4, write 2, execute 1
abbrev pub set_of_bits : ℕ → RightsSet
set_of_bits bits = record { r = bits / 4 % 2 == 1; w = bits / 2 % 2 == 1; x = bits % 2 == 1 }

-- the three bits of a set
abbrev pub bits_of : RightsSet → ℕ
bits_of a = (if a.r then 4 else 0) + (if a.w then 2 else 0) + (if a.x then 1 else 0)

-- a set of rights is stored as its three truth values
abbrev pub rights_code : Coded RightsSet
rights_code =
    code_by (Bool × (Bool × Bool)) (coded× coded_bool (coded× coded_bool coded_bool))
    (λ a. (a.r, (a.w, a.x))) (λ p. record { r = p.0; w = p.1.0; x = p.1.1 }) (λ _. refl)
