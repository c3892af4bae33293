-- Records of words, each read as an item (this profile's own).
use Rattle.std.specs.Prelude.{ℕ, List, Option, IsTrue, is_some}
use Rattle.std.specs.List.{flat_map, All}
use Rattle.std.specs.Option.{option_to_list}

-- the items of those records that can be read
abbrev pub read_all : {X : Type 0} → (List ℕ → Option X) → List (List ℕ) → List X
read_all read records = flat_map (λ words. option_to_list (read words)) records

-- each record can be read
abbrev pub AreRead : {X : Type 0} → (List ℕ → Option X) → List (List ℕ) → Type 0
AreRead read records = All (λ words. IsTrue (is_some (read words))) records
