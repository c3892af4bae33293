-- The keys that a node keeps: a key is kept as its number, and none as a number above all of them.
use Rattle.std.specs.Prelude.{◌≡◌, ℕ, eqb, Bool, true, false, Option, Some, None, if◌then◌else◌, refl}
use Rattle.std.proofs.Common.{ap, sym}
use Rattle.std.proofs.lemmas.Bool.{eqb-true}
use Rattle.l4_spaces.specs.Keys.{no_key}
use Rattle.l4_spaces.specs.declared.keys.Link.TheInside.{Inside}

-- the key that is kept, if it is one
abbrev pub key_shown : Inside → Option ℕ
key_shown a = if eqb a.number no_key then None else Some a.number

-- how a key is kept
abbrev pub number_of : Option ℕ → ℕ
number_of None = no_key
number_of (Some key) = key

abbrev pub shows_as : Option ℕ → Inside
shows_as key = record { number = number_of key }

pub gives_back : (a : Inside) → shows_as (key_shown a) ≡ a
gives_back a = over (eqb a.number no_key) refl
  where
    over : (b : Bool) → eqb a.number no_key ≡ b → shows_as (if b then None else Some a.number) ≡ a
    over true is = ap (λ (n : ℕ). record { number = n }) (sym (eqb-true a.number no_key is))
    over false _ = refl
