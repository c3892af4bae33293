-- No part of a refusal's text has 160 bytes.
use Rattle.std.proofs.Common.{◌≡◌, ℕ, ◌<◌, ◌&&◌, Bool, true, false, List, [], ◌∷◌, length, nat_eq, if◌then◌else◌, refl, arith}
use Rattle.std.proofs.Math.Dec.{ltb}
use Rattle.std.proofs.lemmas.Bool.{ltb-true, false≢true}
use Rattle.l4_refusals.specs.Texts.{texts, text_in, spelled}

abbrev pub IsShort : List ℕ × List ℕ → Type 0
IsShort text = (length text.0 < 160) × (length text.1 < 160)

abbrev are_short : List (List ℕ × List ℕ) → Bool
are_short [] = true
are_short (text ∷ rest) = ltb (length text.0) 160 && (ltb (length text.1) 160 && are_short rest)

both_true : (a b : Bool) → a && b ≡ true → (a ≡ true) × (b ≡ true)
both_true true true e = (refl, refl)
both_true true false e = absurd (false≢true e)
both_true false b e = absurd (false≢true e)

short_in : (rows : List (List ℕ × List ℕ)) (number : ℕ) → are_short rows ≡ true → IsShort (text_in rows number)
short_in [] number short = (omega arith, omega arith)
short_in (text ∷ rest) number short =
    let code = both_true (ltb (length text.0) 160) (ltb (length text.1) 160 && are_short rest) short in
    let line = both_true (ltb (length text.1) 160) (are_short rest) code.1 in
    elim (nat_eq (spelled text.0) number) as (λ b. IsShort (if b then text else text_in rest number)) [
      | true ↦ (ltb-true (length text.0) 160 code.0, ltb-true (length text.1) 160 line.0)
      | false ↦ short_in rest number line.1
    ]

pub is_short : (number : ℕ) → IsShort (text_in texts number)
is_short number = short_in texts number refl
