-- No text of a refusal has more than 160 bytes.
use Rattle.std.proofs.Common.{◌≡◌, ℕ, ◌≤◌, Bool, true, false, ◌&&◌, cond, nat_le, List, [], ◌∷◌, length, nat_eq, refl, arith}
use Rattle.std.proofs.lemmas.Bool.{false≢true}
use Rattle.std.proofs.lemmas.Bool.Decides.{nat_tests}
use Rattle.l4_refusals.specs.Texts.{spelled, texts, text_in}

all_short : List (List ℕ × List ℕ) → Bool
all_short [] = true
all_short (text ∷ rest) = nat_le (length text.1) 160 && all_short rest

both : (a b : Bool) → (a && b) ≡ true → (a ≡ true) × (b ≡ true)
both true b h = (refl, h)
both false b h = absurd (false≢true h)

is_short : (n : ℕ) → nat_le n 160 ≡ true → n ≤ 160
is_short n h = grind (arith, nat_tests)

short_in : (ts : List (List ℕ × List ℕ)) (number : ℕ) → all_short ts ≡ true → length (text_in ts number).1 ≤ 160
unfolding all_short
short_in [] number h = omega arith
short_in (text ∷ rest) number h =
    let parts = both (nat_le (length text.1) 160) (all_short rest) h in
    elim (nat_eq (spelled text.0) number) as (λ b. length (cond b text (text_in rest number)).1 ≤ 160) [
      | true ↦ is_short (length text.1) parts.0
      | false ↦ short_in rest number parts.1
    ]

pub texts_short : (number : ℕ) → length (text_in texts number).1 ≤ 160
unfolding all_short
texts_short number = short_in texts number refl
