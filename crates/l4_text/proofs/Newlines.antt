-- The first newline of a search by vectors.
use Rattle.std.proofs.Common.{◌≡◌, ℕ, ◌==◌, Bool, true, false, cond, List, length, get_or, Option, Some, None, nat_lt, sym, ap, ◌∙◌, refl, arith}
use Rattle.std.specs.List.{position, position_or_len}
use Rattle.std.proofs.lemmas.List.Sums.{position_or_len_is}
use Rattle.std.proofs.lemmas.Bool.Decides.{nat_tests}
use Rattle.memchr.specs.Find.{IsFirstByte, is_byte}
use Rattle.l4_text.specs.Inside.Reading.{is_newline}

fails : (b : Bool) → (b ≡ true → ⊥) → b ≡ false
fails true h = absurd (h refl)
fails false h = refl

-- the first byte that is a newline is what `position` gives
pub first_is : (xs : List ℕ) (r : Option ℕ) → IsFirstByte (is_byte 10) xs r → r ≡ position is_newline xs
first_is xs None h =
    let k : position_or_len is_newline xs ≡ length xs =
    position_or_len_is is_newline xs (length xs) 0 (omega arith) (λ k lt. fails (get_or xs k 0 == 10) (h k (omega arith) lt)) (λ lt. absurd (omega (arith, lt))) in
    let none : nat_lt (position_or_len is_newline xs) (length xs) ≡ false = grind (arith, nat_tests) in
    ap (λ b. cond b (Some (position_or_len is_newline xs)) None) (sym none)
first_is xs (Some place) h =
    let k : position_or_len is_newline xs ≡ place =
    position_or_len_is is_newline xs place 0 (let l = h.0.high in omega arith) (λ k lt. fails (get_or xs k 0 == 10) (h.0.before k (omega arith) lt)) (λ lt. h.1) in
    let lt = h.0.high in
    let some : nat_lt (position_or_len is_newline xs) (length xs) ≡ true = grind (arith, nat_tests) in
    ap Some (sym k) ∙ ap (λ b. cond b (Some (position_or_len is_newline xs)) None) (sym some)
