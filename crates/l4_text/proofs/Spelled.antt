-- What was spelled is read again.
use Rattle.std.proofs.Common.{◌≡◌, ℕ, zero, suc, ◌+◌, ◌-◌, ◌*◌, ◌/◌, ◌%◌, ◌^◌, ◌<◌, ◌≤◌, ap, ◌∙◌, refl, arith, cond, true, ◌&&◌, nat_lt, nat_le, List, [], ◌∷◌, ◌++◌, length, length-append, Option, Some, None, option_and_then, inl, inr}
use Rattle.std.proofs.lemmas.Bool.{cases_lt}
use Rattle.std.proofs.lemmas.Bool.Decides.{nat_tests}
use Rattle.std.proofs.lemmas.Fmt.{decimal_step, decimal_digit, length-decimal-le}
use Rattle.std.specs.Fmt.{decimal}
use Rattle.l4_text.specs.Numbers.{digit_of, hex_digit_of, value_from, decimal_of, hex_of, below, decimal_number_of, word_of}
use Rattle.l4_text.specs.Texts.{hex_digit, word_text}

-- ---- words

digit_back : (d : ℕ) → d < 16 → hex_digit_of (hex_digit d) ≡ Some d
digit_back zero h = refl
digit_back (suc zero) h = refl
digit_back (suc (suc zero)) h = refl
digit_back (suc (suc (suc zero))) h = refl
digit_back (suc (suc (suc (suc zero)))) h = refl
digit_back (suc (suc (suc (suc (suc zero))))) h = refl
digit_back (suc (suc (suc (suc (suc (suc zero)))))) h = refl
digit_back (suc (suc (suc (suc (suc (suc (suc zero))))))) h = refl
digit_back (suc (suc (suc (suc (suc (suc (suc (suc zero)))))))) h = refl
digit_back (suc (suc (suc (suc (suc (suc (suc (suc (suc zero))))))))) h = refl
digit_back (suc (suc (suc (suc (suc (suc (suc (suc (suc (suc zero)))))))))) h = refl
digit_back (suc (suc (suc (suc (suc (suc (suc (suc (suc (suc (suc zero))))))))))) h = refl
digit_back (suc (suc (suc (suc (suc (suc (suc (suc (suc (suc (suc (suc zero)))))))))))) h = refl
digit_back (suc (suc (suc (suc (suc (suc (suc (suc (suc (suc (suc (suc (suc zero))))))))))))) h = refl
digit_back (suc (suc (suc (suc (suc (suc (suc (suc (suc (suc (suc (suc (suc (suc zero)))))))))))))) h = refl
digit_back (suc (suc (suc (suc (suc (suc (suc (suc (suc (suc (suc (suc (suc (suc (suc zero))))))))))))))) h = refl
digit_back (suc (suc (suc (suc (suc (suc (suc (suc (suc (suc (suc (suc (suc (suc (suc (suc n)))))))))))))))) h = absurd (omega arith)

hex_step : (v d : ℕ) (rest : List ℕ) → d < 16 → value_from 16 hex_digit_of v (hex_digit d ∷ rest) ≡ value_from 16 hex_digit_of (v * 16 + d) rest
hex_step v d rest lt = ap (λ (o : Option ℕ). option_and_then (λ e. value_from 16 hex_digit_of (v * 16 + e) rest) o) (digit_back d lt)

digits_back : (a b c d e f g h : ℕ) → a < 16 → b < 16 → c < 16 → d < 16 → e < 16 → f < 16 → g < 16 → h < 16
    → value_from 16 hex_digit_of 0 (hex_digit a ∷ hex_digit b ∷ hex_digit c ∷ hex_digit d ∷ hex_digit e ∷ hex_digit f ∷ hex_digit g ∷ hex_digit h ∷ [])
    ≡ Some ((((((((0 * 16 + a) * 16 + b) * 16 + c) * 16 + d) * 16 + e) * 16 + f) * 16 + g) * 16 + h)
digits_back a b c d e f g h la lb lc ld le lf lg lh =
    hex_step 0 a (hex_digit b ∷ hex_digit c ∷ hex_digit d ∷ hex_digit e ∷ hex_digit f ∷ hex_digit g ∷ hex_digit h ∷ []) la
    ∙ hex_step (0 * 16 + a) b (hex_digit c ∷ hex_digit d ∷ hex_digit e ∷ hex_digit f ∷ hex_digit g ∷ hex_digit h ∷ []) lb
    ∙ hex_step ((0 * 16 + a) * 16 + b) c (hex_digit d ∷ hex_digit e ∷ hex_digit f ∷ hex_digit g ∷ hex_digit h ∷ []) lc
    ∙ hex_step (((0 * 16 + a) * 16 + b) * 16 + c) d (hex_digit e ∷ hex_digit f ∷ hex_digit g ∷ hex_digit h ∷ []) ld
    ∙ hex_step ((((0 * 16 + a) * 16 + b) * 16 + c) * 16 + d) e (hex_digit f ∷ hex_digit g ∷ hex_digit h ∷ []) le
    ∙ hex_step (((((0 * 16 + a) * 16 + b) * 16 + c) * 16 + d) * 16 + e) f (hex_digit g ∷ hex_digit h ∷ []) lf
    ∙ hex_step ((((((0 * 16 + a) * 16 + b) * 16 + c) * 16 + d) * 16 + e) * 16 + f) g (hex_digit h ∷ []) lg
    ∙ hex_step (((((((0 * 16 + a) * 16 + b) * 16 + c) * 16 + d) * 16 + e) * 16 + f) * 16 + g) h [] lh

pub below_all : (n : ℕ) → n < 2 ^ 32 → below (2 ^ 32) (Some n) ≡ Some n
below_all n small =
    let e : nat_lt n (2 ^ 32) ≡ true = grind (arith, nat_tests) in
    ap (λ b. cond b (Some n) None) e

whole_word : (w : ℕ) → w < 2 ^ 32
    → (((((((0 * 16 + w / 2 ^ 28 % 16) * 16 + w / 2 ^ 24 % 16) * 16 + w / 2 ^ 20 % 16) * 16 + w / 2 ^ 16 % 16) * 16 + w / 2 ^ 12 % 16) * 16 + w / 2 ^ 8 % 16) * 16 + w / 2 ^ 4 % 16) * 16 + w / 2 ^ 0 % 16 ≡ w
whole_word w small = omega arith

pub word_back : (w : ℕ) → w < 2 ^ 32 → word_of (word_text w) ≡ Some w
unfolding word_of hex_of
word_back w small =
    ap (below (2 ^ 32)) (
    digits_back (w / 2 ^ 28 % 16) (w / 2 ^ 24 % 16) (w / 2 ^ 20 % 16) (w / 2 ^ 16 % 16) (w / 2 ^ 12 % 16) (w / 2 ^ 8 % 16) (w / 2 ^ 4 % 16) (w / 2 ^ 0 % 16)
    (omega arith) (omega arith) (omega arith) (omega arith) (omega arith) (omega arith) (omega arith) (omega arith)
    ∙ ap (λ (n : ℕ). Some n) (whole_word w small)
    ) ∙ below_all w small

-- ---- numbers

pub value_after : (base v : ℕ) (digit : ℕ → Option ℕ) (xs ys : List ℕ)
    → value_from base digit v (xs ++ ys) ≡ option_and_then (λ w. value_from base digit w ys) (value_from base digit v xs)
value_after base v digit [] ys = refl
value_after base v digit (x ∷ xs) ys =
    elim (digit x) as (λ o. option_and_then (λ d. value_from base digit (v * base + d) (xs ++ ys)) o
    ≡ option_and_then (λ w. value_from base digit w ys) (option_and_then (λ d. value_from base digit (v * base + d) xs) o)) [
      | None ↦ refl
      | Some d ↦ value_after base (v * base + d) digit xs ys
    ]

ten_back : (v d : ℕ) → d < 10 → value_from 10 digit_of v ((48 + d) ∷ []) ≡ Some (v * 10 + d)
ten_back v d lt =
    let from : nat_le 48 (48 + d) ≡ true = grind (arith, nat_tests) in
    let to : nat_le (48 + d) 57 ≡ true = grind (arith, nat_tests) in
    let less : 48 + d - 48 ≡ d = omega arith in
    (λ i. option_and_then (λ e. Some (v * 10 + e)) (cond (from i && to i) (Some (48 + d - 48)) None)) ∙ ap (λ (e : ℕ). Some (v * 10 + e)) less

value_back : (fuel n : ℕ) → n < fuel → n < 2 ^ 64 → value_from 10 digit_of 0 (decimal n) ≡ Some n
value_back zero n lt small = absurd (omega (arith, lt))
value_back (suc fuel) n lt small =
    elim (cases_lt n 10) [
      | inl few ↦ ap (λ (t : List ℕ). value_from 10 digit_of 0 t) (decimal_digit n few) ∙ ten_back 0 n few ∙ (let zero_less : 0 * 10 + n ≡ n = omega arith in ap (λ (k : ℕ). Some k) zero_less)
      | inr many ↦
          let last : n % 10 < 10 = omega arith in
          let less : n / 10 < fuel = omega (arith, lt, many) in
          let sum : n / 10 * 10 + n % 10 ≡ n = omega arith in
          ap (λ (t : List ℕ). value_from 10 digit_of 0 t) (decimal_step n many small)
          ∙ value_after 10 0 digit_of (decimal (n / 10)) ((48 + n % 10) ∷ [])
          ∙ ap (λ (o : Option ℕ). option_and_then (λ w. value_from 10 digit_of w ((48 + n % 10) ∷ [])) o) (value_back fuel (n / 10) less (omega (arith, small)))
          ∙ ten_back (n / 10) (n % 10) last ∙ ap (λ (k : ℕ). Some k) sum
    ]

some_digits : (n : ℕ) → n < 2 ^ 64 → 1 ≤ length (decimal n)
some_digits n small =
    elim (cases_lt n 10) [
      | inl few ↦ omega (arith, ap length (decimal_digit n few))
      | inr many ↦ omega (arith, ap length (decimal_step n many small), length-append (decimal (n / 10)) ((48 + n % 10) ∷ []))
    ]

pub number_back : (n : ℕ) → n < 2 ^ 32 → decimal_number_of (decimal n) ≡ Some n
unfolding decimal_number_of decimal_of
number_back n small =
    let some : 1 ≤ length (decimal n) = some_digits n (omega arith) in
    let few : length (decimal n) ≤ 10 = length-decimal-le 10 n (omega arith) (omega arith) (omega arith) in
    let one : nat_le 1 (length (decimal n)) ≡ true = grind (arith, nat_tests) in
    let ten : nat_le (length (decimal n)) 10 ≡ true = grind (arith, nat_tests) in
    (λ i. below (2 ^ 32) (cond (one i && ten i) (value_from 10 digit_of 0 (decimal n)) None))
    ∙ ap (below (2 ^ 32)) (value_back (n + 1) n (omega arith) (omega arith)) ∙ below_all n small
