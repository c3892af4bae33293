-- Digits that are read one by one.
use Rattle.std.proofs.Common.{◌≡◌, ℕ, zero, suc, ◌+◌, ◌*◌, ◌^◌, ◌<◌, ◌≤◌, List, [], ◌∷◌, length, get_or, take, Option, Some, None, option_and_then, sym, ap, ◌∙◌, arith, lit≤, inl, inr, ◌⊎◌, cond, false, nat_lt}
use Rattle.std.proofs.lemmas.Bool.Decides.{nat_tests}
use Rattle.std.proofs.lemmas.List.{take_more, take_all}
use Rattle.std.proofs.Math.Nat.{pow-suc}
use Rattle.l4_text.specs.Numbers.{hex_digit_of, value_from, below}
use Rattle.l4_text.specs.Inside.Reading.{IsHexDigit}
use Rattle.l4_text.proofs.Spelled.{value_after}

-- a number of fewer than eight hexadecimal digits
pub small_hex : (i : ℕ) → i < 8 → 16 ^ i ≤ 268435456
small_hex zero h = lit≤ tt
small_hex (suc zero) h = lit≤ tt
small_hex (suc (suc zero)) h = lit≤ tt
small_hex (suc (suc (suc zero))) h = lit≤ tt
small_hex (suc (suc (suc (suc zero)))) h = lit≤ tt
small_hex (suc (suc (suc (suc (suc zero))))) h = lit≤ tt
small_hex (suc (suc (suc (suc (suc (suc zero)))))) h = lit≤ tt
small_hex (suc (suc (suc (suc (suc (suc (suc zero))))))) h = lit≤ tt
small_hex (suc (suc (suc (suc (suc (suc (suc (suc n)))))))) h = absurd (omega arith)

pub hex_more : (i : ℕ) → 16 ^ (i + 1) ≡ 16 ^ i * 16
hex_more i = let e : i + 1 ≡ suc i = omega arith in ap (λ k. 16 ^ k) e ∙ pow-suc 16 i

-- a digit more
pub value_next : (base : ℕ) (digit : ℕ → Option ℕ) (xs : List ℕ) (i value d other : ℕ) → i < length xs → value_from base digit 0 (take i xs) ≡ Some value
    → digit (get_or xs i other) ≡ Some d → value_from base digit 0 (take (i + 1) xs) ≡ Some (value * base + d)
value_next base digit xs i value d other less before here =
    ap (λ (t : List ℕ). value_from base digit 0 t) (take_more xs i other less)
    ∙ value_after base 0 digit (take i xs) (get_or xs i other ∷ [])
    ∙ ap (λ (o : Option ℕ). option_and_then (λ w. value_from base digit w (get_or xs i other ∷ [])) o) before
    ∙ ap (λ (o : Option ℕ). option_and_then (λ e. Some (value * base + e)) o) here

-- a byte that is no digit
none_here : (base : ℕ) (digit : ℕ → Option ℕ) (xs : List ℕ) (i value other : ℕ) → i < length xs → value_from base digit 0 (take i xs) ≡ Some value
    → digit (get_or xs i other) ≡ None → value_from base digit 0 (take (i + 1) xs) ≡ None
none_here base digit xs i value other less before here =
    ap (λ (t : List ℕ). value_from base digit 0 t) (take_more xs i other less)
    ∙ value_after base 0 digit (take i xs) (get_or xs i other ∷ [])
    ∙ ap (λ (o : Option ℕ). option_and_then (λ w. value_from base digit w (get_or xs i other ∷ [])) o) before
    ∙ ap (λ (o : Option ℕ). option_and_then (λ e. Some (value * base + e)) o) here

-- a byte after one that was no digit
none_before : (base : ℕ) (digit : ℕ → Option ℕ) (xs : List ℕ) (i other : ℕ) → i < length xs → value_from base digit 0 (take i xs) ≡ None
    → value_from base digit 0 (take (i + 1) xs) ≡ None
none_before base digit xs i other less before =
    ap (λ (t : List ℕ). value_from base digit 0 t) (take_more xs i other less)
    ∙ value_after base 0 digit (take i xs) (get_or xs i other ∷ [])
    ∙ ap (λ (o : Option ℕ). option_and_then (λ w. value_from base digit w (get_or xs i other ∷ [])) o) before

-- so many bytes were read: the number that they spell, or more than a word where one was no digit
abbrev pub IsRead : List ℕ → ℕ → ℕ → Type 0
IsRead xs i value =
    ((value < 16 ^ i) × (value_from 16 hex_digit_of 0 (take i xs) ≡ Some value)) ⊎ ((2 ^ 32 ≤ value) × (value_from 16 hex_digit_of 0 (take i xs) ≡ None))

pub hex_digit_most : (byte value : ℕ) → IsHexDigit byte value → value ≤ 2 ^ 32
hex_digit_most byte value is = elim is [
  | inl digit ↦ omega (arith, digit.0)
  | inr none ↦ omega (arith, none.0)
]

pub read_next : (xs : List ℕ) (i value e other : ℕ) → i < length xs → IsRead xs i value → IsHexDigit (get_or xs i other) e → IsRead xs (i + 1) (value * 16 + e)
read_next xs i value e other less before entry =
    elim before [
      | inl some ↦ elim entry [
        | inl digit ↦ inl (omega (arith, some.0, digit.0, hex_more i), value_next 16 hex_digit_of xs i value e other less some.1 digit.1)
        | inr none ↦ inr (omega (arith, none.0), none_here 16 hex_digit_of xs i value other less some.1 none.1)
      ]
      | inr large ↦ inr (omega (arith, large.0), none_before 16 hex_digit_of xs i other less large.1)
    ]

below_none : (n : ℕ) → 2 ^ 32 ≤ n → below (2 ^ 32) (Some n) ≡ None
below_none n large =
    let e : nat_lt n (2 ^ 32) ≡ false = grind (arith, nat_tests) in
    ap (λ b. cond b (Some n) None) e

-- what all bytes spell
pub read_all : (xs : List ℕ) (value : ℕ) → length xs ≤ 8 → IsRead xs (length xs) value → below (2 ^ 32) (Some value) ≡ below (2 ^ 32) (value_from 16 hex_digit_of 0 xs)
read_all xs value few read =
    elim read [
      | inl some ↦ ap (below (2 ^ 32)) (sym (ap (λ (t : List ℕ). value_from 16 hex_digit_of 0 t) (sym (take_all (length xs) xs (omega arith))) ∙ some.1))
      | inr large ↦ below_none value large.0 ∙ ap (below (2 ^ 32)) (sym (ap (λ (t : List ℕ). value_from 16 hex_digit_of 0 t) (sym (take_all (length xs) xs (omega arith))) ∙ large.1))
    ]
