-- The eight sets of rights and their bits.
use Rattle.std.proofs.Common.{◌≡◌, ℕ, zero, suc, ◌+◌, ◌/◌, ◌%◌, ◌<◌, ◌==◌, arith, refl, ◌∙◌, bit_and, bit_or, Bool, true, false, not, ◌&&◌, IsTrue, List, [], ◌∷◌, get_or, ap}
use Rattle.std.proofs.lemmas.Bool.{false≢true}
use Rattle.bitflags.specs.Sets.{without as bits_without}
use Rattle.l4_fpage.specs.Rights.{Read, Write, Execute, RightsSet, set_of_bits, bits_of, common, either, without, is_none, Within}

-- a fact about each number below eight
pub below_eight : (P : ℕ → Type 0) → P 0 → P 1 → P 2 → P 3 → P 4 → P 5 → P 6 → P 7 → (n : ℕ) → n < 8 → P n
below_eight P a b c d e f g h zero lt = a
below_eight P a b c d e f g h (suc zero) lt = b
below_eight P a b c d e f g h (suc (suc zero)) lt = c
below_eight P a b c d e f g h (suc (suc (suc zero))) lt = d
below_eight P a b c d e f g h (suc (suc (suc (suc zero)))) lt = e
below_eight P a b c d e f g h (suc (suc (suc (suc (suc zero))))) lt = f
below_eight P a b c d e f g h (suc (suc (suc (suc (suc (suc zero)))))) lt = g
below_eight P a b c d e f g h (suc (suc (suc (suc (suc (suc (suc zero))))))) lt = h
below_eight P a b c d e f g h (suc (suc (suc (suc (suc (suc (suc (suc n)))))))) lt = absurd (omega arith)

-- two operations that agree on each number below eight
abbrev Same : {A : Type 0} → (ℕ → A) → (ℕ → A) → Type 0
Same f g = (n : ℕ) → n < 8 → f n ≡ g n

-- the values of an operation at the numbers below eight
abbrev values : {A : Type 0} → (ℕ → A) → List A
values f = f 0 ∷ f 1 ∷ f 2 ∷ f 3 ∷ f 4 ∷ f 5 ∷ f 6 ∷ f 7 ∷ []

same_values : {A : Type 0} (f g : ℕ → A) → values f ≡ values g → Same f g
same_values f g e =
    let at : (i : ℕ) → get_or (values f) i (f 0) ≡ get_or (values g) i (f 0) = λ i. ap (λ l. get_or l i (f 0)) e in
    below_eight (λ n. f n ≡ g n) (at 0) (at 1) (at 2) (at 3) (at 4) (at 5) (at 6) (at 7)

-- operations on two numbers below eight are the same where their tables are
same_tables : {A : Type 0} (f g : ℕ → ℕ → A) → values (λ a. values (f a)) ≡ values (λ a. values (g a)) → (a b : ℕ) → a < 8 → b < 8 → f a b ≡ g a b
same_tables f g e a b la lb = same_values (f a) (g a) (same_values (λ a. values (f a)) (λ a. values (g a)) e a la) b lb

pub and_is : (a b : ℕ) → a < 8 → b < 8 → set_of_bits (bit_and a b) ≡ common (set_of_bits a) (set_of_bits b)
and_is = same_tables (λ a b. set_of_bits (bit_and a b)) (λ a b. common (set_of_bits a) (set_of_bits b)) refl

pub or_is : (a b : ℕ) → a < 8 → b < 8 → set_of_bits (bit_or a b) ≡ either (set_of_bits a) (set_of_bits b)
or_is = same_tables (λ a b. set_of_bits (bit_or a b)) (λ a b. either (set_of_bits a) (set_of_bits b)) refl

pub without_is : (a b : ℕ) → a < 8 → b < 8 → set_of_bits (bits_without 8 a b) ≡ without (set_of_bits a) (set_of_bits b)
without_is = same_tables (λ a b. set_of_bits (bits_without 8 a b)) (λ a b. without (set_of_bits a) (set_of_bits b)) refl

pub contains_is : (a b : ℕ) → a < 8 → b < 8 → (bit_and a b == b) ≡ is_none (without (set_of_bits b) (set_of_bits a))
contains_is = same_tables (λ a b. bit_and a b == b) (λ a b. is_none (without (set_of_bits b) (set_of_bits a))) refl

both_true : (a b : Bool) → a && b ≡ true → (a ≡ true) × (b ≡ true)
both_true true true e = (refl, refl)
both_true true false e = absurd (false≢true e)
both_true false b e = absurd (false≢true e)

one_within : (a b : Bool) → not (a && not b) ≡ true → IsTrue a → IsTrue b
one_within true true e h = refl
one_within true false e h = absurd (false≢true e)
one_within false b e h = absurd (false≢true h)

one_lacked : (a b : Bool) → (IsTrue a → IsTrue b) → not (a && not b) ≡ true
one_lacked true true f = refl
one_lacked true false f = absurd (false≢true (f refl))
one_lacked false b f = refl

and_true : (a b : Bool) → a ≡ true → b ≡ true → a && b ≡ true
and_true true true e g = refl
and_true true false e g = absurd (false≢true g)
and_true false b e g = absurd (false≢true e)

-- a set lies within another where it has no right that the other lacks
pub within_if_none : (a b : RightsSet) → IsTrue (is_none (without a b)) → Within a b
within_if_none a b e Read = one_within a.r b.r (both_true _ _ (both_true _ _ e).0).0
within_if_none a b e Write = one_within a.w b.w (both_true _ _ (both_true _ _ e).0).1
within_if_none a b e Execute = one_within a.x b.x (both_true _ _ e).1

pub none_if_within : (a b : RightsSet) → Within a b → IsTrue (is_none (without a b))
none_if_within a b h = and_true _ _ (and_true _ _ (one_lacked a.r b.r (h Read)) (one_lacked a.w b.w (h Write))) (one_lacked a.x b.x (h Execute))

-- the bits of a set lie below 8
bits_small : (r w x : Bool) → bits_of (record { r = r; w = w; x = x }) < 8
bits_small true true true = omega arith
bits_small true true false = omega arith
bits_small true false true = omega arith
bits_small true false false = omega arith
bits_small false true true = omega arith
bits_small false true false = omega arith
bits_small false false true = omega arith
bits_small false false false = omega arith

pub bits_below : (s : RightsSet) → bits_of s < 8
bits_below s = bits_small s.r s.w s.x

bits_back : (r w x : Bool) → set_of_bits (bits_of (record { r = r; w = w; x = x })) ≡ record { r = r; w = w; x = x }
bits_back true true true = refl
bits_back true true false = refl
bits_back true false true = refl
bits_back true false false = refl
bits_back false true true = refl
bits_back false true false = refl
bits_back false false true = refl
bits_back false false false = refl

-- only the low three bits count
pub set_of_low : (n m : ℕ) → n % 8 ≡ m % 8 → set_of_bits n ≡ set_of_bits m
set_of_low n m e =
    let r : n / 4 % 2 ≡ m / 4 % 2 = omega arith in
    let w : n / 2 % 2 ≡ m / 2 % 2 = omega arith in
    let x : n % 2 ≡ m % 2 = omega arith in
    λ i. record { r = r i == 1; w = w i == 1; x = x i == 1 }

-- the bits of a set, above which anything may stand, are that set
pub set_of_sum : (above : ℕ) (s : RightsSet) → above % 8 ≡ 0 → set_of_bits (above + bits_of s) ≡ s
set_of_sum above s e =
    let b : bits_of s < 8 = bits_below s in
    set_of_low (above + bits_of s) (bits_of s) (omega arith) ∙ bits_back s.r s.w s.x
