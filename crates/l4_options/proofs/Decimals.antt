-- Decimal digits that are read one by one.
use Rattle.std.proofs.Common.{◌≡◌, ◌∙◌, ℕ, ◌+◌, ◌*◌, ◌^◌, ◌<◌, ◌≤◌, Bool, true, false, List, [], ◌∷◌, length, get_or, drop, Option, Some, None, option_map, option_and_then, unwrap_or, refl, sym, ap, subst, arith, cond, nat_lt}
use Rattle.std.proofs.lemmas.Bool.Decides.{nat_tests}
use Rattle.std.proofs.lemmas.List.{drop_all, drop_more}
use Rattle.std.proofs.lemmas.Option.{none-some}
use Rattle.l4_text.specs.Numbers.{digit_of, value_from, below}

-- no digit behind it makes a great number small
stays_great : (value : ℕ) (bytes : List ℕ) → 2 ^ 32 ≤ value → below (2 ^ 32) (value_from 10 digit_of value bytes) ≡ None
stays_great value [] great = let not_below : nat_lt value (2 ^ 32) ≡ false = grind (arith, nat_tests) in rw not_below refl
stays_great value (byte ∷ bytes) great =
    after (digit_of byte) (λ d. let greater : 2 ^ 32 ≤ value * 10 + d = omega (arith, great) in stays_great (value * 10 + d) bytes greater)
  where
    after : (o : Option ℕ) → ((d : ℕ) → below (2 ^ 32) (value_from 10 digit_of (value * 10 + d) bytes) ≡ None)
        → below (2 ^ 32) (option_and_then (λ d. value_from 10 digit_of (value * 10 + d) bytes) o) ≡ None
    after None later = refl
    after (Some d) later = later d

-- the number before the byte at i
abbrev pub IsSoFar : List ℕ → ℕ → ℕ → Type 0
IsSoFar text i value = (value_from 10 digit_of 0 text ≡ value_from 10 digit_of value (drop i text)) × (value < 2 ^ 32)

-- a number below the bound
small_is : (n next : ℕ) (b : Bool) → nat_lt n (2 ^ 32) ≡ b → ◌≡◌ {A = Option ℕ} (Some next) (cond b (Some n) None) → (next ≡ n) × (next < 2 ^ 32)
small_is n next true small e =
    let same : next ≡ n = ap (λ (o : Option ℕ). unwrap_or o next) e in
    (same, subst (λ k. k < 2 ^ 32) (sym same) (grind (arith, nat_tests)))
small_is n next false small e = absurd (none-some next (sym e))

-- and one that is not
great_is : (n : ℕ) (b : Bool) → nat_lt n (2 ^ 32) ≡ b → ◌≡◌ {A = Option ℕ} None (cond b (Some n) None) → 2 ^ 32 ≤ n
great_is n true small e = absurd (none-some n e)
great_is n false great e = grind (arith, nat_tests)

-- the bytes from i on, by what the first of them is
from_here : (text : List ℕ) (i value other : ℕ) → i < length text → IsSoFar text i value
    → value_from 10 digit_of 0 text ≡ option_and_then (λ d. value_from 10 digit_of (value * 10 + d) (drop (i + 1) text)) (digit_of (get_or text i other))
from_here text i value other less so_far = so_far.0 ∙ ap (λ (t : List ℕ). value_from 10 digit_of value t) (drop_more text i other less)

-- one more digit
pub one_more : (text : List ℕ) (i value next other : ℕ) → i < length text → IsSoFar text i value
    → Some next ≡ below (2 ^ 32) (option_map (λ d. value * 10 + d) (digit_of (get_or text i other))) → IsSoFar text (i + 1) next
one_more text i value next other less so_far is = go (digit_of (get_or text i other)) (from_here text i value other less so_far) is
  where
    go : (o : Option ℕ) → value_from 10 digit_of 0 text ≡ option_and_then (λ d. value_from 10 digit_of (value * 10 + d) (drop (i + 1) text)) o
        → Some next ≡ below (2 ^ 32) (option_map (λ d. value * 10 + d) o) → IsSoFar text (i + 1) next
    go None e h = absurd (none-some next (sym h))
    go (Some d) e h =
        let small = small_is (value * 10 + d) next (nat_lt (value * 10 + d) (2 ^ 32)) refl h in
        (e ∙ ap (λ n. value_from 10 digit_of n (drop (i + 1) text)) (sym small.0), small.1)

-- a byte that is no digit, or a number that is too great
pub stops : (text : List ℕ) (i value other : ℕ) → i < length text → IsSoFar text i value
    → None ≡ below (2 ^ 32) (option_map (λ d. value * 10 + d) (digit_of (get_or text i other))) → None ≡ below (2 ^ 32) (value_from 10 digit_of 0 text)
stops text i value other less so_far is = go (digit_of (get_or text i other)) (from_here text i value other less so_far) is
  where
    go : (o : Option ℕ) → value_from 10 digit_of 0 text ≡ option_and_then (λ d. value_from 10 digit_of (value * 10 + d) (drop (i + 1) text)) o
        → None ≡ below (2 ^ 32) (option_map (λ d. value * 10 + d) o) → None ≡ below (2 ^ 32) (value_from 10 digit_of 0 text)
    go None e h = sym (ap (below (2 ^ 32)) e)
    go (Some d) e h =
        let great = great_is (value * 10 + d) (nat_lt (value * 10 + d) (2 ^ 32)) refl h in
        sym (ap (below (2 ^ 32)) e ∙ stays_great (value * 10 + d) (drop (i + 1) text) great)

-- every byte was a digit
pub ends : (text : List ℕ) (i value : ℕ) → length text ≤ i → IsSoFar text i value → Some value ≡ below (2 ^ 32) (value_from 10 digit_of 0 text)
ends text i value all so_far =
    let whole : value_from 10 digit_of 0 text ≡ Some value = so_far.0 ∙ ap (λ (t : List ℕ). value_from 10 digit_of value t) (drop_all i text all) in
    let small : nat_lt value (2 ^ 32) ≡ true = grind (arith, nat_tests, so_far.1) in
    sym (ap (below (2 ^ 32)) whole ∙ ap (λ (b : Bool). cond b (Some value) None) small)
