-- Numbers in decimal.
use Rattle.std.proofs.Common.{◌≡◌, ℕ, zero, suc, ◌+◌, ◌*◌, ◌-◌, ◌/◌, ◌%◌, ◌<◌, ◌≤◌, nat_lt, Bool, true, false, if◌then◌else◌, List, [], ◌∷◌, ◌++◌, length, get_or, drop, refl, sym, ap, subst, ◌∙◌, arith, append_assoc, append-nil}
use Rattle.std.proofs.lemmas.List.{drop_all}
use Rattle.std.proofs.lemmas.Bool.Decides.{nat_tests}
use Rattle.l4_naturals.specs.Numerals.{value, last_digits, numeral}
use Rattle.l4_naturals.specs.Inside.Digits.{AreDigits}

-- these digits as text, the highest first
pub digits_text : List ℕ → List ℕ
digits_text [] = []
digits_text (d ∷ ds) = digits_text ds ++ (48 + d) ∷ []

pub text_from : (ds : List ℕ) (k : ℕ) → k < length ds → digits_text (drop k ds) ≡ digits_text (drop (suc k) ds) ++ (48 + get_or ds k 0) ∷ []
unfolding digits_text
text_from [] k lt = absurd (omega (arith, lt))
text_from (d ∷ ds) zero lt = refl
text_from (d ∷ ds) (suc k) lt = text_from ds k (omega (arith, lt))

few : (n d v : ℕ) → n ≡ d + 10 * v → d < 10 → 0 < v → (nat_lt n 10 ≡ false) × (n / 10 ≡ v) × (n % 10 ≡ d)
few n d v is low some = (grind (arith, nat_tests), omega (arith, is, low), omega (arith, is, low))

one : (d : ℕ) → d < 10 → nat_lt (d + 10 * 0) 10 ≡ true
one d low = grind (arith, nat_tests)

pub all_digits : (more : ℕ) (ds : List ℕ) → AreDigits ds → 0 < length ds → value ds < more → last_digits more (value ds) ≡ digits_text ds
unfolding digits_text last_digits
all_digits zero ds are some lt = absurd (omega (arith, lt))
all_digits (suc more) [] are some lt = absurd (omega (arith, some))
all_digits (suc more) (d ∷ []) are some lt =
    ap (λ (b : Bool). if b then (48 + (d + 10 * 0)) ∷ [] else last_digits more ((d + 10 * 0) / 10) ++ (48 + (d + 10 * 0) % 10) ∷ []) (one d are.0)
    ∙ ap (λ (n : ℕ). n ∷ []) (let same : 48 + (d + 10 * 0) ≡ 48 + d = omega arith in same)
all_digits (suc more) (d ∷ e ∷ es) are some lt =
    let n = value (d ∷ e ∷ es) in
    let v = value (e ∷ es) in
    let is = few n d v refl are.0 are.2.1 in
    ap (λ (b : Bool). if b then (48 + value (d ∷ e ∷ es)) ∷ [] else last_digits more (value (d ∷ e ∷ es) / 10) ++ (48 + value (d ∷ e ∷ es) % 10) ∷ []) is.0
    ∙ (λ i. last_digits more (is.1 i) ++ (48 + is.2 i) ∷ [])
    ∙ ap (λ (l : List ℕ). l ++ (48 + d) ∷ []) (all_digits more (e ∷ es) are.2 (omega arith) (let pos = are.2.1 in omega (arith, lt, pos)))

pub text_is : (ds : List ℕ) → AreDigits ds → (length ds ≡ 0 → ⊥) → digits_text ds ≡ numeral (value ds)
unfolding numeral last_digits
text_is ds are some = sym (all_digits (value ds + 1) ds are (positive (length ds) some) (omega arith)) where
  positive : (n : ℕ) → (n ≡ 0 → ⊥) → 0 < n
  positive zero h = absurd (h refl)
  positive (suc n) h = omega arith

pub zero_text : (ds : List ℕ) → length ds ≡ 0 → 48 ∷ [] ≡ numeral (value ds)
unfolding numeral last_digits
zero_text [] none = refl
zero_text (d ∷ ds) none = absurd (omega (arith, none))

-- a loop from the last digit to the first
pub text_none : (ds out : List ℕ) (count : ℕ) → count ≡ length ds → out ≡ out ++ digits_text (drop (count - 0) ds)
unfolding digits_text
text_none ds out count all = sym (ap (λ (l : List ℕ). out ++ digits_text l) (drop_all (count - 0) ds (omega (arith, all))) ∙ append-nil out)

pub text_more : (ds before out after : List ℕ) (count done place digit : ℕ) → count ≡ length ds → done < count → place + done + 1 ≡ count → digit ≡ get_or ds place 0
    → out ≡ before ++ digits_text (drop (count - done) ds) → after ≡ out ++ (48 + digit) ∷ [] → after ≡ before ++ digits_text (drop (count - (done + 1)) ds)
text_more ds before out after count done place digit all lt here digit_is so added =
    let left : count - done ≡ suc place = omega (arith, here) in
    let now_left : place ≡ count - (done + 1) = omega (arith, here) in
    added
    ∙ (λ i. (so ∙ ap (λ (k : ℕ). before ++ digits_text (drop k ds)) left) i ++ (48 + digit_is i) ∷ [])
    ∙ append_assoc before (digits_text (drop (suc place) ds)) ((48 + get_or ds place 0) ∷ [])
    ∙ ap (λ (l : List ℕ). before ++ l) (sym (text_from ds place (omega (arith, all, here))))
    ∙ ap (λ (k : ℕ). before ++ digits_text (drop k ds)) now_left

pub text_all : (ds before out : List ℕ) (count done : ℕ) → AreDigits ds → count ≡ length ds → (count ≡ 0 → ⊥) → count ≤ done → out ≡ before ++ digits_text (drop (count - done) ds) → out ≡ before ++ numeral (value ds)
text_all ds before out count done are all some past so =
    let none : count - done ≡ 0 = omega (arith, past) in
    so ∙ ap (λ (k : ℕ). before ++ digits_text (drop k ds)) none ∙ ap (λ (l : List ℕ). before ++ l) (text_is ds are (λ e. some (all ∙ e)))
