-- Sums of numbers, digit by digit.
use Rattle.std.proofs.Common.{◌≡◌, ℕ, zero, suc, ◌+◌, ◌*◌, ◌-◌, ◌/◌, ◌%◌, ◌<◌, ◌≤◌, List, [], ◌∷◌, ◌++◌, length, get_or, drop, min, max, inl, inr, refl, sym, ap, subst, ◌∙◌, arith, append_assoc, append-nil}
use Rattle.std.proofs.lemmas.List.{drop_all}
use Rattle.std.proofs.lemmas.Bool.{cases_lt}
use Rattle.l4_naturals.specs.Numerals.{most_u64, value}
use Rattle.l4_naturals.specs.Inside.Digits.{AreDigits}

pub digit_low : (ds : List ℕ) (k : ℕ) → AreDigits ds → get_or ds k 0 < 10
digit_low [] k are = omega arith
digit_low (d ∷ ds) zero are = are.0
digit_low (d ∷ ds) (suc k) are = digit_low ds k are.2

-- the digits from a place on
pub value_from : (ds : List ℕ) (k : ℕ) → value (drop k ds) ≡ get_or ds k 0 + 10 * value (drop (suc k) ds)
value_from [] zero = refl
value_from [] (suc k) = refl
value_from (d ∷ ds) zero = refl
value_from (d ∷ ds) (suc k) = value_from ds k

pub value_past : (ds : List ℕ) (k : ℕ) → length ds ≤ k → value (drop k ds) ≡ 0
value_past ds k past = ap value (drop_all k ds past)

pub some_left : (ds : List ℕ) (k : ℕ) → AreDigits ds → k < length ds → 0 < value (drop k ds)
some_left [] k are lt = absurd (omega (arith, lt))
some_left (d ∷ ds) zero are lt = are.1
some_left (d ∷ ds) (suc k) are lt = some_left ds k are.2 (omega (arith, lt))

-- the digit of the last carry, unless it is 0
abbrev pub carried : ℕ → List ℕ
carried zero = []
carried (suc carry) = suc carry ∷ []

-- the digits of a sum of two numbers from a place on: this many and the last carry
pub sums : List ℕ → List ℕ → ℕ → ℕ → ℕ → List ℕ
sums a b zero place carry = carried carry
sums a b (suc more) place carry =
    (get_or a place 0 + get_or b place 0 + carry) % 10 ∷ sums a b more (suc place) ((get_or a place 0 + get_or b place 0 + carry) / 10)

pub sums_value : (a b : List ℕ) (more place carry : ℕ) → length a ≤ place + more → length b ≤ place + more → value (sums a b more place carry) ≡ carry + value (drop place a) + value (drop place b)
unfolding sums
sums_value a b zero place carry p q = let x = value_past a place (omega (arith, p)) in let y = value_past b place (omega (arith, q)) in last carry x y where
  last : (c : ℕ) → value (drop place a) ≡ 0 → value (drop place b) ≡ 0 → value (carried c) ≡ c + value (drop place a) + value (drop place b)
  last zero x y = omega (arith, x, y)
  last (suc c) x y = omega (arith, x, y)
sums_value a b (suc more) place carry p q =
    let x = value_from a place in
    let y = value_from b place in
    let rest = sums_value a b more (suc place) ((get_or a place 0 + get_or b place 0 + carry) / 10) (omega (arith, p)) (omega (arith, q)) in
    omega (arith, x, y, rest)

pub sums_digits : (a b : List ℕ) (more place carry : ℕ) → AreDigits a → AreDigits b → length a ≤ place + more → length b ≤ place + more → carry < 10
    → ((k : ℕ) → k < place + more → 0 < value (drop k a) + value (drop k b)) → AreDigits (sums a b more place carry)
unfolding sums
sums_digits a b zero place carry da db p q low some = last carry low where
  last : (c : ℕ) → c < 10 → AreDigits (carried c)
  last zero lt = tt
  last (suc c) lt = (lt, omega arith, tt)
sums_digits a b (suc more) place carry da db p q low some =
    let sum = get_or a place 0 + get_or b place 0 + carry in
    let x = value_from a place in
    let y = value_from b place in
    let lows = digit_low a place da in
    let lows2 = digit_low b place db in
    let here = some place (omega arith) in
    let rest = sums_value a b more (suc place) ((get_or a place 0 + get_or b place 0 + carry) / 10) (omega (arith, p)) (omega (arith, q)) in
    (omega arith, omega (arith, x, y, here, rest), sums_digits a b more (suc place) ((get_or a place 0 + get_or b place 0 + carry) / 10) da db (omega (arith, p)) (omega (arith, q)) (omega (arith, lows, lows2, low)) (λ k lt. some k (omega (arith, lt))))

-- a loop over the places adds one digit each
pub sums_init : (a b digits : List ℕ) (places carry : ℕ) → digits ≡ [] → carry ≡ 0 → digits ++ sums a b (places - 0) 0 carry ≡ sums a b places 0 0
sums_init a b digits places carry none zero_is =
    (λ i. none i ++ sums a b (all i) 0 (zero_is i)) where
      all : places - 0 ≡ places
      all = omega arith

pub sums_more : (a b digits after : List ℕ) (places place carry x y sum next : ℕ) → place < places → x ≡ get_or a place 0 → y ≡ get_or b place 0 → sum ≡ x + y + carry → after ≡ digits ++ sum % 10 ∷ [] → next ≡ sum / 10
    → digits ++ sums a b (places - place) place carry ≡ sums a b places 0 0 → after ++ sums a b (places - (place + 1)) (place + 1) next ≡ sums a b places 0 0
unfolding sums
sums_more a b digits after places place carry x y sum next lt x_is y_is sum_is added next_is so =
    let left : suc (places - (place + 1)) ≡ places - place = omega (arith, lt) in
    let here : place + 1 ≡ suc place = omega arith in
    let whole : sum ≡ get_or a place 0 + get_or b place 0 + carry = omega (arith, x_is, y_is, sum_is) in
    (λ i. added i ++ sums a b (places - (place + 1)) (here i) (next_is i))
    ∙ append_assoc digits (sum % 10 ∷ []) (sums a b (places - (place + 1)) (suc place) (sum / 10))
    ∙ (λ i. digits ++ whole i % 10 ∷ sums a b (places - (place + 1)) (suc place) (whole i / 10))
    ∙ (λ i. digits ++ sums a b (left i) place carry)
    ∙ so

pub sums_low : (x y carry sum : ℕ) → x < 10 → y < 10 → carry < 2 → sum ≡ x + y + carry → sum / 10 < 2
sums_low x y carry sum p q r is = omega (arith, p, q, r, is)

-- the digits of the whole sum
pub sum_is : (a b : List ℕ) (places : ℕ) → AreDigits a → AreDigits b → places ≡ max (length a) (length b) → AreDigits (sums a b places 0 0) × (value (sums a b places 0 0) ≡ value a + value b)
sum_is a b places da db is = (
  sums_digits a b places 0 0 da db (omega (arith, is)) (omega (arith, is)) (omega arith) (λ k lt. elim (cases_lt k (length a)) [
    | inl own ↦ (let some = some_left a k da own in omega (arith, some))
    | inr past ↦ (let some = some_left b k db (omega (arith, lt, past, is)) in omega (arith, some))
  ]),
  (let v : value (sums a b places 0 0) ≡ 0 + value a + value b = sums_value a b places 0 0 (omega (arith, is)) (omega (arith, is)) in omega (arith, v)),
)

pub sum_end : (a b digits : List ℕ) (places place carry : ℕ) → places ≤ place → digits ++ sums a b (places - place) place carry ≡ sums a b places 0 0 → digits ++ carried carry ≡ sums a b places 0 0
unfolding sums
sum_end a b digits places place carry past so =
    let none : zero ≡ places - place = omega (arith, past) in
    (λ i. digits ++ sums a b (none i) place carry) ∙ so

pub carried_is : (carry : ℕ) → (carry ≡ 0 → ⊥) → carried carry ≡ carry ∷ []
carried_is zero some = absurd (some refl)
carried_is (suc carry) some = refl

pub carried_not : (digits : List ℕ) (carry : ℕ) → carry ≡ 0 → digits ++ carried carry ≡ digits
carried_not digits carry none = (λ i. digits ++ carried (none i)) ∙ append-nil digits

-- without a last carry, and with one
pub sum_ended : (a b digits : List ℕ) (places place carry : ℕ) → AreDigits a → AreDigits b → places ≡ max (length a) (length b) → places ≤ place → carry ≡ 0
    → digits ++ sums a b (places - place) place carry ≡ sums a b places 0 0 → AreDigits digits × (value digits ≡ value a + value b)
sum_ended a b digits places place carry da db is past none so =
    subst (λ (l : List ℕ). AreDigits l × (value l ≡ value a + value b)) (sym (sum_end a b digits places place carry past so) ∙ carried_not digits carry none) (sum_is a b places da db is)

pub sum_carried : (a b digits after : List ℕ) (places place carry : ℕ) → AreDigits a → AreDigits b → places ≡ max (length a) (length b) → places ≤ place → (carry ≡ 0 → ⊥) → after ≡ digits ++ carry ∷ []
    → digits ++ sums a b (places - place) place carry ≡ sums a b places 0 0 → AreDigits after × (value after ≡ value a + value b)
sum_carried a b digits after places place carry da db is past some added so =
    subst (λ (l : List ℕ). AreDigits l × (value l ≡ value a + value b))
    (sym (sum_end a b digits places place carry past so) ∙ ap (λ (l : List ℕ). digits ++ l) (carried_is carry some) ∙ sym added) (sum_is a b places da db is)

-- the number of the digits from a place on, or the greatest one that is counted
pub bounded_more : (ds : List ℕ) (count done place digit number ten after : ℕ) → count ≡ length ds → done < count → place + done + 1 ≡ count → digit ≡ get_or ds place 0
    → number ≡ min (value (drop (count - done) ds)) most_u64 → ten ≡ min (number * 10) most_u64 → after ≡ min (ten + digit) most_u64 → after ≡ min (value (drop (count - (done + 1)) ds)) most_u64
bounded_more ds count done place digit number ten after all lt here digit_is so ten_is is =
    let left : count - done ≡ suc place = omega (arith, here) in
    let now_left : count - (done + 1) ≡ place = omega (arith, here) in
    let before : number ≡ min (value (drop (suc place) ds)) most_u64 = so ∙ ap (λ (k : ℕ). min (value (drop k ds)) most_u64) left in
    let next = value_from ds place in
    let now : after ≡ min (value (drop place ds)) most_u64 = omega (arith, next, before, ten_is, is, digit_is) in
    now ∙ ap (λ (k : ℕ). min (value (drop k ds)) most_u64) (sym now_left)

pub bounded_none : (ds : List ℕ) (count : ℕ) → count ≡ length ds → 0 ≡ min (value (drop (count - 0) ds)) most_u64
bounded_none ds count all = let none = value_past ds (count - 0) (omega (arith, all)) in omega (arith, none)

pub bounded_all : (ds : List ℕ) (count done number : ℕ) → count ≤ done → number ≡ min (value (drop (count - done) ds)) most_u64 → number ≡ min (value ds) most_u64
bounded_all ds count done number past so =
    let none : count - done ≡ 0 = omega (arith, past) in
    so ∙ ap (λ (k : ℕ). min (value (drop k ds)) most_u64) none
