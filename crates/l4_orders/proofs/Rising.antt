-- Numbers that rise are determined by which there are.
use Rattle.std.proofs.Common.{◌≡◌, ℕ, zero, suc, ◌+◌, ◌<◌, ◌⊎◌, List, [], ◌∷◌, length, refl, sym, ap, subst, ◌∙◌, arith, inl, inr}
use Rattle.std.specs.Prelude.{Contains}
use Rattle.std.specs.List.{AllPairs}

abbrev pub Rises : List ℕ → Type 0
Rises xs = AllPairs (λ a b. a < b) xs

rises_tail : (x : ℕ) (xs : List ℕ) → Rises (x ∷ xs) → Rises xs
rises_tail x xs h i j d lt within = h (suc i) (suc j) d (omega (arith, lt)) (omega (arith, within))

rises_head : (x : ℕ) (xs : List ℕ) → Rises (x ∷ xs) → (y : ℕ) → Contains xs y → x < y
rises_head x xs h y has = let lt = has.1 in subst (λ (n : ℕ). x < n) has.2 (h zero (suc has.0) y (omega arith) (omega (arith, lt)))

has_first : (x : ℕ) (xs : List ℕ) → Contains (x ∷ xs) x
has_first x xs = (zero, omega arith, refl)

has_later : (x : ℕ) (xs : List ℕ) (y : ℕ) → Contains xs y → Contains (x ∷ xs) y
has_later x xs y has = let lt = has.1 in (suc has.0, omega (arith, lt), has.2)

has_cases : (x : ℕ) (xs : List ℕ) (y : ℕ) → Contains (x ∷ xs) y → (x ≡ y) ⊎ Contains xs y
has_cases x xs y (zero, lt, is) = inl is
has_cases x xs y (suc k, lt, is) = inr (k, omega (arith, lt), is)

has_none : (y : ℕ) → Contains [] y → ⊥
has_none y has = let lt = has.1 in omega (arith, lt)

-- the first of both is the same
same_first : (x : ℕ) (xs : List ℕ) (y : ℕ) (ys : List ℕ) → Rises (x ∷ xs) → Rises (y ∷ ys) → Contains (y ∷ ys) x → Contains (x ∷ xs) y → x ≡ y
same_first x xs y ys a b to from = elim (has_cases y ys x to) [
  | inl same ↦ sym same
  | inr later ↦ elim (has_cases x xs y from) [
    | inl same ↦ same
    | inr also ↦ (let up = rises_head y ys b x later in let down = rises_head x xs a y also in absurd (omega (arith, up, down)))
  ]
]

-- what is in a list behind its first is in the other behind its first
behind : (x : ℕ) (xs : List ℕ) (y : ℕ) (ys : List ℕ) → Rises (x ∷ xs) → x ≡ y → ((n : ℕ) → Contains (x ∷ xs) n → Contains (y ∷ ys) n) → (n : ℕ) → Contains xs n → Contains ys n
behind x xs y ys a same to n has = elim (has_cases y ys n (to n (has_later x xs n has))) [
  | inl first ↦ (let above = rises_head x xs a n has in absurd (omega (arith, above, same, first)))
  | inr later ↦ later
]

pub same_rising : (xs ys : List ℕ) → Rises xs → Rises ys → ((n : ℕ) → Contains xs n → Contains ys n) → ((n : ℕ) → Contains ys n → Contains xs n) → xs ≡ ys
same_rising [] [] a b to from = refl
same_rising [] (y ∷ ys) a b to from = absurd (has_none y (from y (has_first y ys)))
same_rising (x ∷ xs) [] a b to from = absurd (has_none x (to x (has_first x xs)))
same_rising (x ∷ xs) (y ∷ ys) a b to from =
    let first : x ≡ y = same_first x xs y ys a b (to x (has_first x xs)) (from y (has_first y ys)) in
    let rest : xs ≡ ys = same_rising xs ys (rises_tail x xs a) (rises_tail y ys b) (behind x xs y ys a first to) (behind y ys x xs b (sym first) from) in
    λ i. first i ∷ rest i
