-- Words that end by themselves: from words and what follows them, both are known.
use Rattle.std.proofs.Common.{◌≡◌, ℕ, ◌+◌, ◌/◌, ◌%◌, ◌^◌, Bool, true, false, List, [], ◌∷◌, ◌++◌, length, flat_map, refl, sym, ap, ◌∙◌, arith, append_assoc}
use Rattle.l4_keys.specs.Words.{wide, counted, counts_words, bit}

-- ONE WORD

first : ℕ → List ℕ → ℕ
first d [] = d
first d (x ∷ xs) = x

rest : List ℕ → List ℕ
rest [] = []
rest (x ∷ xs) = xs

pub heads : {a b : ℕ} {x y : List ℕ} → ◌≡◌ {A = List ℕ} (a ∷ x) (b ∷ y) → a ≡ b
unfolding first
heads {a} e = ap (first a) e

pub tails : {a b : ℕ} {x y : List ℕ} → ◌≡◌ {A = List ℕ} (a ∷ x) (b ∷ y) → x ≡ y
unfolding rest
tails e = ap rest e

pub same_bit : (a b : Bool) → bit a ≡ bit b → a ≡ b
same_bit true true e = refl
same_bit true false e = absurd (omega (arith, e))
same_bit false true e = absurd (omega (arith, e))
same_bit false false e = refl

-- TWO WORDS

pub same_wide : (a b : ℕ) → a % 2 ^ 32 ≡ b % 2 ^ 32 → a / 2 ^ 32 ≡ b / 2 ^ 32 → a ≡ b
same_wide a b low high = omega (arith, low, high)

pub ends_wide : (a b : ℕ) (x y : List ℕ) → wide a ++ x ≡ wide b ++ y → (a ≡ b) × (x ≡ y)
ends_wide a b x y e = (same_wide a b (heads e) (heads (tails e)), tails (tails e))

-- LISTS

-- words of one length
pub ends_list : (v w x y : List ℕ) → length v ≡ length w → v ++ x ≡ w ++ y → (v ≡ w) × (x ≡ y)
ends_list [] [] x y same e = (refl, e)
ends_list [] (b ∷ w) x y same e = absurd (omega (arith, same))
ends_list (a ∷ v) [] x y same e = absurd (omega (arith, same))
ends_list (a ∷ v) (b ∷ w) x y same e =
    let later : (v ≡ w) × (x ≡ y) = ends_list v w x y (omega (arith, same)) (tails e) in
    ((λ i. heads e i ∷ later.0 i), later.1)

pub ends_counted : (v w x y : List ℕ) → counted v ++ x ≡ counted w ++ y → (v ≡ w) × (x ≡ y)
ends_counted v w x y e = ends_list v w x y (heads e) (tails e)

-- the second part stands before what follows
pub apart : (a b c d x y : List ℕ) → (a ++ b) ++ x ≡ (c ++ d) ++ y → a ++ (b ++ x) ≡ c ++ (d ++ y)
apart a b c d x y e = sym (append_assoc a b x) ∙ e ∙ append_assoc c d y

-- the words of each thing of one kind end by themselves, and so do those of lists of one length
pub ends_each : {A : Type 0} (f : A → List ℕ) → ((a b : A) (x y : List ℕ) → f a ++ x ≡ f b ++ y → (a ≡ b) × (x ≡ y))
    → (xs ys : List A) (x y : List ℕ) → length xs ≡ length ys → flat_map f xs ++ x ≡ flat_map f ys ++ y → (xs ≡ ys) × (x ≡ y)
ends_each f ends [] [] x y same e = (refl, e)
ends_each f ends [] (b ∷ ys) x y same e = absurd (omega (arith, same))
ends_each f ends (a ∷ xs) [] x y same e = absurd (omega (arith, same))
ends_each {A} f ends (a ∷ xs) (b ∷ ys) x y same e =
    let one : (a ≡ b) × (flat_map f xs ++ x ≡ flat_map f ys ++ y) = ends a b _ _ (apart (f a) (flat_map f xs) (f b) (flat_map f ys) x y e) in
    let later : (xs ≡ ys) × (x ≡ y) = ends_each f ends xs ys x y (omega (arith, same)) one.1 in
    ((λ i. one.0 i ∷ later.0 i), later.1)

pub ends_counts : (v w x y : List ℕ) → counts_words v ++ x ≡ counts_words w ++ y → (v ≡ w) × (x ≡ y)
ends_counts v w x y e = ends_each wide ends_wide v w x y (heads e) (tails e)
