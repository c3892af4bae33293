-- Lists of numbered things: two lists with the same words are of the same things; and how a list is written.
use Rattle.std.proofs.Common.{◌≡◌, ℕ, ◌+◌, ◌<◌, ◌≤◌, ◌⊎◌, Bool, true, false, nat_lt, List, [], ◌∷◌, ◌++◌, refl, sym, ap, subst, ◌∙◌, inl, inr, arith, append_assoc}
use Rattle.std.proofs.lemmas.Bool.{false≢true}
use Rattle.std.proofs.lemmas.Bool.Decides.{nat_tests}
use Rattle.l4_keys.specs.Listings.{Thing, NoneFrom, IsNext, AreAll, words_of, Lists}
use Rattle.l4_keys.proofs.Prefixes.{heads, tails, apart}

pub below_or : (a b : ℕ) → (a < b) ⊎ (b ≤ a)
below_or a b =
    elim (nat_lt a b) as (λ v. nat_lt a b ≡ v → (a < b) ⊎ (b ≤ a)) [
      | true ↦ λ t. inl (let lt : a < b = grind (arith, nat_tests) in lt)
      | false ↦ λ f. inr (let le : b ≤ a = grind (arith, nat_tests) in le)
    ] refl

-- the same things are there from this number on, and what is said of each that is there
pub record AreSame (there other : ℕ → Bool) (Same : ℕ → Type 0) (start : ℕ) : Type 0 where
  pub are : (n : ℕ) → start ≤ n → there n ≡ other n
  pub each : (n : ℕ) → start ≤ n → there n ≡ true → Same n

module _ (there other : ℕ → Bool) (HasWords HasOthers : ℕ → List ℕ → Type 0) (Same : ℕ → Type 0)
    (ends : (m n : ℕ) (v w x y : List ℕ) → HasWords m v → HasOthers n w → v ++ x ≡ w ++ y → (m ≡ n) × Same m × (x ≡ y)) where
  more_same : (start next after : ℕ) → IsNext there start next → IsNext other start after → next ≡ after → Same next → AreSame there other Same (next + 1) → AreSame there other Same start
  more_same start next after a b same here later = record {
    are = λ n from. elim (below_or n next) [
      | inl lt ↦ a.least n from lt ∙ sym (b.least n from (omega (arith, lt, same)))
      | inr le ↦ elim (below_or next n) [
        | inl lt ↦ later.are n (omega (arith, lt))
        | inr ge ↦ (let is : n ≡ next = omega (arith, le, ge) in ap there is ∙ a.is ∙ sym b.is ∙ ap other (sym (is ∙ same)))
      ]
    ];
    each = λ n from yes. elim (below_or n next) [
      | inl lt ↦ absurd (false≢true (sym (a.least n from lt) ∙ yes))
      | inr le ↦ elim (below_or next n) [
        | inl lt ↦ later.each n (omega (arith, lt)) yes
        | inr ge ↦ (let is : next ≡ n = omega (arith, le, ge) in subst Same is here)
      ]
    ];
  }

  pub ends_all : (start : ℕ) (things others : List Thing) (x y : List ℕ) → AreAll there HasWords start things → AreAll other HasOthers start others
      → words_of things ++ x ≡ words_of others ++ y → AreSame there other Same start × (x ≡ y)
  ends_all start [] [] x y none neither e = (record { are = λ n from. none n from ∙ sym (neither n from); each = λ n from yes. absurd (false≢true (sym (none n from) ∙ yes)) }, tails e)
  ends_all start [] (b ∷ ys) x y none all e = absurd (let k = heads e in omega (arith, k))
  ends_all start (a ∷ xs) [] x y all none e = absurd (let k = heads e in omega (arith, k))
  ends_all start (a ∷ xs) (b ∷ ys) x y all alls e =
      let one = ends a.number b.number a.words b.words _ _ all.1 alls.1 (apart a.words (words_of xs) b.words (words_of ys) x y (tails e)) in
      let later = ends_all (a.number + 1) xs ys x y all.2 (subst (λ n. AreAll other HasOthers (n + 1) ys) (sym one.0) alls.2) one.2 in
      (more_same start a.number b.number all.0 alls.0 one.0 one.1 later.0, later.1)

  pub ends_lists : (v w x y : List ℕ) → Lists there HasWords v → Lists other HasOthers w → v ++ x ≡ w ++ y → AreSame there other Same 0 × (x ≡ y)
  ends_lists v w x y a b e = ends_all 0 a.0 b.0 x y a.1 b.1 ((λ i. sym a.2 i ++ x) ∙ e ∙ (λ i. b.2 i ++ y))

-- A LIST THAT IS WRITTEN

-- what was written before this number, and any list from it on, are a whole list
pub IsBegun : (ℕ → Bool) → (ℕ → List ℕ → Type 0) → List ℕ → ℕ → List ℕ → Type 0
IsBegun there HasWords before start written =
    (later : List Thing) → AreAll there HasWords start later
    → (words : List ℕ) × Lists there HasWords words × (before ++ words ≡ written ++ words_of later)

module _ (there : ℕ → Bool) (HasWords : ℕ → List ℕ → Type 0) (before : List ℕ) where
  pub begun : IsBegun there HasWords before 0 before
  unfolding IsBegun
  begun later all = (words_of later, (later, all, refl), refl)

  pub begun_more : (start next : ℕ) (written words : List ℕ) → IsBegun there HasWords before start written → IsNext there start next → HasWords next words
      → IsBegun there HasWords before (next + 1) (written ++ 1 ∷ words)
  unfolding IsBegun
  begun_more start next written words so is has later all =
      let whole = so (record { number = next; words = words } ∷ later) (is, has, all) in
      (whole.0, whole.1, whole.2 ∙ sym (append_assoc written (1 ∷ words) (words_of later)))

  pub begun_end : (start : ℕ) (written : List ℕ) → IsBegun there HasWords before start written → NoneFrom there start
      → (words : List ℕ) × Lists there HasWords words × (written ++ 0 ∷ [] ≡ before ++ words)
  unfolding IsBegun
  begun_end start written so none = let whole = so [] none in (whole.0, whole.1, sym whole.2)
