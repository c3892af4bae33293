-- The largest allowed block that begins at a page, and the pages that the largest ones of a region begin at.
use Rattle.std.proofs.Common.{◌≡◌, ℕ, zero, suc, ◌<◌, inl, inr, sym, ap, ◌∙◌, arith, List, length, get_or}
use Rattle.std.proofs.lemmas.Bool.{cases_lt}
use Rattle.std.proofs.lemmas.List.{ext_get_or, get_or_default}
use Rattle.l4_msg.specs.declared.regions.Region.{Region}
use Rattle.l4_plan.specs.Largest.{IsLargest, AreFirstStarts}

pub one_largest : (r : Region) (page j k : ℕ) → IsLargest r page j → IsLargest r page k → j ≡ k
one_largest r page j k a b = omega (arith, a.greatest k b.allowed, b.greatest j a.allowed)

-- of two such lists that are the same up to here, none goes on with a lesser page
none_less : (r : Region) (xs ys : List ℕ) (n : ℕ) → AreFirstStarts r xs → AreFirstStarts r ys → n < length xs → n < length ys → ((j : ℕ) → j < n → get_or xs j 0 ≡ get_or ys j 0) → get_or xs n 0 < get_or ys n 0 → ⊥
none_less r xs ys n a b in_x in_y same less =
    elim (b.rest (get_or xs n 0) (a.begin n 0 in_x)) [
      | inr all ↦ omega (arith, all n 0 in_y)
      | inl w ↦
          let at : get_or ys w.0 0 ≡ get_or xs n 0 = sym (get_or_default ys w.0 w.1 0 w.2) ∙ w.3 ∙ w.4 in
          elim (cases_lt w.0 n) [
            | inl lt ↦ omega (arith, at, same w.0 lt, a.rising w.0 n 0 lt in_x)
            | inr ge ↦ elim (cases_lt n w.0) [
              | inl gt ↦ omega (arith, at, b.rising n w.0 0 gt w.2)
              | inr le ↦ let e : w.0 ≡ n = omega arith in omega (arith, at, ap (λ (k : ℕ). get_or ys k 0) e)
            ]
          ]
    ]

same_below : (r : Region) (xs ys : List ℕ) (n k : ℕ) → AreFirstStarts r xs → AreFirstStarts r ys → length xs ≡ length ys → k < n → k < length xs → get_or xs k 0 ≡ get_or ys k 0
same_below r xs ys zero k a b e lt in_x = absurd (omega (arith, lt))
same_below r xs ys (suc n) k a b e lt in_x =
    let before : (j : ℕ) → j < k → get_or xs j 0 ≡ get_or ys j 0 = λ j less. same_below r xs ys n j a b e (omega (arith, lt)) (omega (arith, in_x)) in
    let in_y : k < length ys = omega (arith, e, in_x) in
    elim (cases_lt (get_or xs k 0) (get_or ys k 0)) [
      | inl less ↦ absurd (none_less r xs ys k a b in_x in_y before less)
      | inr ge ↦ elim (cases_lt (get_or ys k 0) (get_or xs k 0)) [
        | inl more ↦ absurd (none_less r ys xs k b a in_y in_x (λ j j_lt. sym (before j j_lt)) more)
        | inr le ↦ omega arith
      ]
    ]

-- as many of them are the same pages
pub same_starts : (r : Region) (xs ys : List ℕ) → AreFirstStarts r xs → AreFirstStarts r ys → length xs ≡ length ys → xs ≡ ys
same_starts r xs ys a b e = ext_get_or 0 xs ys e (λ k lt. same_below r xs ys (suc k) k a b e (omega arith) lt)
