-- Where keys stand in a list once one was put in or taken out.
use Rattle.std.proofs.Common.{◌≡◌, ◌≢◌, ℕ, ◌<◌, ◌≤◌, ◌+◌, cond, List, [], ◌∷◌, ◌++◌, length, Option, Some, None, refl, sym, ap, ◌∙◌, arith, inl, inr, ◌⊎◌}
use Rattle.std.proofs.lemmas.Bool.{cases_eq, eq-eqb, ne_eqb}
use Rattle.l4_links.specs.Inside.Trees.{Limb, StandsAfter, SameOrder}
use Rattle.l4_links.specs.Inside.Orders.{position, IsIn}
use Rattle.l4_links.proofs.Writes.{no_some}

pub position_here : (x : ℕ) (xs : List ℕ) (k : ℕ) → x ≡ k → position (x ∷ xs) k ≡ 0
position_here x xs k e = ap (λ b. cond b 0 (position xs k + 1)) (eq-eqb x k e)

pub position_further : (x : ℕ) (xs : List ℕ) (k : ℕ) → x ≢ k → position (x ∷ xs) k ≡ position xs k + 1
position_further x xs k ne = ap (λ b. cond b 0 (position xs k + 1)) (ne_eqb x k ne)

pub position_within : (xs : List ℕ) (a : ℕ) → IsIn xs a → position xs a < length xs
position_within [] a i = absurd i
position_within (x ∷ xs) a i = elim (cases_eq x a) [
  | inl e ↦ (let h = position_here x xs a e in omega (arith, h))
  | inr ne ↦
      let h = position_further x xs a ne in
      let r = position_within xs a (elim i [ inl e ↦ absurd (ne e) | inr j ↦ j ]) in
      omega (arith, h, r)
]

pub position_parted : (xs : List ℕ) (k : ℕ) (ys : List ℕ) → ¬ (IsIn xs k) → position (xs ++ k ∷ ys) k ≡ length xs
position_parted [] k ys out = position_here k ys k refl
position_parted (x ∷ xs) k ys out =
    let h = position_further x (xs ++ k ∷ ys) k (λ e. out (inl e)) in
    let r = position_parted xs k ys (λ i. out (inr i)) in
    omega (arith, h, r)

-- a key that was taken out: those before it stay where they were, and those after it move back by one
pub position_out : (xs : List ℕ) (k : ℕ) (ys : List ℕ) (a : ℕ) → a ≢ k
    → ((position (xs ++ k ∷ ys) a < length xs) × (position (xs ++ ys) a ≡ position (xs ++ k ∷ ys) a))
    ⊎ ((length xs < position (xs ++ k ∷ ys) a) × (position (xs ++ ys) a + 1 ≡ position (xs ++ k ∷ ys) a))
position_out [] k ys a ne = grind arith
position_out (x ∷ xs) k ys a ne = elim (cases_eq x a) [
  | inl e ↦
      let p = position_here x (xs ++ k ∷ ys) a e in
      let q = position_here x (xs ++ ys) a e in
      inl (omega (arith, p), q ∙ sym p)
  | inr n ↦
      let p = position_further x (xs ++ k ∷ ys) a n in
      let q = position_further x (xs ++ ys) a n in
      elim (position_out xs k ys a ne) [
        | inl r ↦ (let r0 = r.0 in let r1 = r.1 in inl (omega (arith, p, r0), omega (arith, p, q, r1)))
        | inr r ↦ (let r0 = r.0 in let r1 = r.1 in inr (omega (arith, p, r0), omega (arith, p, q, r1)))
      ]
]

-- a key that was put in behind another one
pub position_in : (xs : List ℕ) (p k : ℕ) (ys : List ℕ) (a : ℕ) → a ≢ k → ¬ (IsIn xs p)
    → ((position (xs ++ p ∷ ys) a ≤ length xs) × (position (xs ++ p ∷ k ∷ ys) a ≡ position (xs ++ p ∷ ys) a))
    ⊎ ((length xs < position (xs ++ p ∷ ys) a) × (position (xs ++ p ∷ k ∷ ys) a ≡ position (xs ++ p ∷ ys) a + 1))
position_in [] p k ys a ne out = grind arith
position_in (x ∷ xs) p k ys a ne out = elim (cases_eq x a) [
  | inl e ↦
      let u = position_here x (xs ++ p ∷ ys) a e in
      let v = position_here x (xs ++ p ∷ k ∷ ys) a e in
      inl (omega (arith, u), v ∙ sym u)
  | inr n ↦
      let u = position_further x (xs ++ p ∷ ys) a n in
      let v = position_further x (xs ++ p ∷ k ∷ ys) a n in
      elim (position_in xs p k ys a ne (λ i. out (inr i))) [
        | inl r ↦ (let r0 = r.0 in let r1 = r.1 in inl (omega (arith, u, r0), omega (arith, u, v, r1)))
        | inr r ↦ (let r0 = r.0 in let r1 = r.1 in inr (omega (arith, u, r0), omega (arith, u, v, r1)))
      ]
]

pub position_new : (xs : List ℕ) (p k : ℕ) (ys : List ℕ) → k ≢ p → ¬ (IsIn xs k) → position (xs ++ p ∷ k ∷ ys) k ≡ length xs + 1
position_new [] p k ys ne out = grind arith
position_new (x ∷ xs) p k ys ne out =
    let u = position_further x (xs ++ p ∷ k ∷ ys) k (λ e. out (inl e)) in
    let r = position_new xs p k ys ne (λ i. out (inr i)) in
    omega (arith, u, r)

-- so it stands straight after that one
pub stands_after : (at : ℕ → Option Limb) (xs : List ℕ) (p k : ℕ) (ys : List ℕ) → at k ≡ None → k ≢ p → ¬ (IsIn xs p) → ¬ (IsIn xs k) → StandsAfter at (position (xs ++ p ∷ ys)) (position (xs ++ p ∷ k ∷ ys)) p k
stands_after at xs p k ys vacant ne out_p out_k = grind (arith, position_parted, no_some, position_new, position_in)

-- keys that stay where they were, or move back by as many places as were taken out before them, keep their order
pub order_back : (at : ℕ → Option Limb) (pos later : ℕ → ℕ) (n gone : ℕ)
    → ((a : ℕ) (x : Limb) → at a ≡ Some x → ((pos a < n) × (later a ≡ pos a)) ⊎ ((n + gone ≤ pos a) × (later a + gone ≡ pos a))) → SameOrder at pos later
order_back at pos later n gone moved = grind arith

-- so do the keys that are left without one
pub same_order_out : (at : ℕ → Option Limb) (xs : List ℕ) (k : ℕ) (ys : List ℕ) → at k ≡ None → SameOrder at (position (xs ++ k ∷ ys)) (position (xs ++ ys))
same_order_out at xs k ys vacant = order_back at (position (xs ++ k ∷ ys)) (position (xs ++ ys)) (length xs) 1 (λ a x is.
    elim (position_out xs k ys a (λ e. no_some x (sym vacant ∙ sym (ap at e) ∙ is))) [ inl r ↦ inl r | inr r ↦ inr (let r0 = r.0 in omega (arith, r0), r.1) ])
