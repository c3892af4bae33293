-- The pairs of a queue, as it grows at its end and as a thread leaves it.
use Rattle.std.proofs.Common.{◌≡◌, ℕ, Bool, true, false, ◌||◌, List, [], ◌∷◌, ◌++◌, map, refl, sym, ap, ◌∙◌}
use Rattle.std.specs.List.{list_any}
use Rattle.std.specs.Ordering.{nat_cmp, eq_by_cmp}
use Rattle.std.specs.Cmp.{IsTotalOrder, nat_cmp_total}
use Rattle.std.proofs.lemmas.Cmp.{on_total, then_total}
use Rattle.std.proofs.lemmas.Map.Lookups.{CmpEqualImpliesEq, exact_pairs, exact_unsigned}
use Rattle.std.specs.FinSet as set
use Rattle.l4_threads.specs.Threads.{pair_cmp}
use Rattle.l4_threads.specs.Queue.{pairs_of}

pub pairs_total : IsTotalOrder pair_cmp
pairs_total = then_total (on_total (λ p. p.0) nat_cmp_total) (on_total (λ p. p.1) nat_cmp_total)

pub exact_number_pairs : CmpEqualImpliesEq pair_cmp
exact_number_pairs a b h = exact_pairs nat_cmp nat_cmp exact_unsigned exact_unsigned a b h

pub any_append : (p : ℕ × ℕ → Bool) (xs ys : List (ℕ × ℕ)) → list_any p (xs ++ ys) ≡ (list_any p xs || list_any p ys)
any_append p [] ys = refl
any_append p (x ∷ xs) ys = ap (λ b. p x || b) (any_append p xs ys) ∙ or_assoc (p x) (list_any p xs) (list_any p ys) where
  or_assoc : (a b c : Bool) → (a || (b || c)) ≡ ((a || b) || c)
  or_assoc true b c = refl
  or_assoc false b c = refl

map_append : (f : ℕ → ℕ × ℕ) (xs ys : List ℕ) → map f (xs ++ ys) ≡ map f xs ++ map f ys
map_append f [] ys = refl
map_append f (x ∷ xs) ys = ap (λ l. f x ∷ l) (map_append f xs ys)

-- whether a pair is one of a queue that has grown: it was one before, or it has the new thread behind one of the others
any_pairs_push : (p : ℕ × ℕ → Bool) (queue : List ℕ) (n : ℕ) → list_any p (pairs_of (queue ++ n ∷ [])) ≡ (list_any p (pairs_of queue) || list_any p (map (λ m. (m, n)) queue))
any_pairs_push p [] n = refl
any_pairs_push p (a ∷ rest) n =
    any_append p (map (λ b. (a, b)) (rest ++ n ∷ [])) (pairs_of (rest ++ n ∷ []))
    ∙ (λ i. list_any p (map_append (λ b. (a, b)) rest (n ∷ []) i) || any_pairs_push p rest n i)
    ∙ ap (λ b. b || (list_any p (pairs_of rest) || list_any p (map (λ m. (m, n)) rest))) (any_append p (map (λ b. (a, b)) rest) ((a, n) ∷ []))
    ∙ shuffle (list_any p (map (λ b. (a, b)) rest)) (p (a, n)) (list_any p (pairs_of rest)) (list_any p (map (λ m. (m, n)) rest))
    ∙ ap (λ b. b || list_any p (map (λ m. (m, n)) (a ∷ rest))) (sym (any_append p (map (λ b. (a, b)) rest) (pairs_of rest))) where
      shuffle : (x y z w : Bool) → ((x || (y || false)) || (z || w)) ≡ ((x || z) || (y || w))
      shuffle true y z w = refl
      shuffle false true true w = refl
      shuffle false true false w = refl
      shuffle false false z w = refl

-- a thread that starts to send comes after all that send
pub pairs_push : (queue : List ℕ) (n : ℕ) → set.from_list {R = pair_cmp} (pairs_of (queue ++ n ∷ [])) ≡ set.union (set.from_list (pairs_of queue)) (set.from_list (map (λ m. (m, n)) queue))
pairs_push queue n =
    set.same_set pairs_total exact_number_pairs _ _ (λ q.
    set.contains-from_list pairs_total (pairs_of (queue ++ n ∷ [])) q
    ∙ any_pairs_push (eq_by_cmp pair_cmp q) queue n
    ∙ (λ i. sym (set.contains-from_list pairs_total (pairs_of queue) q) i || sym (set.contains-from_list pairs_total (map (λ m. (m, n)) queue) q) i)
    ∙ sym (set.contains-union pairs_total (set.from_list (pairs_of queue)) (set.from_list (map (λ m. (m, n)) queue)) q))
