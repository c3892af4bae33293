-- The queue of senders as a list: who stands in it, and who before whom.
use Rattle.std.proofs.Common.{◌≡◌, ◌≢◌, ℕ, suc, ◌<◌, ◌≤◌, length, ◌==◌, Bool, true, false, cond, not, ◌||◌, ◌&&◌, List, [], ◌∷◌, ◌++◌, filter, Option, Some, None, refl, sym, ap, ◌∙◌, subst, arith, inl, inr, ◌⊎◌, eq-eqb}
use Rattle.std.specs.List.{find}
use Rattle.std.proofs.lemmas.Bool.{false≢true}
use Rattle.l4_threads.specs.Queue.{is_in, IsOnce}
use Rattle.l4_threads.specs.Inside.Entries.{precedes}
use Rattle.l4_threads.proofs.TableLemmas.{same_or, differ, same_of}

pub and_true : (a b : Bool) → (a && b) ≡ true → (a ≡ true) × (b ≡ true)
and_true true b h = (refl, h)
and_true false b h = absurd (false≢true h)

pub or_true : (a b : Bool) → (a || b) ≡ true → (a ≡ true) ⊎ (b ≡ true)
or_true true b h = inl refl
or_true false b h = inr h

pub or_left : (a b : Bool) → a ≡ true → (a || b) ≡ true
or_left a b h = ap (λ x. x || b) h

pub or_right : (a b : Bool) → b ≡ true → (a || b) ≡ true
or_right true b h = refl
or_right false b h = h

pub both_true : (a b : Bool) → a ≡ true → b ≡ true → (a && b) ≡ true
both_true a b h k = ap (λ x. x && b) h ∙ k

-- WHO STANDS IN IT

pub is_in_head : (x : ℕ) (xs : List ℕ) → is_in (x ∷ xs) x ≡ true
is_in_head x xs = or_left _ _ (eq-eqb x x refl)

pub is_in-push : (xs : List ℕ) (n q : ℕ) → is_in (xs ++ n ∷ []) q ≡ (is_in xs q || (q == n))
is_in-push [] n q = or_false (q == n) where
  or_false : (b : Bool) → (b || false) ≡ b
  or_false true = refl
  or_false false = refl
is_in-push (x ∷ xs) n q = ap (λ b. (q == x) || b) (is_in-push xs n q) ∙ regroup (q == x) (is_in xs q) (q == n) where
  regroup : (a b c : Bool) → (a || (b || c)) ≡ ((a || b) || c)
  regroup true b c = refl
  regroup false b c = refl

and_no : (a b : Bool) → (a && false) ≡ (b && false)
and_no true true = refl
and_no true false = refl
and_no false true = refl
and_no false false = refl

-- the queue with those that pass a test
pub is_in-filter : (p : ℕ → Bool) (xs : List ℕ) (q : ℕ) → is_in (filter p xs) q ≡ (is_in xs q && p q)
is_in-filter p [] q = refl
is_in-filter p (x ∷ xs) q =
    elim (same_or q x) [
      | inl is ↦
          elim (p x) as (λ b. p x ≡ b → is_in (cond b (x ∷ filter p xs) (filter p xs)) q ≡ (((q == x) || is_in xs q) && p q)) [
            | true ↦ λ t. or_left _ _ (eq-eqb q x is) ∙ sym (λ i. or_left (q == x) (is_in xs q) (eq-eqb q x is) i && (ap p is ∙ t) i)
            | false ↦ λ t. is_in-filter p xs q ∙ ap (λ b. is_in xs q && b) (ap p is ∙ t) ∙ and_no (is_in xs q) ((q == x) || is_in xs q) ∙ ap (λ b. ((q == x) || is_in xs q) && b) (sym (ap p is ∙ t))
          ] refl
      | inr ne ↦
          elim (p x) as (λ b. is_in (cond b (x ∷ filter p xs) (filter p xs)) q ≡ is_in (filter p xs) q) [
            | true ↦ ap (λ b. b || is_in (filter p xs) q) (differ q x ne)
            | false ↦ refl
          ] ∙ is_in-filter p xs q ∙ ap (λ b. (b || is_in xs q) && p q) (sym (differ q x ne))
    ]

pub once-filter : (p : ℕ → Bool) (xs : List ℕ) → IsOnce xs → IsOnce (filter p xs)
once-filter p [] once = tt
once-filter p (x ∷ xs) once =
    elim (p x) as (λ b. IsOnce (cond b (x ∷ filter p xs) (filter p xs))) [
      | true ↦ (is_in-filter p xs x ∙ ap (λ b. b && p x) once.0, once-filter p xs once.1)
      | false ↦ once-filter p xs once.1
    ]

pub precedes-filter : (p : ℕ → Bool) (xs : List ℕ) (a b : ℕ) → precedes (filter p xs) a b ≡ (precedes xs a b && (p a && p b))
precedes-filter p [] a b = refl
precedes-filter p (x ∷ xs) a b =
    elim (p x) as (λ t. p x ≡ t → precedes (cond t (x ∷ filter p xs) (filter p xs)) a b ≡ ((((a == x) && is_in xs b) || precedes xs a b) && (p a && p b))) [
      | true ↦ λ t.
          (λ i. ((a == x) && is_in-filter p xs b i) || precedes-filter p xs a b i)
          ∙ elim (same_or a x) [
            | inl is ↦
                ap (λ u. ((a == x) && (is_in xs b && p b)) || (precedes xs a b && (u && p b))) (ap p is ∙ t)
                ∙ kept (a == x) (is_in xs b) (precedes xs a b) (p b)
                ∙ ap (λ u. (((a == x) && is_in xs b) || precedes xs a b) && (u && p b)) (sym (ap p is ∙ t))
            | inr ne ↦
                ap (λ u. (u && (is_in xs b && p b)) || (precedes xs a b && (p a && p b))) (differ a x ne)
                ∙ ap (λ u. ((u && is_in xs b) || precedes xs a b) && (p a && p b)) (sym (differ a x ne))
          ]
      | false ↦ λ t.
          precedes-filter p xs a b
          ∙ elim (same_or a x) [
            | inl is ↦
                ap (λ u. precedes xs a b && (u && p b)) (ap p is ∙ t)
                ∙ and_no (precedes xs a b) (((a == x) && is_in xs b) || precedes xs a b)
                ∙ ap (λ u. (((a == x) && is_in xs b) || precedes xs a b) && (u && p b)) (sym (ap p is ∙ t))
            | inr ne ↦ ap (λ u. ((u && is_in xs b) || precedes xs a b) && (p a && p b)) (sym (differ a x ne))
          ]
    ] refl where
      kept : (t i p o : Bool) → ((t && (i && o)) || (p && (true && o))) ≡ (((t && i) || p) && (true && o))
      kept true true true true = refl
      kept true true true false = refl
      kept true true false true = refl
      kept true true false false = refl
      kept true false p o = refl
      kept false i p o = refl

-- the queue without the one number
abbrev pub left_by : ℕ → List ℕ → List ℕ
left_by n xs = filter (λ m. not (m == n)) xs

pub is_in-left_by : (n : ℕ) (xs : List ℕ) (q : ℕ) → is_in (left_by n xs) q ≡ (is_in xs q && not (q == n))
is_in-left_by n = is_in-filter (λ m. not (m == n))

-- a number that isn't there leaves nothing behind
pub left_by_none : (n : ℕ) (xs : List ℕ) → is_in xs n ≡ false → left_by n xs ≡ xs
left_by_none n [] out = refl
left_by_none n (x ∷ xs) out =
    elim (same_or n x) [
      | inl is ↦ absurd (false≢true (sym out ∙ or_left _ _ (eq-eqb n x is)))
      | inr ne ↦
          ap (λ b. cond (not b) (x ∷ left_by n xs) (left_by n xs)) (differ x n (λ is. ne (sym is)))
          ∙ ap (λ l. x ∷ l) (left_by_none n xs (sym (ap (λ b. b || is_in xs n) (differ n x ne)) ∙ out))
    ]

pub once-push : (xs : List ℕ) (n : ℕ) → IsOnce xs → is_in xs n ≡ false → IsOnce (xs ++ n ∷ [])
once-push [] n once out = (refl, tt)
once-push (x ∷ xs) n once out =
    elim (same_or n x) [
      | inl is ↦ absurd (false≢true (sym out ∙ or_left _ _ (eq-eqb n x is)))
      | inr ne ↦ (
        is_in-push xs n x ∙ ap (λ b. b || (x == n)) once.0 ∙ differ x n (λ is. ne (sym is)),
        once-push xs n once.1 (sym (ap (λ b. b || is_in xs n) (differ n x ne)) ∙ out),
      )
    ]

pub once-left_by : (n : ℕ) (xs : List ℕ) → IsOnce xs → IsOnce (left_by n xs)
once-left_by n = once-filter (λ m. not (m == n))

length-left_by : (n : ℕ) (xs : List ℕ) → length (left_by n xs) ≤ length xs
length-left_by n [] = omega arith
length-left_by n (x ∷ xs) =
    let rest = length-left_by n xs in
    elim (not (x == n)) as (λ b. length (cond b (x ∷ left_by n xs) (left_by n xs)) ≤ suc (length xs)) [ true ↦ omega arith | false ↦ omega arith ]

shorter-left_by : (n : ℕ) (xs : List ℕ) → is_in xs n ≡ true → length (left_by n xs) < length xs
shorter-left_by n [] h = absurd (false≢true h)
shorter-left_by n (x ∷ xs) h =
    elim (same_or x n) [
      | inl is ↦
          let rest = length-left_by n xs in
          subst (λ b. length (cond (not b) (x ∷ left_by n xs) (left_by n xs)) < suc (length xs)) (sym (eq-eqb x n is)) (omega arith)
      | inr ne ↦
          let rest = shorter-left_by n xs (sym (ap (λ b. b || is_in xs n) (differ n x (λ is. ne (sym is)))) ∙ h) in
          subst (λ b. length (cond (not b) (x ∷ left_by n xs) (left_by n xs)) < suc (length xs)) (sym (differ x n ne)) (omega arith)
    ]

-- a list in which nothing stands twice is no longer than one that has all of it
pub once_fits : (xs ys : List ℕ) → IsOnce xs → ((m : ℕ) → is_in xs m ≡ true → is_in ys m ≡ true) → length xs ≤ length ys
once_fits [] ys once each = omega arith
once_fits (x ∷ xs) ys once each =
    let less = shorter-left_by x ys (each x (is_in_head x xs)) in
    let rest = once_fits xs (left_by x ys) once.1 (λ m h.
    is_in-left_by x ys m
    ∙ both_true _ _ (each m (or_right (m == x) _ h))
    (ap not (differ m x (λ is. false≢true (sym once.0 ∙ ap (is_in xs) (sym is) ∙ h))))) in
    omega arith

-- WHO BEFORE WHOM

pub precedes_in : (xs : List ℕ) (a b : ℕ) → precedes xs a b ≡ true → (is_in xs a ≡ true) × (is_in xs b ≡ true)
precedes_in [] a b h = absurd (false≢true h)
precedes_in (x ∷ xs) a b h =
    elim (or_true ((a == x) && is_in xs b) (precedes xs a b) h) [
      | inl both ↦ let p = and_true (a == x) (is_in xs b) both in (or_left _ _ p.0, or_right (b == x) _ p.1)
      | inr rest ↦ let p = precedes_in xs a b rest in (or_right (a == x) _ p.0, or_right (b == x) _ p.1)
    ]

-- the head stands behind nobody
pub none_before_head : (x : ℕ) (xs : List ℕ) → IsOnce (x ∷ xs) → (a : ℕ) → precedes (x ∷ xs) a x ≡ true → ⊥
none_before_head x xs once a h =
    elim (or_true ((a == x) && is_in xs x) (precedes xs a x) h) [
      | inl both ↦ false≢true (sym once.0 ∙ (and_true (a == x) (is_in xs x) both).1)
      | inr rest ↦ false≢true (sym once.0 ∙ (precedes_in xs a x rest).1)
    ]

pub precedes_irreflexive : (xs : List ℕ) → IsOnce xs → (a : ℕ) → precedes xs a a ≡ true → ⊥
precedes_irreflexive [] once a h = false≢true h
precedes_irreflexive (x ∷ xs) once a h =
    elim (or_true ((a == x) && is_in xs a) (precedes xs a a) h) [
      | inl both ↦
          let p = and_true (a == x) (is_in xs a) both in
          false≢true (sym once.0 ∙ ap (is_in xs) (sym (same_of a x p.0)) ∙ p.1)
      | inr rest ↦ precedes_irreflexive xs once.1 a rest
    ]

pub precedes_transitive : (xs : List ℕ) → IsOnce xs → (a b c : ℕ) → precedes xs a b ≡ true → precedes xs b c ≡ true → precedes xs a c ≡ true
precedes_transitive [] once a b c h k = h
precedes_transitive (x ∷ xs) once a b c h k =
    elim (or_true ((b == x) && is_in xs c) (precedes xs b c) k) [
      | inl second ↦
          let p = and_true (b == x) (is_in xs c) second in
          absurd (none_before_head x xs once a (subst (λ (y : ℕ). precedes (x ∷ xs) a y ≡ true) (same_of b x p.0) h))
      | inr second ↦
          elim (or_true ((a == x) && is_in xs b) (precedes xs a b) h) [
            | inl first ↦ or_left _ _ (both_true (a == x) (is_in xs c) (and_true (a == x) (is_in xs b) first).0 (precedes_in xs b c second).1)
            | inr first ↦ or_right ((a == x) && is_in xs c) _ (precedes_transitive xs once.1 a b c first second)
          ]
    ]

pub precedes_total : (xs : List ℕ) (a b : ℕ) → is_in xs a ≡ true → is_in xs b ≡ true → a ≢ b → (precedes xs a b ≡ true) ⊎ (precedes xs b a ≡ true)
precedes_total [] a b h k ne = absurd (false≢true h)
precedes_total (x ∷ xs) a b h k ne =
    elim (or_true (a == x) (is_in xs a) h) [
      | inl first ↦
          elim (or_true (b == x) (is_in xs b) k) [
            | inl second ↦ absurd (ne (same_of a x first ∙ sym (same_of b x second)))
            | inr second ↦ inl (or_left _ _ (both_true (a == x) (is_in xs b) first second))
          ]
      | inr first ↦
          elim (or_true (b == x) (is_in xs b) k) [
            | inl second ↦ inr (or_left _ _ (both_true (b == x) (is_in xs a) second first))
            | inr second ↦
                elim (precedes_total xs a b first second ne) [
                  | inl r ↦ inl (or_right ((a == x) && is_in xs b) _ r)
                  | inr r ↦ inr (or_right ((b == x) && is_in xs a) _ r)
                ]
          ]
    ]

pub precedes-left_by : (n : ℕ) (xs : List ℕ) (a b : ℕ) → precedes (left_by n xs) a b ≡ (precedes xs a b && (not (a == n) && not (b == n)))
precedes-left_by n = precedes-filter (λ m. not (m == n))

-- WHO IS FIRST

-- the first that passes a test stands in the queue and passes it
pub first_passes : (p : ℕ → Bool) (xs : List ℕ) (s : ℕ) → find p xs ≡ Some s → (is_in xs s ≡ true) × (p s ≡ true)
first_passes p [] s h = absurd (let k : ◌≡◌ {A = Option ℕ} None (Some s) = h in cc)
first_passes p (x ∷ xs) s h =
    elim (p x) as (λ b. p x ≡ b → cond b (Some x) (find p xs) ≡ Some s → (is_in (x ∷ xs) s ≡ true) × (p s ≡ true)) [
      | true ↦ λ t is. let v : x ≡ s = cc in (or_left _ _ (eq-eqb s x (sym v)), sym (ap p v) ∙ t)
      | false ↦ λ _ is. let r = first_passes p xs s is in (or_right (s == x) _ r.0, r.1)
    ] refl h

-- and none that passes it stands before
pub first_is_first : (p : ℕ → Bool) (xs : List ℕ) → IsOnce xs → (s : ℕ) → find p xs ≡ Some s → (other : ℕ) → p other ≡ true → precedes xs other s ≡ true → ⊥
first_is_first p [] once s h other passes before = false≢true before
first_is_first p (x ∷ xs) once s h other passes before =
    elim (p x) as (λ b. p x ≡ b → cond b (Some x) (find p xs) ≡ Some s → ⊥) [
      | true ↦ λ _ is. let v : x ≡ s = cc in none_before_head x xs once other (subst (λ (y : ℕ). precedes (x ∷ xs) other y ≡ true) (sym v) before)
      | false ↦ λ t is.
          elim (or_true ((other == x) && is_in xs s) (precedes xs other s) before) [
            | inl both ↦ false≢true (sym t ∙ ap p (sym (same_of other x (and_true (other == x) (is_in xs s) both).0)) ∙ passes)
            | inr rest ↦ first_is_first p xs once.1 s is other passes rest
          ]
    ] refl h

-- where none is found, none in the queue passes
pub none_passes : (p : ℕ → Bool) (xs : List ℕ) → find p xs ≡ None → (s : ℕ) → is_in xs s ≡ true → p s ≡ true → ⊥
none_passes p [] h s there passes = false≢true there
none_passes p (x ∷ xs) h s there passes =
    elim (p x) as (λ b. p x ≡ b → cond b (Some x) (find p xs) ≡ None → ⊥) [
      | true ↦ λ _ is. let k : ◌≡◌ {A = Option ℕ} (Some x) None = is in cc
      | false ↦ λ t is.
          elim (or_true (s == x) (is_in xs s) there) [
            | inl here ↦ false≢true (sym t ∙ ap p (sym (same_of s x here)) ∙ passes)
            | inr rest ↦ none_passes p xs is s rest passes
          ]
    ] refl h
