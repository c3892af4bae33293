-- The orders from a state, counted thread by thread.
use Rattle.std.proofs.Common.{◌≡◌, ℕ, zero, suc, ◌+◌, ◌<◌, ◌≤◌, ◌⊎◌, Bool, true, false, List, [], ◌∷◌, ◌++◌, length, get_or, map, refl, sym, ap, subst, ◌∙◌, arith, inl, inr}
use Rattle.std.specs.Prelude.{Contains}
use Rattle.std.specs.List.{AllPairs}
use Rattle.std.proofs.lemmas.Bool.{false≢true, cases_lt}
use Rattle.std.proofs.lemmas.List.{length-append, length-map, get_or_default}
use Rattle.std.proofs.lemmas.List.Elements.{Contains-append_left, Contains-append_right, Contains-append_cases}
use Rattle.l4_merges.specs.Orders.{IsRun, IsOver, IsOrder, LeavesOne, CountsOrders}

-- LISTS

abbrev pub AreApart : List (List ℕ) → Type 0
AreApart orders = AllPairs (λ a b. a ≡ b → ⊥) orders

-- these orders with one more turn in front
abbrev pub led : ℕ → List (List ℕ) → List (List ℕ)
led thread orders = map (λ order. thread ∷ order) orders

-- a list has its head and what its tail has, and nothing else
pub has_head : (x : List ℕ) (xs : List (List ℕ)) → Contains (x ∷ xs) x
has_head x xs = (0, omega arith, refl)

pub has_tail : (x y : List ℕ) (xs : List (List ℕ)) → Contains xs y → Contains (x ∷ xs) y
has_tail x y xs has = (suc has.0, (let lt = has.1 in omega (arith, lt)), has.2)

pub head_or_tail : (x y : List ℕ) (xs : List (List ℕ)) → Contains (x ∷ xs) y → (x ≡ y) ⊎ Contains xs y
head_or_tail x y xs (zero, lt, is) = inl is
head_or_tail x y xs (suc k, lt, is) = inr (k, omega (arith, lt), is)

pub has_none : (y : List ℕ) → Contains [] y → ⊥
has_none y has = let lt = has.1 in omega (arith, lt)

led_has : (thread : ℕ) (orders : List (List ℕ)) (order : List ℕ) → Contains orders order → Contains (led thread orders) (thread ∷ order)
led_has thread [] order has = absurd (has_none order has)
led_has thread (x ∷ orders) order has = elim (head_or_tail x order orders has) [
  | inl same ↦ subst (λ (o : List ℕ). Contains (led thread (x ∷ orders)) (thread ∷ o)) same (has_head (thread ∷ x) (led thread orders))
  | inr later ↦ has_tail (thread ∷ x) (thread ∷ order) (led thread orders) (led_has thread orders order later)
]

has_led : (thread : ℕ) (orders : List (List ℕ)) (order : List ℕ) → Contains (led thread orders) order → (rest : List ℕ) × Contains orders rest × (order ≡ thread ∷ rest)
has_led thread [] order has = absurd (has_none order has)
has_led thread (x ∷ orders) order has = elim (head_or_tail (thread ∷ x) order (led thread orders) has) [
  | inl same ↦ (x, has_head x orders, sym same)
  | inr later ↦ let rest = has_led thread orders order later in (rest.0, has_tail x rest.0 orders rest.1, rest.2)
]

-- apart from each later one, and those apart
pub apart_cons : (x : List ℕ) (xs : List (List ℕ)) → ((y : List ℕ) → Contains xs y → x ≡ y → ⊥) → AreApart xs → AreApart (x ∷ xs)
apart_cons x xs head tail zero zero d lt within = absurd (omega (arith, lt))
apart_cons x xs head tail zero (suc j) d lt within = head (get_or xs j d) (j, omega (arith, within), same_at xs j d (get_or xs j d) (omega (arith, within))) where
  same_at : (l : List (List ℕ)) (k : ℕ) (d e : List ℕ) → k < length l → get_or l k e ≡ get_or l k d
  same_at l k d e below = get_or_default l k e d below
apart_cons x xs head tail (suc i) zero d lt within = absurd (omega (arith, lt))
apart_cons x xs head tail (suc i) (suc j) d lt within = tail i j d (omega (arith, lt)) (omega (arith, within))

pub apart_tail : (x : List ℕ) (xs : List (List ℕ)) → AreApart (x ∷ xs) → AreApart xs
apart_tail x xs apart i j d lt within = apart (suc i) (suc j) d (omega (arith, lt)) (omega (arith, within))

pub apart_head : (x : List ℕ) (xs : List (List ℕ)) → AreApart (x ∷ xs) → (y : List ℕ) → Contains xs y → x ≡ y → ⊥
apart_head x xs apart y has same = let lt = has.1 in apart zero (suc has.0) y (omega arith) (omega (arith, lt)) (same ∙ sym has.2)

led_apart : (thread : ℕ) (orders : List (List ℕ)) → AreApart orders → AreApart (led thread orders)
led_apart thread [] apart = λ i j d lt within. absurd (omega (arith, within))
led_apart thread (x ∷ orders) apart =
    apart_cons (thread ∷ x) (led thread orders)
    (λ y has same. let rest = has_led thread orders y has in apart_head x orders apart rest.0 rest.1 (tails_same x rest.0 (same ∙ rest.2)))
    (led_apart thread orders (apart_tail x orders apart)) where
      tail_of : List ℕ → List ℕ
      tail_of [] = []
      tail_of (a ∷ l) = l

      tails_same : (a b : List ℕ) → thread ∷ a ≡ thread ∷ b → a ≡ b
      tails_same a b e = ap tail_of e

pub append_apart : (xs ys : List (List ℕ)) → AreApart xs → AreApart ys → ((x y : List ℕ) → Contains xs x → Contains ys y → x ≡ y → ⊥) → AreApart (xs ++ ys)
append_apart [] ys p q across = q
append_apart (x ∷ xs) ys p q across =
    apart_cons x (xs ++ ys)
    (λ y has same. elim (Contains-append_cases xs ys y has) [
      | inl own ↦ apart_head x xs p y own same
      | inr other ↦ across x y (has_head x xs) other same
    ])
    (append_apart xs ys (apart_tail x xs p) q (λ a b has also. across a b (has_tail x a xs has) also))

-- ORDERS

abbrev head_of : ℕ → List ℕ → ℕ
head_of d [] = d
head_of d (a ∷ l) = a

module _ {S : Type 0} (enabled : S → ℕ → Bool) (Turns : S → ℕ → S → Type 0) where
  -- these are the orders that begin with the turn of a thread below this one, each once
  pub record AreBelow (s : S) (below : ℕ) (orders : List (List ℕ)) : Type 0 where
    pub each : (order : List ℕ) → Contains orders order → (first : ℕ) × (rest : List ℕ) × (order ≡ first ∷ rest) × (first < below) × ((t : S) × IsOrder enabled Turns s order t)
    pub all : (first : ℕ) (rest : List ℕ) (t : S) → first < below → IsOrder enabled Turns s (first ∷ rest) t → Contains orders (first ∷ rest)
    pub distinct : AreApart orders

  -- their number
  abbrev pub CountsBelow : S → ℕ → ℕ → Type 0
  CountsBelow s below count = LeavesOne enabled Turns s → (orders : List (List ℕ)) × AreBelow s below orders × (count ≡ length orders)

  pub none_below : (s : S) → CountsBelow s 0 0
  none_below s only = (
    [],
    record {
      each = λ order has. absurd (has_none order has);
      all = λ first rest t lt is. absurd (omega (arith, lt));
      distinct = λ i j d lt within. absurd (omega (arith, within));
    },
    refl,
  )

  -- a thread that is not enabled begins no order
  pub disabled_more : (s : S) (thread count : ℕ) → enabled s thread ≡ false → CountsBelow s thread count → CountsBelow s (thread + 1) count
  disabled_more s thread count not counts only =
      let known = counts only in (
        known.0,
        record {
          each = λ order has. let one = known.1.each order has in let lt = one.3 in (one.0, one.1, one.2, omega (arith, lt), one.4);
          all = λ first rest t lt is. elim (cases_lt first thread) [
            | inl before ↦ known.1.all first rest t before is
            | inr at ↦ absurd (false≢true (sym not ∙ subst (λ (n : ℕ). enabled s n ≡ true) (omega (arith, lt, at)) is.run.0))
          ];
          distinct = known.1.distinct;
        },
        known.2,
      )

  -- the orders that begin with an enabled thread are those of the state after its turn
  pub below_turn : (s : S) (thread : ℕ) (u : S) (count more sum : ℕ) → enabled s thread ≡ true → Turns s thread u → CountsOrders enabled Turns u more → sum ≡ count + more
      → CountsBelow s thread count → CountsBelow s (thread + 1) sum
  below_turn s thread u count more sum able turns counts is below only =
      let known = below only in
      let next = counts (λ path v run. only (thread ∷ path) v (able, (u, turns, run))) in (
        known.0 ++ led thread next.0,
        record {
          each = λ order has. elim (Contains-append_cases known.0 (led thread next.0) order has) [
            | inl old ↦ let one = known.1.each order old in let lt = one.3 in (one.0, one.1, one.2, omega (arith, lt), one.4)
            | inr new ↦
                let rest = has_led thread next.0 order new in
                let end = next.1.each rest.0 rest.1 in
                (thread, rest.0, rest.2, omega arith, (end.0, subst (λ (o : List ℕ). IsOrder enabled Turns s o end.0) (sym rest.2) (record { run = (able, (u, turns, end.1.run)); over = end.1.over })))
          ];
          all = λ first rest t lt order. elim (cases_lt first thread) [
            | inl before ↦ Contains-append_left known.0 (led thread next.0) (first ∷ rest) (known.1.all first rest t before order)
            | inr at ↦
                let same : first ≡ thread = omega (arith, lt, at) in
                let own : IsOrder enabled Turns s (thread ∷ rest) t = subst (λ (n : ℕ). IsOrder enabled Turns s (n ∷ rest) t) same order in
                let state : own.run.1.0 ≡ u = only [] s refl thread own.run.1.0 u own.run.1.1 turns in
                let later : IsOrder enabled Turns u rest t = record { run = subst (λ (v : S). IsRun enabled Turns v rest t) state own.run.1.2; over = own.over } in
                subst (λ (n : ℕ). Contains (known.0 ++ led thread next.0) (n ∷ rest)) (sym same)
                (Contains-append_right known.0 (led thread next.0) (thread ∷ rest) (led_has thread next.0 rest (next.1.all rest t later)))
          ];
          distinct = append_apart known.0 (led thread next.0) known.1.distinct (led_apart thread next.0 next.1.distinct)
              (λ x y old new same.
              let one = known.1.each x old in
              let rest = has_led thread next.0 y new in
              let lt = one.3 in
              let heads : one.0 ≡ thread = ap (head_of 0) (sym one.2 ∙ same ∙ rest.2) in
              omega (arith, lt, heads));
        },
        (let a = known.2 in let b = next.2 in let c = length-append known.0 (led thread next.0) in let d = length-map next.0 (λ (order : List ℕ). thread ∷ order) in omega (arith, is, a, b, c, d)),
      )

  -- all orders, if a thread is enabled
  pub counts_all : (threads below : ℕ) (s : S) (count : ℕ) → threads ≤ below → ((thread : ℕ) → enabled s thread ≡ true → thread < threads) → (thread : ℕ) × (enabled s thread ≡ true) → CountsBelow s below count → CountsOrders enabled Turns s count
  counts_all threads below s count past within some counts only =
      let known = counts only in (
        known.0,
        record {
          each = λ order has. (known.1.each order has).4;
          all = every known.1;
          distinct = known.1.distinct;
        },
        known.2,
      ) where
        every : {orders : List (List ℕ)} → AreBelow s below orders → (order : List ℕ) (t : S) → IsOrder enabled Turns s order t → Contains orders order
        every are [] t is = absurd (false≢true (sym (subst (λ (v : S). enabled v some.0 ≡ false) is.run (is.over some.0)) ∙ some.1))
        every are (first ∷ rest) t is = let lt = within first is.run.0 in are.all first rest t (omega (arith, lt, past)) is

  -- the only order of a state in which none is enabled is empty
  pub counts_over : (s : S) → IsOver enabled s → CountsOrders enabled Turns s 1
  counts_over s over only = (
    [] ∷ [],
    record {
      each = λ order has. elim (head_or_tail [] order [] has) [
        | inl same ↦ (s, subst (λ (o : List ℕ). IsOrder enabled Turns s o s) same (record { run = refl; over = over }))
        | inr later ↦ absurd (has_none order later)
      ];
      all = only_empty;
      distinct = λ i j d lt within. absurd (omega (arith, lt, within));
    },
    refl,
  ) where
    only_empty : (order : List ℕ) (t : S) → IsOrder enabled Turns s order t → Contains ([] ∷ []) order
    only_empty [] t is = has_head [] []
    only_empty (first ∷ rest) t is = absurd (false≢true (sym (over first) ∙ is.run.0))
