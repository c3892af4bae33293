-- The numbers of the served threads as they are kept, by rising number, and as a set.
use Rattle.std.proofs.Common.{◌≡◌, ℕ, zero, suc, ◌+◌, ◌-◌, ◌<◌, ◌≤◌, ◌⊎◌, ◌==◌, Bool, true, false, not, ◌&&◌, ◌||◌, List, [], ◌∷◌, length, take, drop, get_or, inl, inr, refl, sym, ap, ◌∙◌, subst, arith, Ok, Err}
use Rattle.std.proofs.Math.Seq.{drop-cons, drop-nil}
use Rattle.std.specs.List.{list_any, insert, filter}
use Rattle.std.specs.List.Sorted.{IsStrictlySortedBy, IsBinarySearchResult}
use Rattle.std.specs.BTreeMap.{is_at}
use Rattle.std.specs.Ordering.{nat_cmp, eq_by_cmp, is_eq}
use Rattle.std.specs.Cmp.{nat_cmp_total, tied_itself}
use Rattle.std.specs.FinMap.{nat_cmp-IsAntisymmetric}
use Rattle.std.specs.FinSet as set
use Rattle.std.proofs.lemmas.Bool.{false≢true}
use Rattle.std.proofs.lemmas.Grind.{get_or_default_zero}
use Rattle.std.proofs.lemmas.List.Sorted.{searched}
use Rattle.std.proofs.lemmas.Bool.Decides.{nat_tests}
use Rattle.std.proofs.lemmas.Option.{slice_get_read}
use Rattle.std.proofs.lemmas.List.{take-append-drop}
use Rattle.std.proofs.lemmas.List.Folds.{list_any-append}
use Rattle.std.proofs.lemmas.List.Edits.{length-insert, get_or-insert_at, get_or-insert_below, get_or-insert_above}
use Rattle.std.proofs.lemmas.Map.Keys.{sorted_from_strictly_increasing, non_decreasing_from_sorted, below_from_sorted, any_passes_from_place}
use Rattle.std.proofs.lemmas.Map.Views.{any-filter_same}
use Rattle.l4_servers.proofs.Kept.{equal}

abbrev pub Numbers : Type 0
Numbers = List ℕ

abbrev pub has : ℕ → Numbers → Bool
has n ks = list_any (is_at (nat_cmp n)) ks

abbrev pub served_by : Numbers → set.FinSet nat_cmp
served_by ks = set.from_list ks

pub held : (ks : Numbers) (q : ℕ) → set.contains (served_by ks) q ≡ has q ks
held ks q = set.contains-from_list nat_cmp_total ks q

-- THE NUMBERS FROM A PLACE ON

pub one_on : (ks : Numbers) (i : ℕ) → i < length ks → drop i ks ≡ get_or ks i 0 ∷ drop (i + 1) ks
one_on ks i lt = let next : suc i ≡ i + 1 = omega arith in drop-cons ks i 0 lt ∙ ap (λ (n : ℕ). get_or ks i 0 ∷ drop n ks) next

pub none_on : (ks : Numbers) (i : ℕ) → length ks ≤ i → drop i ks ≡ []
none_on [] i le = drop-nil i
none_on (x ∷ ks) zero le = absurd (omega (arith, le))
none_on (x ∷ ks) (suc i) le = none_on ks i (omega arith)

-- A NUMBER AT A PLACE, AND A NUMBER AT NONE

itself : (n : ℕ) → is_at (nat_cmp n) n ≡ true
itself n = ap is_eq (tied_itself nat_cmp_total n)

pub at_place : (ks : Numbers) (i n : ℕ) → (i < length ks) × (get_or ks i 0 ≡ n) → set.contains (served_by ks) n ≡ true
at_place ks i n h = held ks n ∙ any_passes_from_place (is_at (nat_cmp n)) ks i n (slice_get_read ks (length ks) i n refl h.0 (sym (get_or_default_zero ks i n h.0 ∙ h.1))) (itself n)

has_none : (ks : Numbers) (n : ℕ) → ((k : ℕ) → k < length ks → get_or ks k 0 ≡ n → ⊥) → has n ks ≡ false
has_none [] n h = refl
has_none (x ∷ ks) n h =
    elim (is_at (nat_cmp n) x) as (λ b. is_at (nat_cmp n) x ≡ b → (b || has n ks) ≡ false) [
      | true ↦ λ t. absurd (h 0 (omega arith) (sym (equal n x t)))
      | false ↦ λ t. has_none ks n (λ k lt. h (suc k) (omega arith))
    ] refl

le_or : (a b : ℕ) → (a ≤ b) ⊎ (b < a)
le_or zero b = inl (omega arith)
le_or (suc a) zero = inr (omega arith)
le_or (suc a) (suc b) = elim (le_or a b) [ inl h ↦ inl (omega (arith, h)) | inr h ↦ inr (omega (arith, h)) ]

-- the numbers before the place are below, and the others above
abbrev pub GoesTo : Numbers → ℕ → ℕ → Type 0
GoesTo ks i n = (i ≤ length ks) × ((k : ℕ) → k < i → get_or ks k 0 < n) × ((k : ℕ) → i ≤ k → k < length ks → n < get_or ks k 0)

pub at_none : (ks : Numbers) (i n : ℕ) → GoesTo ks i n → set.contains (served_by ks) n ≡ false
at_none ks i n goes = held ks n ∙ has_none ks n (λ k lt is.
    elim (le_or i k) [
      | inl h ↦ let above : n < get_or ks k 0 = goes.2 k h lt in omega (arith, above, is)
      | inr h ↦ let below : get_or ks k 0 < n = goes.1 k h in omega (arith, below, is)
    ])

-- what a search finds
pub found_in : (ks read : Numbers) (i n : ℕ) → read ≡ ks → IsStrictlySortedBy nat_cmp ks → IsBinarySearchResult (λ y. nat_cmp y n) read (Ok i) → set.contains (served_by ks) n ≡ true
found_in ks read i n is sorted h =
    at_place ks i n (searched ks n (Ok i) (subst (λ (t : Numbers). IsBinarySearchResult (λ y. nat_cmp y n) t (Ok i)) is h) (λ j k le lt. non_decreasing_from_sorted ks sorted j k 0 le lt))

pub goes_to : (ks read : Numbers) (i n : ℕ) → read ≡ ks → IsStrictlySortedBy nat_cmp ks → IsBinarySearchResult (λ y. nat_cmp y n) read (Err i) → GoesTo ks i n
goes_to ks read i n is sorted h =
    searched ks n (Err i) (subst (λ (t : Numbers). IsBinarySearchResult (λ y. nat_cmp y n) t (Err i)) is h) (λ j k le lt. non_decreasing_from_sorted ks sorted j k 0 le lt)

-- ONE MORE

-- whom a set has is not put in
stays : (b was : Bool) → (b ≡ true → was ≡ true) → was ≡ (b || was)
stays true was h = h refl
stays false was h = refl

pub put_again : (s : set.FinSet nat_cmp) (n : ℕ) → set.contains s n ≡ true → s ≡ set.insert s n
put_again s n h = set.same_set nat_cmp_total nat_cmp-IsAntisymmetric _ _ (λ q.
    stays (eq_by_cmp nat_cmp q n) (set.contains s q) (λ e. ap (set.contains s) (equal q n e) ∙ h) ∙ sym (set.contains-insert nat_cmp_total s n q))

pub none_rise : IsStrictlySortedBy nat_cmp []
none_rise = sorted_from_strictly_increasing [] (λ k lt. absurd (omega (arith, lt)))

turned : (a b c : Bool) → (a || (b || c)) ≡ (b || (a || c))
turned true true c = refl
turned true false c = refl
turned false b c = refl

has_put : (ks : Numbers) (i n q : ℕ) → has q (insert ks i n) ≡ (is_at (nat_cmp q) n || has q ks)
has_put ks i n q =
    list_any-append (is_at (nat_cmp q)) (take i ks) (n ∷ drop i ks)
    ∙ turned (has q (take i ks)) (is_at (nat_cmp q) n) (has q (drop i ks))
    ∙ ap (λ b. is_at (nat_cmp q) n || b) (sym (list_any-append (is_at (nat_cmp q)) (take i ks) (drop i ks)) ∙ ap (has q) (take-append-drop i ks))

pub put_in : (ks : Numbers) (i n : ℕ) → served_by (insert ks i n) ≡ set.insert (served_by ks) n
put_in ks i n = set.same_set nat_cmp_total nat_cmp-IsAntisymmetric _ _ (λ q.
    held (insert ks i n) q ∙ has_put ks i n q ∙ ap (λ b. eq_by_cmp nat_cmp q n || b) (sym (held ks q)) ∙ sym (set.contains-insert nat_cmp_total (served_by ks) n q))

-- what stands after the new number
moved : (ks : Numbers) (i n k : ℕ) → i ≤ length ks → i < k → get_or (insert ks i n) k 0 ≡ get_or ks (k - 1) 0
moved ks i n k le h =
    let last : k - 1 + 1 ≡ k = omega (arith, h) in
    subst (λ (j : ℕ). get_or (insert ks i n) j 0 ≡ get_or ks (k - 1) 0) last (get_or-insert_above ks i n 0 (k - 1) (omega (arith, h)) le)

put_at : (ks : Numbers) (i n k : ℕ) → i ≤ length ks → i ≡ k → get_or (insert ks i n) k 0 ≡ n
put_at ks i n k le same = subst (λ (j : ℕ). get_or (insert ks i n) j 0 ≡ n) same (get_or-insert_at ks i n 0 le)

rises_at : (ks : Numbers) (i n k : ℕ) → IsStrictlySortedBy nat_cmp ks → GoesTo ks i n → k < length ks → get_or (insert ks i n) k 0 < get_or (insert ks i n) (k + 1) 0
rises_at ks i n k sorted goes lt =
    elim (le_or i k) [
      | inl h ↦
          let high : get_or (insert ks i n) (k + 1) 0 ≡ get_or ks k 0 = get_or-insert_above ks i n 0 k h goes.0 in
          elim (le_or k i) [
            | inl back ↦
                let low : get_or (insert ks i n) k 0 ≡ n = put_at ks i n k goes.0 (omega (arith, h, back)) in
                let above : n < get_or ks k 0 = goes.2 k h lt in
                omega (arith, high, low, above)
            | inr after ↦
                let low : get_or (insert ks i n) k 0 ≡ get_or ks (k - 1) 0 = moved ks i n k goes.0 after in
                let rise : get_or ks (k - 1) 0 < get_or ks k 0 = below_from_sorted ks (k - 1) k 0 sorted (omega (arith, after)) lt in
                omega (arith, high, low, rise)
          ]
      | inr before ↦
          let low : get_or (insert ks i n) k 0 ≡ get_or ks k 0 = get_or-insert_below ks i n 0 k before goes.0 in
          let below : get_or ks k 0 < n = goes.1 k before in
          elim (le_or i (k + 1)) [
            | inl h ↦
                let high : get_or (insert ks i n) (k + 1) 0 ≡ n = put_at ks i n (k + 1) goes.0 (omega (arith, h, before)) in
                omega (arith, high, low, below)
            | inr later ↦
                let high : get_or (insert ks i n) (k + 1) 0 ≡ get_or ks (k + 1) 0 = get_or-insert_below ks i n 0 (k + 1) later goes.0 in
                let rise : get_or ks k 0 < get_or ks (k + 1) 0 = below_from_sorted ks k (k + 1) 0 sorted (omega arith) (omega (arith, later, goes.0)) in
                omega (arith, high, low, rise)
          ]
    ]

pub put_rises : (ks : Numbers) (i n : ℕ) → IsStrictlySortedBy nat_cmp ks → GoesTo ks i n → IsStrictlySortedBy nat_cmp (insert ks i n)
put_rises ks i n sorted goes =
    sorted_from_strictly_increasing (insert ks i n) (λ k lt. rises_at ks i n k sorted goes (omega (arith, lt, length-insert ks i n goes.0)))

-- ONE LESS

abbrev pub others : ℕ → Numbers → Numbers
others n ks = filter (λ (m : ℕ). not (m == n)) ks

same_test : (a b : ℕ) → (a == b) ≡ eq_by_cmp nat_cmp a b
same_test a b =
    elim (eq_by_cmp nat_cmp a b) as (λ t. eq_by_cmp nat_cmp a b ≡ t → (a == b) ≡ t) [
      | true ↦ λ t. let same : a ≡ b = equal a b t in grind (arith, nat_tests, same)
      | false ↦ λ t.
          let apart : a ≡ b → ⊥ = λ e. false≢true (sym t ∙ ap (eq_by_cmp nat_cmp a) (sym e) ∙ itself a) in
          grind (arith, nat_tests, apart)
    ] refl

pub taken_out : (ks : Numbers) (n : ℕ) → served_by (others n ks) ≡ set.remove (served_by ks) n
taken_out ks n = set.same_set nat_cmp_total nat_cmp-IsAntisymmetric _ _ (λ q.
    held (others n ks) q
    ∙ any-filter_same (is_at (nat_cmp q)) (λ (m : ℕ). not (m == n)) (not (eq_by_cmp nat_cmp q n)) (λ k t. ap not (same_test k n) ∙ ap (λ m. not (eq_by_cmp nat_cmp m n)) (sym (equal q k t))) ks
    ∙ ap (λ b. not (eq_by_cmp nat_cmp q n) && b) (sym (held ks q)) ∙ sym (set.contains-remove nat_cmp_total (served_by ks) n q))
