-- The loops over seats and over numbers that come back.
use Rattle.std.proofs.Common.{◌≡◌, ℕ, ◌+◌, ◌<◌, ◌≤◌, ◌⊎◌, inl, inr, Bool, true, false, List, [], length, get_or, Option, Some, None, slice_get, refl, sym, ap, ◌∙◌, subst, arith}
use Rattle.std.proofs.lemmas.Option.{slice_get-get_or, get_or_from_slice_get, slice_get_within}
use Rattle.l4_lock.specs.Books.{SeatState, seat_state}
use Rattle.l4_lock.specs.Closing.{HasSeat, Least}
use Rattle.l4_lock.specs.Inside.Closing.{keep}
use Rattle.l4_lock.proofs.Back.{SoFar, one_more}
use Rattle.l4_seated_lock.specs.Inside.Numbers.{HasNumber, IsUnnamed, IsStrange}
use Rattle.l4_seated_lock.specs.Inside.Places.{IsFirst}
use Rattle.l4_seated_lock.proofs.Numbers.{at_place}

-- of the seats before a place, and of the numbers before one: each is fine, or the least number of one that isn't is kept
abbrev pub SoFarUnnamed : List SeatState → List ℕ → ℕ → Option ℕ → Type 0
SoFarUnnamed seats numbers i o = SoFar (IsUnnamed seats numbers) {X = SeatState} (λ (p : SeatState). p.number) (λ k p. HasNumber numbers (length numbers) p.number) seats i o

abbrev pub SoFarStrange : List SeatState → List ℕ → ℕ → Option ℕ → Type 0
SoFarStrange seats numbers i o = SoFar (IsStrange seats numbers) {X = ℕ} (λ (n : ℕ). n) (λ k n. HasSeat seats (length seats) n × ¬ (HasNumber numbers k n)) numbers i o

pub next_unnamed : (seats : List SeatState) (numbers : List ℕ) (i n : ℕ) (p : SeatState) (back bad : Bool) (found kept : Option ℕ)
    → i < length seats → p ≡ get_or seats i p → n ≡ p.number → (back ≡ true → HasNumber numbers (length numbers) n) → (back ≡ false → ¬ (HasNumber numbers (length numbers) n))
    → (bad ≡ true → back ≡ false) → (bad ≡ false → back ≡ true)
    → SoFarUnnamed seats numbers i found → kept ≡ keep found n bad → SoFarUnnamed seats numbers (i + 1) kept
next_unnamed seats numbers i n p back bad found kept lt is number has lacks so not h kept_is =
    subst (λ (o : Option ℕ). SoFarUnnamed seats numbers (i + 1) o) (sym (kept_is ∙ ap (λ (m : ℕ). keep found m bad) number))
    (one_more (IsUnnamed seats numbers) (λ (p : SeatState). p.number) (λ k p. HasNumber numbers (length numbers) p.number) seats i p bad found lt is
    (λ e. (record { at = i; early = lt; seat = p; there = at_place seats i p lt is; number = refl }, λ named. lacks (so e) (subst (HasNumber numbers (length numbers)) (sym number) named)))
    (λ e. subst (HasNumber numbers (length numbers)) number (has (not e)))
    h)

pub next_strange : (seats : List SeatState) (numbers : List ℕ) (i n d : ℕ) (bad : Bool) (found kept : Option ℕ)
    → i < length numbers → n ≡ get_or numbers i d
    → (bad ≡ true → ¬ (HasSeat seats (length seats) n) ⊎ HasNumber numbers i n) → (bad ≡ false → HasSeat seats (length seats) n × ¬ (HasNumber numbers i n))
    → SoFarStrange seats numbers i found → kept ≡ keep found n bad → SoFarStrange seats numbers (i + 1) kept
next_strange seats numbers i n d bad found kept lt read foreign fine h kept_is =
    let there : slice_get numbers i ≡ Some n = slice_get-get_or numbers i d lt ∙ ap Some (sym read) in
    let is : n ≡ get_or numbers i n = sym (get_or_from_slice_get numbers i n n there) in
    subst (λ (o : Option ℕ). SoFarStrange seats numbers (i + 1) o) (sym kept_is)
    (one_more (IsStrange seats numbers) (λ (n : ℕ). n) (λ k n. HasSeat seats (length seats) n × ¬ (HasNumber numbers k n)) numbers i n bad found lt is
    (λ e. elim (foreign e) [ inl other ↦ inl (record { at = i; early = lt; there = there }, other) | inr before ↦ inr (record { at = i; there = there; first = before }) ])
    fine
    h)

-- what the loops leave
pub least_unnamed : (seats : List SeatState) (numbers : List ℕ) (i : ℕ) (o : Option ℕ) → length seats ≤ i → SoFarUnnamed seats numbers i o → Least (IsUnnamed seats numbers) o
least_unnamed seats numbers i None past h = λ n bad.
    bad.1 (subst (HasNumber numbers (length numbers)) bad.0.number (h bad.0.at bad.0.seat (let e = bad.0.early in omega (arith, e, past)) bad.0.there))
least_unnamed seats numbers i (Some n) past h = (
  h.0,
  λ k less bad.
      bad.1 (subst (HasNumber numbers (length numbers)) bad.0.number
      (h.1 bad.0.at bad.0.seat (let e = bad.0.early in omega (arith, e, past)) bad.0.there (let e = bad.0.number in omega (arith, e, less)))),
)

pub least_strange : (seats : List SeatState) (numbers : List ℕ) (i : ℕ) (o : Option ℕ) → length numbers ≤ i → SoFarStrange seats numbers i o → Least (IsStrange seats numbers) o
least_strange seats numbers i None past h = λ n bad. elim bad [
  | inl other ↦ other.1 (h other.0.at n (let e = other.0.early in omega (arith, e, past)) other.0.there).0
  | inr twice ↦ (h twice.at n (let e = slice_get_within numbers twice.at n twice.there in omega (arith, e, past)) twice.there).1 twice.first
]
least_strange seats numbers i (Some m) past h = (
  h.0,
  λ n less bad. elim bad [
    | inl other ↦ other.1 (h.1 other.0.at n (let e = other.0.early in omega (arith, e, past)) other.0.there less).0
    | inr twice ↦ (h.1 twice.at n (let e = slice_get_within numbers twice.at n twice.there in omega (arith, e, past)) twice.there less).1 twice.first
  ],
)

-- where a seat was found there is one
pub first_has : (seats : List SeatState) (n at : ℕ) → IsFirst seats n at → HasSeat seats (length seats) n
first_has seats n at first =
    let d : SeatState = seat_state 0 0 [] in
    let there = slice_get-get_or seats at d first.0 in
    record { at = at; early = first.0; seat = get_or seats at d; there = there; number = first.1 (get_or seats at d) there }
