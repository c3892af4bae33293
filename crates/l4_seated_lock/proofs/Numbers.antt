-- Seats and books by number, as one of them changes and one more is given.
use Rattle.std.proofs.Common.{◌≡◌, ◌≢◌, ℕ, suc, zero, ◌<◌, inl, inr, nat_eq, if◌then◌else◌, List, [], ◌∷◌, ◌++◌, length, slice_get, slice_set, get_or, Option, Some, None, refl, sym, ap, ◌∙◌, subst, arith}
use Rattle.std.specs.List.{All}
use Rattle.std.proofs.lemmas.Bool.Decides.{eqb_tells}
use Rattle.std.proofs.lemmas.Option.{slice_get-get_or, same_Some}
use Rattle.std.proofs.lemmas.List.Elements.{All-head, All-tail}
use Rattle.l4_lock.specs.Books.{SeatState, Book, book_at}
use Rattle.l4_lock.specs.Closing.{HasSeat}
use Rattle.l4_seated_lock.specs.Inside.Places.{found}

-- what stands at a place that was read
pub at_place : (ps : List SeatState) (at : ℕ) (p : SeatState) → at < length ps → p ≡ get_or ps at p → slice_get ps at ≡ Some p
at_place ps at p lt read = slice_get-get_or ps at p lt ∙ ap Some (sym read)

pub shifted : (x : SeatState) (ps : List SeatState) (before n : ℕ) → HasSeat ps before n → HasSeat (x ∷ ps) (suc before) n
shifted x ps before n h = record { at = suc h.at; early = (let e = h.early in omega (arith, e)); seat = h.seat; there = h.there; number = h.number }

pub at_head : (x : SeatState) (ps : List SeatState) (before n : ℕ) → x.number ≡ n → HasSeat (x ∷ ps) (suc before) n
at_head x ps before n is = record { at = 0; early = omega arith; seat = x; there = refl; number = is }

-- the first seat of a number is found
pub found_first : (ps : List SeatState) (at n : ℕ) (p : SeatState) → slice_get ps at ≡ Some p → p.number ≡ n → ¬ (HasSeat ps at n) → found ps n ≡ Some p
found_first [] at n p there is first = absurd (let k : ◌≡◌ {A = Option SeatState} None (Some p) = there in cc)
found_first (x ∷ ps) zero n p there is first =
    let own : x ≡ p = same_Some x p there in
    elim (eqb_tells x.number n) [
      | inl same ↦ ap (λ t. if t then Some x else found ps n) same.0 ∙ there
      | inr ne ↦ absurd (ne.1 (ap (λ (q : SeatState). q.number) own ∙ is))
    ]
found_first (x ∷ ps) (suc at) n p there is first =
    elim (eqb_tells x.number n) [
      | inl same ↦ absurd (first (at_head x ps at n same.1))
      | inr ne ↦ ap (λ t. if t then Some x else found ps n) ne.0 ∙ found_first ps at n p there is (λ h. first (shifted x ps at n h))
    ]

-- where no seat has the number, none is found
pub none_found : (ps : List SeatState) (n : ℕ) → ¬ (HasSeat ps (length ps) n) → found ps n ≡ None
none_found [] n none = refl
none_found (x ∷ ps) n none =
    elim (eqb_tells x.number n) [
      | inl same ↦ absurd (none (at_head x ps (length ps) n same.1))
      | inr ne ↦ ap (λ t. if t then Some x else found ps n) ne.0 ∙ none_found ps n (λ h. none (shifted x ps (length ps) n h))
    ]

-- the first seat of a number changes
pub set_first : (ps : List SeatState) (at n : ℕ) (p c : SeatState) → slice_get ps at ≡ Some p → c.number ≡ n → ¬ (HasSeat ps at n) → found (slice_set ps at c) n ≡ Some c
set_first [] at n p c there is first = absurd (let k : ◌≡◌ {A = Option SeatState} None (Some p) = there in cc)
set_first (x ∷ ps) zero n p c there is first =
    elim (eqb_tells c.number n) [
      | inl same ↦ ap (λ t. if t then Some c else found ps n) same.0
      | inr ne ↦ absurd (ne.1 is)
    ]
set_first (x ∷ ps) (suc at) n p c there is first =
    elim (eqb_tells x.number n) [
      | inl same ↦ absurd (first (at_head x ps at n same.1))
      | inr ne ↦ ap (λ t. if t then Some x else found (slice_set ps at c) n) ne.0 ∙ set_first ps at n p c there is (λ h. first (shifted x ps at n h))
    ]

pub set_other : (ps : List SeatState) (at n m : ℕ) (p c : SeatState) → slice_get ps at ≡ Some p → p.number ≡ n → c.number ≡ n → m ≢ n → found (slice_set ps at c) m ≡ found ps m
set_other [] at n m p c there was is ne = refl
set_other (x ∷ ps) zero n m p c there was is ne =
    let own : x ≡ p = same_Some x p there in
    elim (eqb_tells x.number m) [
      | inl same ↦ absurd (ne (sym same.1 ∙ ap (λ (q : SeatState). q.number) own ∙ was))
      | inr other ↦ elim (eqb_tells c.number m) [
        | inl same ↦ absurd (ne (sym same.1 ∙ is))
        | inr third ↦ ap (λ t. if t then Some c else found ps m) third.0 ∙ sym (ap (λ t. if t then Some x else found ps m) other.0)
      ]
    ]
set_other (x ∷ ps) (suc at) n m p c there was is ne = ap (λ (o : Option SeatState). if nat_eq x.number m then Some x else o) (set_other ps at n m p c there was is ne)

-- one more is given
pub push_own : (ps : List SeatState) (n : ℕ) (c : SeatState) → found ps n ≡ None → c.number ≡ n → found (ps ++ c ∷ []) n ≡ Some c
push_own [] n c none is =
    elim (eqb_tells c.number n) [
      | inl same ↦ ap (λ t. if t then Some c else found [] n) same.0
      | inr ne ↦ absurd (ne.1 is)
    ]
push_own (x ∷ ps) n c none is =
    elim (eqb_tells x.number n) [
      | inl same ↦ absurd (let k : ◌≡◌ {A = Option SeatState} (Some x) None = sym (ap (λ t. if t then Some x else found ps n) same.0) ∙ none in cc)
      | inr ne ↦ ap (λ t. if t then Some x else found (ps ++ c ∷ []) n) ne.0 ∙ push_own ps n c (sym (ap (λ t. if t then Some x else found ps n) ne.0) ∙ none) is
    ]

pub push_other : (ps : List SeatState) (m : ℕ) (c : SeatState) → c.number ≢ m → found (ps ++ c ∷ []) m ≡ found ps m
push_other [] m c ne =
    elim (eqb_tells c.number m) [
      | inl same ↦ absurd (ne same.1)
      | inr other ↦ ap (λ t. if t then Some c else found [] m) other.0
    ]
push_other (x ∷ ps) m c ne = ap (λ (o : Option SeatState). if nat_eq x.number m then Some x else o) (push_other ps m c ne)

pub book_push_own : (bs : List Book) (n : ℕ) (c : Book) → book_at bs n ≡ None → c.number ≡ n → book_at (bs ++ c ∷ []) n ≡ Some c
book_push_own [] n c none is =
    elim (eqb_tells c.number n) [
      | inl same ↦ ap (λ t. if t then Some c else book_at [] n) same.0
      | inr ne ↦ absurd (ne.1 is)
    ]
book_push_own (x ∷ bs) n c none is =
    elim (eqb_tells x.number n) [
      | inl same ↦ absurd (let k : ◌≡◌ {A = Option Book} (Some x) None = sym (ap (λ t. if t then Some x else book_at bs n) same.0) ∙ none in cc)
      | inr ne ↦ ap (λ t. if t then Some x else book_at (bs ++ c ∷ []) n) ne.0 ∙ book_push_own bs n c (sym (ap (λ t. if t then Some x else book_at bs n) ne.0) ∙ none) is
    ]

pub book_push_other : (bs : List Book) (m : ℕ) (c : Book) → c.number ≢ m → book_at (bs ++ c ∷ []) m ≡ book_at bs m
book_push_other [] m c ne =
    elim (eqb_tells c.number m) [
      | inl same ↦ absurd (ne same.1)
      | inr other ↦ ap (λ t. if t then Some c else book_at [] m) other.0
    ]
book_push_other (x ∷ bs) m c ne = ap (λ (o : Option Book). if nat_eq x.number m then Some x else o) (book_push_other bs m c ne)

-- what holds of all books holds of a number's
pub of_book : (P : Book → Type 0) (bs : List Book) (n : ℕ) (b : Book) → book_at bs n ≡ Some b → All P bs → P b
of_book P [] n b there h = absurd (let k : ◌≡◌ {A = Option Book} None (Some b) = there in cc)
of_book P (x ∷ bs) n b there h =
    elim (eqb_tells x.number n) [
      | inl same ↦ subst P (same_Some x b (sym (ap (λ t. if t then Some x else book_at bs n) same.0) ∙ there)) (All-head P x bs h)
      | inr ne ↦ of_book P bs n b (sym (ap (λ t. if t then Some x else book_at bs n) ne.0) ∙ there) (All-tail P x bs h)
    ]
