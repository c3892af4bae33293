-- Seats that come back by their numbers.
use Rattle.std.proofs.Common.{◌≡◌, ◌≢◌, ℕ, suc, zero, ◌⊎◌, inl, inr, if◌then◌else◌, List, [], ◌∷◌, length, drop, Option, Some, None, MatchOption, slice_get, refl, sym, ap, ◌∙◌, subst, arith}
use Rattle.std.specs.Option.{option_map, option_map_or}
use Rattle.std.proofs.lemmas.Bool.Decides.{eqb_tells}
use Rattle.std.proofs.lemmas.Option.{slice_get-map, slice_get_within, same_Some}
use Rattle.l4_lock.specs.Books.{SeatState, seat_state, starts, Book, book_at, numbers, IsOnce}
use Rattle.l4_lock.specs.Closing.{HasBook, HasSeat, IsGiven, IsBack, kept_by_both, AllAgree, IsMissing, IsForeign, Least, Mismatches, AreBack, by_history, Closes}
use Rattle.l4_lock.specs.Inside.Noting.{started_by}
use Rattle.l4_lock.specs.Locked.{Lock, IsKept}
use Rattle.l4_lock.specs.declared.closing.Mismatch.{Mismatch}
use Rattle.l4_lock.specs.declared.closing.Mismatch.TheVariants.{Missing, Foreign, Receipt}
use Rattle.l4_lock.proofs.Back.{closes}
use Rattle.l4_lock.proofs.Started.{at_number, own_at, same_book}
use Rattle.l4_seated_lock.specs.Seated.{seat_of, seat_back, seats_back}
use Rattle.l4_seated_lock.specs.Inside.Places.{found}
use Rattle.l4_seated_lock.specs.Inside.Numbers.{HasNumber, IsUnnamed, IsStrange, AreNamed, Misnames}
use Rattle.l4_seated_lock.proofs.Numbers.{shifted, at_head, none_found}
use Rattle.l4_seated_lock.proofs.Keeping.{Agree, none_of}

-- BY PLACE AND BY NUMBER

place_book : (bs : List Book) (at n : ℕ) (b : Book) → slice_get bs at ≡ Some b → b.number ≡ n → book_at bs n ≢ None
place_book [] at n b there is none = let k : ◌≡◌ {A = Option Book} None (Some b) = there in cc
place_book (x ∷ bs) zero n b there is none =
    elim (eqb_tells x.number n) [
      | inl same ↦ (let k : ◌≡◌ {A = Option Book} (Some x) None = sym (ap (λ t. if t then Some x else book_at bs n) same.0) ∙ none in cc)
      | inr ne ↦ ne.1 (ap (λ (y : Book). y.number) (same_book x b there) ∙ is)
    ]
place_book (x ∷ bs) (suc at) n b there is none =
    elim (eqb_tells x.number n) [
      | inl same ↦ (let k : ◌≡◌ {A = Option Book} (Some x) None = sym (ap (λ t. if t then Some x else book_at bs n) same.0) ∙ none in cc)
      | inr ne ↦ place_book bs at n b there is (sym (ap (λ t. if t then Some x else book_at bs n) ne.0) ∙ none)
    ]

book_place : (bs : List Book) (n : ℕ) (b : Book) → book_at bs n ≡ Some b → HasBook bs (length bs) n
book_place [] n b is = absurd (let k : ◌≡◌ {A = Option Book} None (Some b) = is in cc)
book_place (x ∷ bs) n b is =
    elim (eqb_tells x.number n) [
      | inl same ↦ record { at = 0; early = omega arith; book = x; there = refl; number = same.1 }
      | inr ne ↦
          let h = book_place bs n b (sym (ap (λ t. if t then Some x else book_at bs n) ne.0) ∙ is) in
          let e = h.early in
          record { at = suc h.at; early = omega (arith, e); book = h.book; there = h.there; number = h.number }
    ]

place_seat : (ps : List SeatState) (at n : ℕ) (p : SeatState) → slice_get ps at ≡ Some p → p.number ≡ n → found ps n ≢ None
place_seat [] at n p there is none = let k : ◌≡◌ {A = Option SeatState} None (Some p) = there in cc
place_seat (x ∷ ps) zero n p there is none =
    elim (eqb_tells x.number n) [
      | inl same ↦ (let k : ◌≡◌ {A = Option SeatState} (Some x) None = sym (ap (λ t. if t then Some x else found ps n) same.0) ∙ none in cc)
      | inr ne ↦ ne.1 (ap (λ (q : SeatState). q.number) (same_Some x p there) ∙ is)
    ]
place_seat (x ∷ ps) (suc at) n p there is none =
    elim (eqb_tells x.number n) [
      | inl same ↦ (let k : ◌≡◌ {A = Option SeatState} (Some x) None = sym (ap (λ t. if t then Some x else found ps n) same.0) ∙ none in cc)
      | inr ne ↦ place_seat ps at n p there is (sym (ap (λ t. if t then Some x else found ps n) ne.0) ∙ none)
    ]

seat_place : (ps : List SeatState) (n : ℕ) (p : SeatState) → found ps n ≡ Some p → HasSeat ps (length ps) n
seat_place [] n p is = absurd (let k : ◌≡◌ {A = Option SeatState} None (Some p) = is in cc)
seat_place (x ∷ ps) n p is =
    elim (eqb_tells x.number n) [
      | inl same ↦ at_head x ps (length ps) n same.1
      | inr ne ↦ shifted x ps (length ps) n (seat_place ps n p (sym (ap (λ t. if t then Some x else found ps n) ne.0) ∙ is))
    ]

-- a number's seat is here, or it isn't
has_or : (ps : List SeatState) (n : ℕ) → HasSeat ps (length ps) n ⊎ ¬ (HasSeat ps (length ps) n)
has_or ps n = of_option (found ps n) refl where
  of_option : (o : Option SeatState) → found ps n ≡ o → HasSeat ps (length ps) n ⊎ ¬ (HasSeat ps (length ps) n)
  of_option None is = inr (λ h. place_seat ps h.at n h.seat h.there h.number is)
  of_option (Some p) is = inl (seat_place ps n p is)

named_or : (ns : List ℕ) (n : ℕ) → HasNumber ns (length ns) n ⊎ ¬ (HasNumber ns (length ns) n)
named_or [] n = inr (λ h. let e = h.early in absurd (omega (arith, e)))
named_or (m ∷ ns) n =
    elim (eqb_tells m n) [
      | inl same ↦ inl (record { at = 0; early = omega arith; there = ap Some same.1 })
      | inr ne ↦ elim (named_or ns n) [
        | inl h ↦ inl (record { at = suc h.at; early = (let e = h.early in omega (arith, e)); there = h.there })
        | inr none ↦ inr (λ h. neither h.at h.there ne.1 none)
      ]
    ] where
      neither : (at : ℕ) → slice_get (m ∷ ns) at ≡ Some n → m ≢ n → ¬ (HasNumber ns (length ns) n) → ⊥
      neither zero there ne none = ne (same_Some m n there)
      neither (suc at) there ne none = none (record { at = at; early = slice_get_within ns at n there; there = there })

-- seats were given just where there are books
module _ (seats : List SeatState) (books : List Book) (agree : Agree seats books) (n : ℕ) where
  given_seat : IsGiven books n → HasSeat seats (length seats) n
  given_seat g = elim (has_or seats n) [
    | inl h ↦ h
    | inr none ↦ absurd (place_book books g.at n g.book g.there g.number (none_of (book_at books n) (sym (agree n) ∙ none_found seats n none)))
  ]

  seat_given : HasSeat seats (length seats) n → IsGiven books n
  seat_given h = of_option (book_at books n) refl where
    of_option : (o : Option Book) → book_at books n ≡ o → IsGiven books n
    of_option None is = absurd (place_seat seats h.at n h.seat h.there h.number (agree n ∙ ap (option_map seat_of) is))
    of_option (Some b) is = book_place books n b is

-- THE SEATS OF THE NUMBERS

number_back : (books : List Book) (n : ℕ) → (seat_back books n).number ≡ n
number_back books n = of_option (book_at books n) refl where
  of_option : (o : Option Book) → book_at books n ≡ o → (option_map_or seat_of o (seat_state n 0 [])).number ≡ n
  of_option None is = refl
  of_option (Some b) is = at_number books n b is

back_long : (books : List Book) (ns : List ℕ) → length (seats_back books ns) ≡ length ns
back_long books [] = refl
back_long books (n ∷ ns) = ap suc (back_long books ns)

back_at : (books : List Book) (ns : List ℕ) (k n : ℕ) → slice_get ns k ≡ Some n → slice_get (seats_back books ns) k ≡ Some (seat_back books n)
back_at books ns k n there = slice_get-map (seat_back books) ns k ∙ ap (option_map (seat_back books)) there

at_back : (books : List Book) (ns : List ℕ) (k : ℕ) (p : SeatState) → slice_get (seats_back books ns) k ≡ Some p → (slice_get ns k ≡ Some p.number) × (p ≡ seat_back books p.number)
at_back books ns k p there = of_option (slice_get ns k) refl (sym (slice_get-map (seat_back books) ns k) ∙ there) where
  of_option : (o : Option ℕ) → slice_get ns k ≡ o → option_map (seat_back books) o ≡ Some p → (slice_get ns k ≡ Some p.number) × (p ≡ seat_back books p.number)
  of_option None is at = absurd (let e : ◌≡◌ {A = Option SeatState} None (Some p) = at in cc)
  of_option (Some m) is at =
      let own : seat_back books m ≡ p = same_Some (seat_back books m) p at in
      let number : m ≡ p.number = sym (number_back books m) ∙ ap (λ (q : SeatState). q.number) own in
      (is ∙ ap Some number, sym own ∙ ap (seat_back books) number)

module _ (books : List Book) (ns : List ℕ) (before n : ℕ) where
  named_back : HasNumber ns before n → HasSeat (seats_back books ns) before n
  named_back h = record { at = h.at; early = h.early; seat = seat_back books n; there = back_at books ns h.at n h.there; number = number_back books n }

  back_named : HasSeat (seats_back books ns) before n → HasNumber ns before n
  back_named h = record { at = h.at; early = h.early; there = (at_back books ns h.at h.seat h.there).0 ∙ ap Some h.number }

all_back : (books : List Book) (ns : List ℕ) (n : ℕ) → HasNumber ns (length ns) n → IsBack (seats_back books ns) n
all_back books ns n h = subst (λ (k : ℕ). HasSeat (seats_back books ns) k n) (sym (back_long books ns)) (named_back books ns (length ns) n h)

back_all : (books : List Book) (ns : List ℕ) (n : ℕ) → IsBack (seats_back books ns) n → HasNumber ns (length ns) n
back_all books ns n h = subst (λ (k : ℕ). HasNumber ns k n) (back_long books ns) (back_named books ns (length (seats_back books ns)) n h)

-- WHAT IS TOLD OF THEM

least_same : (P Q : ℕ → Type 0) → ((n : ℕ) → P n → Q n) → ((n : ℕ) → Q n → P n) → (o : Option ℕ) → Least P o → Least Q o
least_same P Q f g None h = λ n q. h n (g n q)
least_same P Q f g (Some n) h = (f n h.0, λ k less q. h.1 k less (g k q))

module _ (seats : List SeatState) (books : List Book) (agree : Agree seats books) (ns : List ℕ) where
  missing_is : (n : ℕ) → IsUnnamed seats ns n → IsMissing books (seats_back books ns) n
  missing_is n u = (seat_given seats books agree n u.0, λ back. u.1 (back_all books ns n back))

  is_missing : (n : ℕ) → IsMissing books (seats_back books ns) n → IsUnnamed seats ns n
  is_missing n m = (given_seat seats books agree n m.0, λ named. m.1 (all_back books ns n named))

  foreign_is : (n : ℕ) → IsStrange seats ns n → IsForeign books (seats_back books ns) n
  foreign_is n (inl other) = inl (all_back books ns n other.0, λ given. other.1 (given_seat seats books agree n given))
  foreign_is n (inr twice) =
      inr (record { at = twice.at; second = seat_back books n; there = back_at books ns twice.at n twice.there; number = number_back books n; first = named_back books ns twice.at n twice.first })

  is_foreign : (n : ℕ) → IsForeign books (seats_back books ns) n → IsStrange seats ns n
  is_foreign n (inl other) = inl (back_all books ns n other.0, λ has. other.1 (seat_given seats books agree n has))
  is_foreign n (inr twice) =
      inr (record { at = twice.at; there = (at_back books ns twice.at twice.second twice.there).0 ∙ ap Some twice.number; first = back_named books ns twice.at n twice.first })

  pub misnamed : (counts : Book → ℕ) (m : Mismatch) → Misnames seats ns m → Mismatches counts books (seats_back books ns) m
  misnamed counts (Missing n) h = least_same (IsUnnamed seats ns) (IsMissing books (seats_back books ns)) missing_is is_missing (Some n) h
  misnamed counts (Foreign n) h = (
    least_same (IsUnnamed seats ns) (IsMissing books (seats_back books ns)) missing_is is_missing None h.0,
    least_same (IsStrange seats ns) (IsForeign books (seats_back books ns)) foreign_is is_foreign (Some n) h.1,
  )
  misnamed counts (Receipt n) h = absurd h

  own_seat : (k : ℕ) (p : SeatState) → IsOnce (numbers books) → slice_get (seats_back books ns) k ≡ Some p → AllAgree started_by books p
  own_seat k p once there j b at number =
      let own : book_at books p.number ≡ Some b = subst (λ (m : ℕ). book_at books m ≡ Some b) number (own_at books j b at once) in
      let is : p ≡ seat_of b = (at_back books ns k p there).1 ∙ ap (λ (o : Option Book). option_map_or seat_of o (seat_state p.number 0 [])) own in
      let from' : ℕ = kept_by_both b p in
      (ap starts (sym is), (ap (λ (q : SeatState). length q.receipts) (sym is), ap (λ (q : SeatState). drop from' q.receipts) (sym is)))

  named_are_back : IsOnce (numbers books) → AreNamed seats ns → AreBack started_by books (seats_back books ns)
  named_are_back once h = record {
    back = λ n given. elim (named_or ns n) [ inl named ↦ all_back books ns n named | inr none ↦ absurd (h.0 n (given_seat seats books agree n given, none)) ];
    given = λ n back. elim (has_or seats n) [ inl has ↦ seat_given seats books agree n has | inr none ↦ absurd (h.1 n (inl (back_all books ns n back, none))) ];
    once = λ n twice. h.1 n (is_foreign n (inr twice));
    agree = λ k p there. own_seat k p once there;
  }

pub named_closes : (l : Lock) (seats : List SeatState) (ns : List ℕ) → IsKept l → Agree seats l.books → AreNamed seats ns → Closes l (seats_back l.books ns)
named_closes l seats ns kept agree h = closes l (seats_back l.books ns) kept (named_are_back seats l.books agree ns kept.right.apart h)

-- of parts: the locked kernel as it stood, what contracts see of it, and the seats as they were read
pub told : (a l : Lock) (view : a ≡ l) (seats read : List SeatState) (same : read ≡ seats) (agree : Agree seats a.books) (ns : List ℕ) (m : Option Mismatch) → IsKept a
    → MatchOption m (AreNamed read ns) (Misnames read ns) → MatchOption m (Closes l (seats_back l.books ns)) (Mismatches (by_history l.history) l.books (seats_back l.books ns))
told a l view seats read same agree ns None kept h =
    subst (λ (k : Lock). Closes k (seats_back k.books ns)) view (named_closes a seats ns kept agree (subst (λ (ps : List SeatState). AreNamed ps ns) same h))
told a l view seats read same agree ns (Some m) kept h =
    subst (λ (k : Lock). Mismatches (by_history k.history) k.books (seats_back k.books ns) m) view
    (misnamed seats a.books agree ns (by_history a.history) m (subst (λ (ps : List SeatState). Misnames ps ns m) same h))
