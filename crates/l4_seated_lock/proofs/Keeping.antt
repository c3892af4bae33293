-- Each seat keeps what its book says, whatever is given, entered and taken.
use Rattle.std.proofs.Common.{◌≡◌, ◌≢◌, ℕ, ◌+◌, ◌⊎◌, inl, inr, false, List, [], ◌∷◌, ◌++◌, length, slice_get, slice_set, get_or, Option, Some, None, refl, sym, ap, ◌∙◌, subst, arith}
use Rattle.std.specs.Option.{option_map, option_map_or, option_and_then}
use Rattle.std.proofs.lemmas.Bool.Decides.{eqb_tells}
use Rattle.std.proofs.lemmas.Option.{same_Some}
use Rattle.std.proofs.lemmas.List.{length-append}
use Rattle.l4_threads.specs.declared.Reply.{Reply}
use Rattle.l4_ipc.specs.declared.calls.Call.{Call}
use Rattle.l4_lock.specs.declared.entries.Receipt.{Receipt}
use Rattle.l4_lock.specs.declared.entries.Pending.{Pending}
use Rattle.l4_lock.specs.declared.refusals.Entered.{Entered}
use Rattle.l4_lock.specs.declared.refusals.Entered.TheVariants.{Done, Waiting}
use Rattle.l4_lock.specs.Books.{SeatState, seat_state, starts, Book, book, book_at, receipts_at, kept_from_at, reply_waits, has_ended, plain, unended, pending_count, receipt_of, starts_of, IsRight}
use Rattle.l4_lock.specs.Closing.{HasSeat}
use Rattle.l4_lock.specs.Locked.{Lock, IsKept, Enters, Tells, Takes}
use Rattle.l4_lock.proofs.Started.{at_number}
use Rattle.l4_seated_lock.specs.Seated.{seat_of, seat_at, EntersBySeat, TakesBySeat}
use Rattle.l4_seated_lock.specs.Inside.Places.{found, IsFirst}
use Rattle.l4_seated_lock.proofs.Numbers.{at_place, found_first, none_found, set_first, set_other, push_own, push_other, book_push_own, book_push_other, of_book}
use Rattle.l4_seated_lock.proofs.Counts.{one_more}

-- each seat is that of its number's book
abbrev pub Agree : List SeatState → List Book → Type 0
Agree seats books = (n : ℕ) → found seats n ≡ seat_at books n

same_seat : (p q : SeatState) → p.number ≡ q.number → p.waiting ≡ q.waiting → p.receipts ≡ q.receipts → p.kept_from ≡ q.kept_from → p ≡ q
same_seat p q number waiting receipts kept = λ i. record (seat_state (number i) (waiting i) (receipts i)) { kept_from = kept i }

-- a number whose seat is known has a book
pub own_book : (books : List Book) (n : ℕ) (p : SeatState) → seat_at books n ≡ Some p → (b : Book) × (book_at books n ≡ Some b) × (seat_of b ≡ p) × (b.number ≡ n)
own_book books n p is = of_option (book_at books n) refl is where
  of_option : (o : Option Book) → book_at books n ≡ o → option_map seat_of o ≡ Some p → (b : Book) × (book_at books n ≡ Some b) × (seat_of b ≡ p) × (b.number ≡ n)
  of_option None at is = absurd (let k : ◌≡◌ {A = Option SeatState} None (Some p) = is in cc)
  of_option (Some b) at is = (b, at, same_Some (seat_of b) p is, at_number books n b at)

-- what is known of the end of a call is nothing that a seat keeps
plain_count : (o : Option Pending) → pending_count (option_map unended o) ≡ pending_count o
plain_count None = refl
plain_count (Some p) = refl

plain_seat : (o : Option Book) → option_map seat_of (option_map plain o) ≡ option_map seat_of o
plain_seat None = refl
plain_seat (Some b) = ap (λ (k : ℕ). Some (record (seat_state b.number k b.receipts) { kept_from = b.kept_from })) (plain_count b.pending)

pub same_plain : (o r : Option Book) → option_map plain o ≡ option_map plain r → option_map seat_of o ≡ option_map seat_of r
same_plain o r is = sym (plain_seat o) ∙ ap (option_map seat_of) is ∙ plain_seat r

-- as many starts as the history has
pub counted : (l : Lock) (n : ℕ) (b : Book) → IsKept l → book_at l.books n ≡ Some b → starts_of n l.history ≡ length b.receipts + pending_count b.pending
counted l n b kept at =
    let right : IsRight l.frames l.history l.kernel b = of_book (IsRight l.frames l.history l.kernel) l.books n b at kept.right.each in
    subst (λ (k : ℕ). starts_of k l.history ≡ length b.receipts + pending_count b.pending) (at_number l.books n b at) right.count

-- of its number's receipts and of the starts that the history has the seat is known
known : (l : Lock) (n : ℕ) (p : SeatState) → IsKept l → p.number ≡ n → receipts_at l.books n ≡ Some p.receipts → kept_from_at l.books n ≡ Some p.kept_from → starts_of n l.history ≡ starts p → seat_at l.books n ≡ Some p
known l n p kept number receipts first count = of_option (book_at l.books n) refl receipts first where
  of_option : (o : Option Book) → book_at l.books n ≡ o → option_map (λ (b : Book). b.receipts) o ≡ Some p.receipts → option_map (λ (b : Book). b.kept_from) o ≡ Some p.kept_from → seat_at l.books n ≡ Some p
  of_option None at is from' = absurd (let k : ◌≡◌ {A = Option (List Receipt)} None (Some p.receipts) = is in cc)
  of_option (Some b) at is from' =
      let same : b.receipts ≡ p.receipts = same_Some b.receipts p.receipts is in
      let c = counted l n b kept at in
      let len : length b.receipts ≡ length p.receipts = ap length same in
      ap (option_map seat_of) at ∙ ap Some (same_seat (seat_of b) p (at_number l.books n b at ∙ sym number) (omega (arith, c, count, len)) same (same_Some b.kept_from p.kept_from from'))

-- AFTER A CALL

-- what became of the seat, of which the lock told this
record Becomes (old new : Lock) (n : ℕ) (before after : SeatState) : Type 0 where
  pub number : after.number ≡ n
  pub receipts : receipts_at new.books n ≡ Some after.receipts
  pub kept_from : after.kept_from ≡ before.kept_from
  pub starts : starts after ≡ starts before + 1

kept_receipts : (books : List Book) (n : ℕ) (p : SeatState) → seat_at books n ≡ Some p → receipts_at books n ≡ Some p.receipts
kept_receipts books n p is =
    let own = own_book books n p is in
    ap (option_map (λ (b : Book). b.receipts)) own.1 ∙ ap (λ (q : SeatState). Some q.receipts) own.2

becomes : (old new : Lock) (n : ℕ) (before after : SeatState) (call : Call) (told : Entered) → before.number ≡ n → seat_at old.books n ≡ Some before → Tells old new before after call told → Becomes old new n before after
becomes old new n before after call (Done reply) is was t =
    let more = ap length t.gains.receipts in
    let len = length-append before.receipts (t.receipt ∷ []) in
    let waiting = t.gains.waiting in
    record {
      number = t.gains.number ∙ is;
      receipts = subst (λ (k : ℕ). receipts_at new.books k ≡ option_map (λ rs. rs ++ t.receipt ∷ []) (receipts_at old.books k)) is t.kept
          ∙ ap (option_map (λ (rs : List Receipt). rs ++ t.receipt ∷ [])) (kept_receipts old.books n before was) ∙ ap Some (sym t.gains.receipts);
      kept_from = t.gains.kept_from;
      starts = omega (arith, more, len, waiting);
    }
becomes old new n before after call Waiting is was t =
    let waiting = ap (λ (p : SeatState). p.waiting) t.seat in
    let len = ap (λ (p : SeatState). length p.receipts) t.seat in
    record {
      number = ap (λ (p : SeatState). p.number) t.seat ∙ is;
      receipts = subst (λ (k : ℕ). receipts_at new.books k ≡ receipts_at old.books k) is t.kept ∙ kept_receipts old.books n before was ∙ ap (λ (p : SeatState). Some p.receipts) (sym t.seat);
      kept_from = ap (λ (p : SeatState). p.kept_from) t.seat;
      starts = omega (arith, waiting, len);
    }

-- the seat of a number after its call
entered_seat : (old new : Lock) (n : ℕ) (before after : SeatState) (call : Call) (told : Entered) → IsKept old → IsKept new → before.number ≡ n → seat_at old.books n ≡ Some before
    → Enters old new n call → Tells old new before after call told → (after.number ≡ n) × (seat_at new.books n ≡ Some after)
entered_seat old new n before after call told was_kept kept is was enters t =
    let b = becomes old new n before after call told is was t in
    let own = own_book old.books n before was in
    let c = counted old n own.0 was_kept own.1 in
    let w = ap (λ (p : SeatState). p.waiting) own.2 in
    let l = ap (λ (p : SeatState). length p.receipts) own.2 in
    let s = b.starts in
    let first : kept_from_at new.books n ≡ Some after.kept_from =
    enters.kept_from ∙ ap (option_map (λ (x : Book). x.kept_from)) own.1 ∙ ap (λ (p : SeatState). Some p.kept_from) own.2 ∙ ap Some (sym b.kept_from) in
    let m : starts_of n new.history ≡ starts_of n old.history + 1 =
    ap (starts_of n) enters.recorded.history ∙ one_more n call enters.appended.start old.history enters.appended.next.items in (
      b.number,
      known new n after kept b.number b.receipts first (omega (arith, c, w, l, s, m)),
    )

module _ (seats : List SeatState) (old new : Lock) (agree : Agree seats old.books) (n at : ℕ) (before after : SeatState) (first : IsFirst seats n at) (read : before ≡ get_or seats at before) where
  there : slice_get seats at ≡ Some before
  there = at_place seats at before first.0 read

  pub number_there : before.number ≡ n
  number_there = first.1 before there

  pub seat_there : seat_at old.books n ≡ Some before
  seat_there = sym (agree n) ∙ found_first seats at n before there number_there first.2

  agree_again : (m : ℕ) → after.number ≡ n → seat_at new.books n ≡ Some after → ((k : ℕ) → k ≢ n → seat_at new.books k ≡ seat_at old.books k) → found (slice_set seats at after) m ≡ seat_at new.books m
  agree_again m number own others =
      elim (eqb_tells m n) [
        | inl same ↦ subst (λ (k : ℕ). found (slice_set seats at after) k ≡ seat_at new.books k) (sym same.1) (set_first seats at n before after there number first.2 ∙ sym own)
        | inr ne ↦ set_other seats at n m before after there number_there number ne.1 ∙ agree m ∙ sym (others m ne.1)
      ]

  pub same_agree : after ≡ before → new.books ≡ old.books → Agree (slice_set seats at after) new.books
  same_agree seat books = λ m.
      let own : seat_at new.books n ≡ Some after = ap (λ (bs : List Book). seat_at bs n) books ∙ seat_there ∙ ap Some (sym seat) in
      agree_again m (ap (λ (p : SeatState). p.number) seat ∙ number_there) own (λ k ne. ap (λ (bs : List Book). seat_at bs k) books)

  pub entered_agree : (call : Call) (told : Entered) → IsKept old → IsKept new → Enters old new before.number call → Tells old new before after call told → Agree (slice_set seats at after) new.books
  entered_agree call told was_kept kept by_own t = λ m.
      let enters : Enters old new n call = subst (λ (k : ℕ). Enters old new k call) number_there by_own in
      let own = entered_seat old new n before after call told was_kept kept number_there seat_there enters t in
      agree_again m own.0 own.1 (λ k ne. same_plain (book_at new.books k) (book_at old.books k) (enters.others k ne))

  pub entered_told : (call : Call) (told : Entered) → IsKept old → IsKept new → Enters old new before.number call → Tells old new before after call told → EntersBySeat old new n call told
  entered_told call told was_kept kept by_own t =
      let enters : Enters old new n call = subst (λ (k : ℕ). Enters old new k call) number_there by_own in
      let own = entered_seat old new n before after call told was_kept kept number_there seat_there enters t in
      record { before = before; after = after; was = seat_there; becomes = own.1; enters = enters; tells = t }

  -- A reply is taken
  taken_seat : (reply : Reply) → Takes old new before after reply → (after.number ≡ n) × (seat_at new.books n ≡ Some after)
  taken_seat reply t =
      let s = t.settles in
      let own = own_book old.books n before seat_there in
      let mine : seat_of t.book ≡ before = same_Some (seat_of t.book) before (sym (ap (option_map seat_of) t.at) ∙ subst (λ (k : ℕ). seat_at old.books k ≡ Some before) (sym number_there) seat_there) in
      let number : t.book.number ≡ after.number = ap (λ (p : SeatState). p.number) mine ∙ sym s.number in
      let w = ap (λ (p : SeatState). p.waiting) mine in
      let one : pending_count t.book.pending ≡ 1 = ap pending_count s.pending_is in
      let waiting = s.waiting in
      let none : 0 ≡ after.waiting = omega (arith, w, one, waiting) in
      let same = ap (λ (p : SeatState). p.kept_from) mine ∙ sym s.kept_from in
      let receipts = ap (λ (p : SeatState). p.receipts ++ receipt_of s.pending s.ended ∷ []) mine ∙ sym s.receipts in (
        s.number ∙ number_there,
        subst (λ (k : ℕ). seat_at new.books k ≡ Some after) number_there
            (ap (option_map seat_of) (t.settled ∙ ap Some s.book_is) ∙ ap Some (same_seat (seat_of (record t.book { pending = None; receipts = t.book.receipts ++ receipt_of s.pending s.ended ∷ [] })) after number none receipts same)),
      )

  pub taken_agree : (reply : Reply) → Takes old new before after reply → Agree (slice_set seats at after) new.books
  taken_agree reply t = λ m.
      let own = taken_seat reply t in
      agree_again m own.0 own.1 (λ k ne. ap (option_map seat_of) (t.others k (λ is. ne (is ∙ number_there))))

  pub taken_told : (reply : Reply) → Takes old new before after reply → TakesBySeat old new n reply
  taken_told reply t =
      let own = taken_seat reply t in
      record { before = before; after = after; was = seat_there; becomes = own.1; number = number_there; takes = t }

  -- no reply waits
  pub none_waits : (before.waiting ≡ 0) ⊎ (reply_waits old.books before.number ≡ false) → reply_waits old.books n ≡ false
  none_waits (inr none) = subst (λ (k : ℕ). reply_waits old.books k ≡ false) number_there none
  none_waits (inl none) =
      let own = own_book old.books n before seat_there in
      let w : pending_count own.0.pending ≡ 0 = ap (λ (p : SeatState). p.waiting) own.2 ∙ none in
      ap (λ (o : Option Book). option_map_or has_ended (option_and_then (λ (b : Book). b.pending) o) false) own.1 ∙ idle own.0.pending w where
        idle : (o : Option Pending) → pending_count o ≡ 0 → option_map_or has_ended o false ≡ false
        idle None e = refl
        idle (Some p) e = absurd (omega (arith, e))

-- A SEAT IS GIVEN

pub none_of : (o : Option Book) → option_map seat_of o ≡ None → o ≡ None
none_of None is = refl
none_of (Some b) is = absurd (let k : ◌≡◌ {A = Option SeatState} (Some (seat_of b)) None = is in cc)

-- where no seat has the number there is no book
pub no_book : (seats : List SeatState) (books : List Book) (n : ℕ) → Agree seats books → ¬ (HasSeat seats (length seats) n) → book_at books n ≡ None
no_book seats books n agree none = none_of (book_at books n) (sym (agree n) ∙ none_found seats n none)

pub given_agree : (seats : List SeatState) (books : List Book) (n : ℕ) → Agree seats books → book_at books n ≡ None → Agree (seats ++ seat_state n 0 [] ∷ []) (books ++ book n None [] ∷ [])
given_agree seats books n agree none = λ m.
    elim (eqb_tells m n) [
      | inl same ↦ subst (λ (k : ℕ). found (seats ++ seat_state n 0 [] ∷ []) k ≡ seat_at (books ++ book n None [] ∷ []) k) (sym same.1)
          (push_own seats n (seat_state n 0 []) (agree n ∙ ap (option_map seat_of) none) refl ∙ sym (ap (option_map seat_of) (book_push_own books n (book n None []) none refl)))
      | inr ne ↦ push_other seats m (seat_state n 0 []) (λ is. ne.1 (sym is)) ∙ agree m ∙ sym (ap (option_map seat_of) (book_push_other books m (book n None []) (λ is. ne.1 (sym is))))
    ]
