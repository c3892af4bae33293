-- What the calls of the seated lock answer, from what its parts answered.
use Rattle.std.proofs.Common.{◌≡◌, ◌≢◌, ℕ, ◌<◌, ◌⊎◌, inl, inr, true, false, List, [], ◌∷◌, ◌++◌, length, slice_set, get_or, Option, Some, None, Result, Ok, Err, MatchOption, is_some, IfOk, IfErr, IfSome, IfNone, refl, sym, ap, ◌∙◌, subst}
use Rattle.std.specs.Option.{option_map_or, option_and_then}
use Rattle.std.proofs.lemmas.Bool.{false≢true}
use Rattle.std.proofs.lemmas.Option.{slice_get-get_or, get_or_from_slice_get}
use Rattle.l4_threads.specs.declared.Reply.{Reply}
use Rattle.l4_ipc.specs.declared.calls.Call.{Call}
use Rattle.l4_lock.specs.declared.refusals.Entered.{Entered}
use Rattle.l4_lock.specs.declared.refusals.LockRefusal.{LockRefusal}
use Rattle.l4_lock.specs.Books.{SeatState, Book, book, book_at, seat_state, reply_waits, has_ended, IsRight}
use Rattle.l4_lock.specs.Closing.{HasSeat, IsShown}
use Rattle.l4_lock.specs.Locked.{Lock, IsKept, Enters, Tells, Takes, Refuses}
use Rattle.l4_seated_lock.specs.Seated.{seat_of, seat_at, EntersBySeat, TakesBySeat}
use Rattle.l4_seated_lock.specs.Inside.Places.{found, IsFirst, RefusesUnseated}
use Rattle.l4_seated_lock.proofs.Numbers.{of_book}
use Rattle.l4_seated_lock.proofs.Keeping.{Agree, own_book, no_book, given_agree, number_there, seat_there, same_agree, entered_agree, entered_told, taken_agree, taken_told, none_waits}

none_waits_unseated : (books : List Book) (n : ℕ) → book_at books n ≡ None → reply_waits books n ≡ false
none_waits_unseated books n none = ap (λ (o : Option Book). option_map_or has_ended (option_and_then (λ (b : Book). b.pending) o) false) none

unseated_refuses : (l : Lock) (n : ℕ) (call : Call) (e : LockRefusal) → book_at l.books n ≡ None → RefusesUnseated l e → Refuses l n call e
unseated_refuses l n call e none (inl full) = subst (Refuses l n call) (sym full.1) ((λ waits. false≢true (sym (none_waits_unseated l.books n none) ∙ waits)), full.0)
unseated_refuses l n call e none (inr room) =
    subst (Refuses l n call) (sym room.1) ((λ waits. false≢true (sym (none_waits_unseated l.books n none) ∙ waits)), room.0, inl (none, refl))

-- of parts: the locked kernel as it stood, what contracts see of it, and the seats as they were read
module _ (a l : Lock) (view : a ≡ l) (seats read : List SeatState) (same : read ≡ seats) (agree : Agree seats a.books) (n : ℕ) where
  pub unseated : ¬ (HasSeat read (length read) n) → book_at l.books n ≡ None
  unseated none =
      subst (λ (k : Lock). book_at k.books n ≡ None) view (no_book seats a.books n agree (subst (λ (ps : List SeatState). ¬ (HasSeat ps (length ps) n)) same none))

  pub refused_unseated : (call : Call) (e : LockRefusal) → ¬ (HasSeat read (length read) n) → RefusesUnseated l e → Refuses l n call e × (l ≡ l)
  refused_unseated call e none why = (unseated_refuses l n call e (unseated none) why, refl)

  pub none_taken : ¬ (HasSeat read (length read) n) → (l ≡ l) × (reply_waits l.books n ≡ false)
  none_taken none = (refl, none_waits_unseated l.books n (unseated none))

  module _ (at : ℕ) (before : SeatState) (first : IsFirst read n at) (was : before ≡ get_or seats at before) where
    here : IsFirst seats n at
    here = subst (λ (ps : List SeatState). IsFirst ps n at) same first

    pub its_number : before.number ≡ n
    its_number = number_there seats a a agree n at before before here was

    pub its_seat : seat_at a.books n ≡ Some before
    its_seat = seat_there seats a a agree n at before before here was

    pub some_book : book_at l.books n ≢ None
    some_book none =
        let own = own_book a.books n before its_seat in
        let k : ◌≡◌ {A = Option Book} None (Some own.0) = sym none ∙ ap (λ (k : Lock). book_at k.books n) (sym view) ∙ own.1 in
        cc

    pub shown : IsKept a → (seat_at l.books n ≡ Some before) × IsShown l before
    shown kept =
        let own = own_book a.books n before its_seat in
        let right : IsRight a.frames a.history a.kernel own.0 = of_book (IsRight a.frames a.history a.kernel) a.books n own.0 own.1 kept.right.each in
        let is_shown : IsShown a (seat_of own.0) = record { count = right.count; receipts = right.receipts; rising = right.rising } in (
          subst (λ (k : Lock). seat_at k.books n ≡ Some before) view its_seat,
          subst (λ (k : Lock). IsShown k before) view (subst (IsShown a) own.2 is_shown),
        )

    module _ (new : Lock) (after : SeatState) where
      pub after_call : (call : Call) (r : Result Entered LockRefusal) → IsKept a → IsKept new
          → IfOk r (λ e. Enters a new before.number call × Tells a new before after call e)
          → IfErr r (λ e. Refuses a before.number call e × (new ≡ a) × (after ≡ before))
          → Agree (slice_set seats at after) new.books
      after_call call (Ok e) was_kept kept ok err = entered_agree seats a new agree n at before after here was call e was_kept kept ok.0 ok.1
      after_call call (Err e) was_kept kept ok err = same_agree seats a new agree n at before after here was err.2 (ap (λ (k : Lock). k.books) err.1)

      pub told_call : (call : Call) (r : Result Entered LockRefusal) → IsKept a → IsKept new
          → IfOk r (λ e. Enters a new before.number call × Tells a new before after call e) → IfOk r (EntersBySeat l new n call)
      told_call call (Ok e) was_kept kept ok =
          subst (λ (k : Lock). EntersBySeat k new n call e) view (entered_told seats a new agree n at before after here was call e was_kept kept ok.0 ok.1)
      told_call call (Err e) was_kept kept ok = tt

      pub told_refusal : (call : Call) (r : Result Entered LockRefusal)
          → IfErr r (λ e. Refuses a before.number call e × (new ≡ a) × (after ≡ before)) → IfErr r (λ e. Refuses l n call e × (new ≡ l))
      told_refusal call (Ok e) err = tt
      told_refusal call (Err e) err = (subst (λ (k : ℕ). Refuses l k call e) its_number (subst (λ (k : Lock). Refuses k before.number call e) view err.0), err.1 ∙ view)

      pub after_take : (r : Option Reply) → IfSome r (λ reply. Takes a new before after reply)
          → IfNone r ((new ≡ a) × (after ≡ before) × ((before.waiting ≡ 0) ⊎ (reply_waits a.books before.number ≡ false)))
          → Agree (slice_set seats at after) new.books
      after_take (Some reply) some none = taken_agree seats a new agree n at before after here was reply some
      after_take None some none = same_agree seats a new agree n at before after here was none.1 (ap (λ (k : Lock). k.books) none.0)

      pub told_take : (r : Option Reply) → IfSome r (λ reply. Takes a new before after reply) → IfSome r (TakesBySeat l new n)
      told_take (Some reply) some = subst (λ (k : Lock). TakesBySeat k new n reply) view (taken_told seats a new agree n at before after here was reply some)
      told_take None some = tt

      pub told_none : (r : Option Reply) → IfNone r ((new ≡ a) × (after ≡ before) × ((before.waiting ≡ 0) ⊎ (reply_waits a.books before.number ≡ false)))
          → IfNone r ((new ≡ l) × (reply_waits l.books n ≡ false))
      told_none (Some reply) none = tt
      told_none None none = (none.0 ∙ view, subst (λ (k : Lock). reply_waits k.books n ≡ false) view (none_waits seats a a agree n at before before here was none.2))

module _ (a l : Lock) (view : a ≡ l) (seats read : List SeatState) (same : read ≡ seats) (agree : Agree seats a.books) (n : ℕ) where
  pub was_given : (o : Option ℕ) → MatchOption o (¬ (HasSeat read (length read) n)) (IsFirst read n) → is_some o ≡ true → book_at l.books n ≢ None
  was_given None m is = absurd (false≢true is)
  was_given (Some at) first is =
      let d : SeatState = seat_state 0 0 [] in
      let within : at < length seats = subst (λ (ps : List SeatState). at < length ps) same first.0 in
      let there = slice_get-get_or seats at d within in
      some_book a l view seats read same agree n at (get_or seats at d) first (sym (get_or_from_slice_get seats at (get_or seats at d) (get_or seats at d) there))

  pub not_given : (o : Option ℕ) → MatchOption o (¬ (HasSeat read (length read) n)) (IsFirst read n) → is_some o ≡ false → book_at l.books n ≡ None
  not_given None none is = unseated a l view seats read same agree n none
  not_given (Some at) m is = absurd (false≢true (sym is))

-- of parts: one seat more, for which there was room
pub after_giving : (a new : Lock) (seats room later : List SeatState) (n : ℕ) (p : SeatState) → Agree seats a.books → room ≡ seats → later ≡ room ++ p ∷ [] → p ≡ seat_state n 0 [] → book_at a.books n ≡ None
    → new ≡ record a { books = a.books ++ book n None [] ∷ [] } → Agree later new.books
after_giving a new seats room later n p agree kept pushed is none given = λ m.
    ap (λ (ps : List SeatState). found ps m) (pushed ∙ (λ i. kept i ++ is i ∷ [])) ∙ given_agree seats a.books n agree none m ∙ ap (λ (k : Lock). seat_at k.books m) (sym given)
