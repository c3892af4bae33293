-- How many accounts have a reply, as one of them changes.
use Rattle.std.proofs.Common.{◌≡◌, ℕ, suc, zero, ◌+◌, ◌<◌, ◌≤◌, nat_eq, Bool, true, false, if◌then◌else◌, List, [], ◌∷◌, ◌++◌, length, get_or, slice_get, slice_set, Option, Some, None, MatchOption, MatchResult, Result, Ok, Err, refl, sym, ap, ◌∙◌, subst, arith}
use Rattle.std.specs.Option.{option_map, option_map_or}
use Rattle.std.proofs.lemmas.Bool.{false≢true}
use Rattle.std.proofs.lemmas.Option.{get_or_from_slice_get}
use Rattle.l4_threads.specs.declared.Reply.{Reply}
use Rattle.l4_ipc.specs.declared.calls.Call.{Call}
use Rattle.l4_lock.specs.declared.entries.Ended.{Ended}
use Rattle.l4_lock.specs.declared.entries.Pending.{Pending}
use Rattle.l4_lock.specs.Books.{SeatState, Book, book, book_at, reply_waits, has_ended, numbers, IsOnce, Settles}
use Rattle.l4_lock.specs.Inside.Accounts.{BookList, book_list, has_reply, reply_count, replies_in, SettlesAt, IsUnsettled}
use Rattle.l4_lock.proofs.Books.{waits_in}
use Rattle.l4_lock.proofs.Right.{pend}
use Rattle.l4_lock.proofs.Started.{same_book, get_there, own_at, set_same}

-- THE COUNT

one_of : (b : Book) → has_reply b ≡ true → reply_count b ≡ 1
one_of b is = ap (λ t. if t then 1 else 0) is

none_of : (b : Book) → has_reply b ≡ false → reply_count b ≡ 0
none_of b is = ap (λ t. if t then 1 else 0) is

at_most : (b : Book) → reply_count b ≤ 1
at_most b = elim (has_reply b) as (λ t. (if t then 1 else 0) ≤ 1) [ true ↦ omega arith | false ↦ omega arith ]

-- the book at a place counts once
counted : (xs : List Book) (i : ℕ) (x y : Book) → slice_get xs i ≡ Some x → replies_in (slice_set xs i y) + reply_count x ≡ replies_in xs + reply_count y
counted [] i x y at = absurd (let k : ◌≡◌ {A = Option Book} None (Some x) = at in cc)
counted (z ∷ xs) zero x y at = let same : reply_count z ≡ reply_count x = ap reply_count (same_book z x at) in omega (arith, same)
counted (z ∷ xs) (suc i) x y at = let more = counted xs i x y at in omega (arith, more)

-- there are no more replies than books, and fewer where one has none
bounded : (xs : List Book) → replies_in xs ≤ length xs
bounded [] = omega arith
bounded (x ∷ xs) = let rest = bounded xs in let one = at_most x in omega (arith, rest, one)

fewer : (xs : List Book) (i : ℕ) (x : Book) → slice_get xs i ≡ Some x → has_reply x ≡ false → replies_in xs < length xs
fewer [] i x at none = absurd (let k : ◌≡◌ {A = Option Book} None (Some x) = at in cc)
fewer (z ∷ xs) zero x at none =
    let same : reply_count z ≡ reply_count x = ap reply_count (same_book z x at) in
    let here = none_of x none in
    let rest = bounded xs in
    omega (arith, same, here, rest)
fewer (z ∷ xs) (suc i) x at none = let rest = fewer xs i x at none in let one = at_most z in omega (arith, rest, one)

-- a seat is given
more_books : (xs : List Book) (b : Book) → replies_in (xs ++ b ∷ []) ≡ replies_in xs + reply_count b
more_books [] b = omega arith
more_books (x ∷ xs) b = let more = more_books xs b in omega (arith, more)

pub one_added : (xs ys zs : List Book) (b : Book) (number n : ℕ) → n ≡ replies_in xs → ys ≡ xs → b ≡ book number None [] → zs ≡ ys ++ b ∷ [] → n ≡ replies_in zs
one_added xs ys zs b number n is same new added =
    let more = more_books xs (book number None []) in
    let whole : replies_in zs ≡ replies_in (xs ++ book number None [] ∷ []) = ap replies_in (added ∙ (λ j. same j ++ new j ∷ [])) in
    omega (arith, is, more, whole)

-- NO REPLY, AND SOME

no_replies : (xs : List Book) (n : ℕ) → replies_in xs ≡ 0 → reply_waits xs n ≡ false
no_replies [] n none = refl
no_replies (x ∷ xs) n none = by_reply (has_reply x) refl (no_replies xs n) where
  by_reply : (t : Bool) → has_reply x ≡ t → (replies_in xs ≡ 0 → reply_waits xs n ≡ false) → reply_waits (x ∷ xs) n ≡ false
  by_reply true is more = absurd (let one = one_of x is in omega (arith, one, none))
  by_reply false is more =
      elim (nat_eq x.number n) as (λ t. waits_in (if t then Some x else book_at xs n) ≡ false) [ true ↦ is | false ↦ more (let here = none_of x is in omega (arith, here, none)) ]

pub none_waits : (xs : List Book) (l : BookList) (view : book_list xs ≡ l) (m : ℕ) → m ≡ replies_in xs → m ≡ 0 → (n : ℕ) → reply_waits l.items n ≡ false
none_waits xs l view m is none n = subst (λ (k : BookList). reply_waits k.items n ≡ false) view (no_replies xs n (sym is ∙ none))

-- the place that was read has this book
read_there : (xs : List Book) (i : ℕ) (x : Book) → i < length xs → x ≡ get_or xs i x → slice_get xs i ≡ Some x
read_there xs i x lt read =
    let there = get_there xs i lt in
    there.1 ∙ ap (λ (b : Book). Some b) (sym (read ∙ get_or_from_slice_get xs i there.0 x there.1))

pub waits_at : (xs : List Book) (l : BookList) (view : book_list xs ≡ l) (i : ℕ) (x z : Book) (n : ℕ) → IsOnce (numbers l.items) → i < length xs → x ≡ get_or xs i x → true ≡ has_reply x
    → z ≡ get_or xs i z → n ≡ z.number → reply_waits l.items n ≡ true
waits_at xs l view i x z n once lt read has again is =
    let here = read_there xs i x lt read in
    let same : x ≡ z = same_book x z (sym here ∙ read_there xs i z lt again) in
    let number : x.number ≡ n = ap (λ (b : Book). b.number) same ∙ sym is in
    let own : book_at l.items x.number ≡ Some x = own_at l.items i x (ap (λ (k : BookList). slice_get k.items i) (sym view) ∙ here) once in
    subst (λ (k : ℕ). reply_waits l.items k ≡ true) number (ap waits_in own ∙ sym has)

-- A CHANGE AT A PLACE

settled_reply : (old new : Book) (before after : SeatState) (reply : Reply) → Settles old new before after reply → (has_reply old ≡ true) × (has_reply new ≡ false)
settled_reply old new before after reply s = (
  ap (λ (o : Option Pending). option_map_or has_ended o false) s.pending_is ∙ ap (λ (e : Option Ended). option_map_or (λ _. true) e false) s.ended_is,
  ap has_reply s.book_is,
)

module _ (xs : List Book) (l : BookList) (view : book_list xs ≡ l) (i : ℕ) (x : Book) (within : i < length l.items) (read : x ≡ get_or xs i x) where
  here : slice_get xs i ≡ Some x
  here = read_there xs i x (subst (λ (k : BookList). i < length k.items) (sym view) within) read

  there : slice_get l.items i ≡ Some x
  there = ap (λ (k : BookList). slice_get k.items i) (sym view) ∙ here

  pub same_count : (y : Book) (n : ℕ) → n ≡ replies_in xs → has_reply y ≡ has_reply x → n ≡ replies_in (slice_set xs i y)
  same_count y n is same =
      let c = counted xs i x y here in
      let k : reply_count y ≡ reply_count x = ap (λ (t : Bool). if t then 1 else 0) same in
      omega (arith, is, c, k)

  pub one_more : (y : Book) (n : ℕ) → n ≡ replies_in xs → (has_reply x ≡ false) × (has_reply y ≡ true) → n + 1 ≡ replies_in (slice_set xs i y)
  one_more y n is ends =
      let c = counted xs i x y here in
      let a = none_of x ends.0 in
      let b = one_of y ends.1 in
      omega (arith, is, c, a, b)

  pub room_for_one : (n : ℕ) → n ≡ replies_in xs → has_reply x ≡ false → n < length xs
  room_for_one n is none = let f = fewer xs i x here none in omega (arith, is, f)

  one_less : (y : Book) (n : ℕ) → n ≡ replies_in xs → has_reply x ≡ true → has_reply y ≡ false → n ≡ replies_in (slice_set xs i y) + 1
  one_less y n is some none =
      let c = counted xs i x y here in
      let a = one_of x some in
      let b = none_of y none in
      omega (arith, is, c, a, b)

  -- the same change as it is told of the book that stood there
  pub told : (f : Book → Book) (y : Book) → y ≡ f x → (b : Book) → slice_get l.items i ≡ Some b → slice_set xs i y ≡ slice_set l.items i (f b)
  told f y is b at =
      let same : x ≡ b = same_book x b (sym there ∙ at) in
      λ j. slice_set (view j).items i ((is ∙ ap f same) j)

  -- a call is begun
  begun_same : (T E : Type 0) (r : Result T E) (y : Book) (call : Call) (start : ℕ) → x.pending ≡ None
      → MatchResult r (λ _. y ≡ record x { pending = Some (pend call start None) }) (λ _. y ≡ x) → has_reply y ≡ has_reply x
  begun_same T E (Ok u) y call start none is = ap has_reply is ∙ sym (ap (λ (o : Option Pending). option_map_or has_ended o false) none)
  begun_same T E (Err u) y call start none is = ap has_reply is

  pub begun_count : {T E : Type 0} (r : Result T E) (y : Book) (call : Call) (start n : ℕ) → n ≡ replies_in xs → ((b : Book) → slice_get l.items i ≡ Some b → b.pending ≡ None)
      → MatchResult r (λ _. y ≡ record x { pending = Some (pend call start None) }) (λ _. y ≡ x) → n ≡ replies_in (slice_set xs i y)
  begun_count {T} {E} r y call start n is none begins = same_count y n is (begun_same T E r y call start (none x there) begins)

  pub begun_told : {T E : Type 0} (r : Result T E) (y : Book) (call : Call) (start : ℕ) → MatchResult r (λ _. y ≡ record x { pending = Some (pend call start None) }) (λ _. y ≡ x)
      → MatchResult r (λ _. (b : Book) → slice_get l.items i ≡ Some b → slice_set xs i y ≡ slice_set l.items i (record b { pending = Some (pend call start None) })) (λ _. book_list (slice_set xs i y) ≡ l)
  begun_told (Ok u) y call start is = told (λ (b : Book). record b { pending = Some (pend call start None) }) y is
  begun_told (Err u) y call start is = ap book_list (ap (slice_set xs i) is ∙ set_same xs i x here) ∙ view

  -- a call is taken back
  pub cancelled_count : (y : Book) (n : ℕ) → n ≡ replies_in xs → ((b : Book) → slice_get l.items i ≡ Some b → has_reply b ≡ false) → y ≡ record x { pending = None } → n ≡ replies_in (slice_set xs i y)
  cancelled_count y n is none cancels = same_count y n is (ap has_reply cancels ∙ sym (none x there))

  -- a call that has ended is taken, or none is
  pub settled_some : (y : Book) (n : ℕ) (before after : SeatState) (reply : Reply) → n ≡ replies_in xs → Settles x y before after reply → n ≡ replies_in (slice_set xs i y) + 1
  settled_some y n before after reply is s = let ends = settled_reply x y before after reply s in one_less y n is ends.0 ends.1

  pub settled_told : (y : Book) (before after : SeatState) (reply : Reply) → Settles x y before after reply → SettlesAt l.items (slice_set xs i y) i before after reply
  settled_told y before after reply s =
      record { former = x; at = there; settled = y; changed = ap (λ (k : BookList). slice_set k.items i y) view; settles = s }

  pub unsettled_told : (y : Book) (before after : SeatState) → (y ≡ x) × (after ≡ before) × (has_reply x ≡ false) → IsUnsettled l.items (slice_set xs i y) i before after
  unsettled_told y before after u = record {
    same = ap (slice_set xs i) u.0 ∙ set_same xs i x here ∙ ap (λ (k : BookList). k.items) view;
    seat = u.1;
    none = λ b at. ap has_reply (same_book b x (sym at ∙ there)) ∙ u.2;
  }
