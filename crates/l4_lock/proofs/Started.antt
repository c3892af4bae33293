-- A call is begun, a reply is taken and a seat is given: what was right of the books stays right.
use Rattle.std.proofs.Common.{◌≡◌, ◌≢◌, ℕ, suc, zero, ◌<◌, ◌||◌, nat_eq, true, false, is_some, if◌then◌else◌, List, [], ◌∷◌, ◌++◌, length, map, Option, Some, None, Ok, MatchOption, slice_get, slice_set, refl, sym, ap, ◌∙◌, subst, inl, inr, arith}
use Rattle.std.specs.Option.{option_map, option_map_or, option_and_then}
use Rattle.std.specs.List.{All}
use Rattle.std.proofs.lemmas.Bool.{false≢true}
use Rattle.std.proofs.lemmas.Bool.Decides.{eqb_tells}
use Rattle.std.proofs.lemmas.Option.{slice_get-map}
use Rattle.std.proofs.lemmas.List.{length-append}
use Rattle.std.proofs.lemmas.List.Elements.{All-weaker, All-push, All-map, All-cons, All-head, All-tail, All-nil, All-set}
use Rattle.std.proofs.lemmas.List.Quantifiers.{all_pairs_push}
use Rattle.l4_ipc.specs.declared.calls.Call.{Call}
use Rattle.l4_ipc.specs.declared.steps.Answer.{Answer}
use Rattle.l4_ipc.specs.declared.steps.Step.TheVariants.{Start}
use Rattle.l4_ipc.specs.Machine.{Machine}
use Rattle.l4_ipc.specs.Steps.{Steps, IsNext}
use Rattle.l4_record.specs.declared.entries.Entry.{Entry}
use Rattle.l4_lock.specs.declared.entries.Ended.{Ended}
use Rattle.l4_lock.specs.declared.entries.Pending.{Pending}
use Rattle.l4_record.specs.History.{Replays, IsLegal}
use Rattle.l4_lock.specs.Receipts.{Proves, StartsCall}
use Rattle.l4_lock.specs.Books.{Book, book, book_at, reply_waits, has_ended, numbers, IsOnce, is_among, unended, plain, pending_count, receipt_of, one_if, starts_of, HasNotEnded, IsPending, IsRight, AreRight}
use Rattle.l4_lock.specs.Inside.Noting.{noted}
use Rattle.l4_record.specs.Following.{start_entry}
use Rattle.l4_lock.specs.Inside.Entering.{IsReady}
use Rattle.l4_lock.proofs.Right.{pend, starts_append, none_starts, none_own, right_next, right_start, numbers_noted, numbers_set, number_among}
use Rattle.l4_record.proofs.Going.{replays_more}

pub same_book : (x b : Book) → ◌≡◌ {A = Option Book} (Some x) (Some b) → x ≡ b
same_book x b e = cc

-- THE OTHER BOOKS

others_all : (P : Book → Type 0) (n : ℕ) (xs : List Book) → is_among n (numbers xs) ≡ false → All (λ x. x.number ≢ n → P x) xs → All P xs
others_all P n [] none h = All-nil P
others_all P n (x ∷ xs) none h =
    elim (eqb_tells x.number n) [
      | inl is ↦ absurd (false≢true (sym none ∙ ap (λ t. t || is_among n (numbers xs)) is.0))
      | inr ne ↦ All-cons P x xs (All-head (λ y. y.number ≢ n → P y) x xs h ne.1)
          (others_all P n xs (sym (ap (λ t. t || is_among n (numbers xs)) ne.0) ∙ none) (All-tail (λ y. y.number ≢ n → P y) x xs h))
    ]

changed_all : (P : Book → Type 0) (xs : List Book) (place : ℕ) (b c : Book) → slice_get xs place ≡ Some b → IsOnce (numbers xs) → P c
    → All (λ x. x.number ≢ b.number → P x) xs → All P (slice_set xs place c)
changed_all P [] place b c at once p h = absurd (let k : ◌≡◌ {A = Option Book} None (Some b) = at in cc)
changed_all P (x ∷ xs) zero b c at once p h =
    let e : x ≡ b = same_book x b at in
    All-cons P c xs p (others_all P b.number xs (subst (λ (y : Book). is_among y.number (numbers xs) ≡ false) e once.0) (All-tail (λ y. y.number ≢ b.number → P y) x xs h))
changed_all P (x ∷ xs) (suc place) b c at once p h =
    let differs : x.number ≢ b.number = λ same. false≢true (sym once.0 ∙ ap (λ k. is_among k (numbers xs)) same ∙ number_among xs place b at) in
    All-cons P x (slice_set xs place c) (All-head (λ y. y.number ≢ b.number → P y) x xs h differs) (changed_all P xs place b c at once.1 p (All-tail (λ y. y.number ≢ b.number → P y) x xs h))

pub read_all : (P : Book → Type 0) (xs : List Book) (place : ℕ) (b : Book) → slice_get xs place ≡ Some b → All P xs → P b
read_all P [] place b at h = absurd (let k : ◌≡◌ {A = Option Book} None (Some b) = at in cc)
read_all P (x ∷ xs) zero b at h = subst P (same_book x b at) (All-head P x xs h)
read_all P (x ∷ xs) (suc place) b at h = read_all P xs place b at (All-tail P x xs h)

pub set_get : (xs : List Book) (place : ℕ) (b c : Book) → slice_get xs place ≡ Some b → slice_get (slice_set xs place c) place ≡ Some c
set_get [] place b c at = absurd (let k : ◌≡◌ {A = Option Book} None (Some b) = at in cc)
set_get (x ∷ xs) zero b c at = refl
set_get (x ∷ xs) (suc place) b c at = set_get xs place b c at

pub set_back : (xs : List Book) (place : ℕ) (b c : Book) → slice_get xs place ≡ Some b → slice_set (slice_set xs place c) place b ≡ xs
set_back [] place b c at = refl
set_back (x ∷ xs) zero b c at = ap (λ (y : Book). y ∷ xs) (sym (same_book x b at))
set_back (x ∷ xs) (suc place) b c at = ap (λ (l : List Book). x ∷ l) (set_back xs place b c at)

pub set_same : (xs : List Book) (place : ℕ) (b : Book) → slice_get xs place ≡ Some b → slice_set xs place b ≡ xs
set_same [] place b at = refl
set_same (x ∷ xs) zero b at = ap (λ (y : Book). y ∷ xs) (sym (same_book x b at))
set_same (x ∷ xs) (suc place) b at = ap (λ (l : List Book). x ∷ l) (set_same xs place b at)

-- A START

-- what is right of the books, of a legal history
pub record AreBooks (frames : ℕ) (es : List Entry) (m : Machine) (books : List Book) : Type 0 where
  pub each : All (IsRight frames es m) books
  pub apart : IsOnce (numbers books)
  pub others : (n : ℕ) → is_among n (numbers books) ≡ false → starts_of n es ≡ 0

pub books_of : (frames : ℕ) (es : List Entry) (m : Machine) (books : List Book) → AreRight frames es m books → AreBooks frames es m books
books_of frames es m books r = record { each = r.each; apart = r.apart; others = r.others }

pub with_books : (frames : ℕ) (es : List Entry) (m : Machine) (books : List Book) → IsLegal frames es m → AreBooks frames es m books → AreRight frames es m books
with_books frames es m books l b = record { replays = l.replays; events = l.events; each = b.each; apart = b.apart; others = b.others }

pub started_books : (frames : ℕ) (es : List Entry) (m new : Machine) (books : List Book) (place : ℕ) (b : Book) (call : Call) (answer : Answer) → AreBooks frames es m books → Replays frames es m → slice_get books place ≡ Some b → b.pending ≡ None
    → Steps m (Start b.number call) (Ok answer) new
    → AreBooks frames (es ++ start_entry b.number call answer ∷ []) new (map (noted new answer.ended.items (length es)) (slice_set books place (record b { pending = Some (pend call (length es) None) })))
started_books frames es m new books place b call answer r replayed at none step =
    let e : Entry = start_entry b.number call answer in
    let c : Book = record b { pending = Some (pend call (length es) None) } in
    let replays : Replays frames (es ++ e ∷ []) new = replays_more frames es m e new replayed refl step in
    let same : numbers (map (noted new answer.ended.items (length es)) (slice_set books place c)) ≡ numbers books = numbers_noted new answer.ended.items (length es) (slice_set books place c) ∙ numbers_set books place b c at refl in
    let P : Book → Type 0 = λ x. IsRight frames (es ++ e ∷ []) new (noted new answer.ended.items (length es) x) in
    record {
      each = All-map (IsRight frames (es ++ e ∷ []) new) (noted new answer.ended.items (length es)) (slice_set books place c)
          (changed_all P books place b c at r.apart
          (right_start frames es m e new b call (read_all (IsRight frames es m) books place b at r.each) none refl step replays)
          (All-weaker (IsRight frames es m) (λ x. x.number ≢ b.number → P x) (λ x h other. right_next frames es m e new x h step (λ starts. other (sym starts)) replays) books r.each));
      apart = subst IsOnce (sym same) r.apart;
      others = λ n other.
          let old : starts_of n es ≡ 0 = r.others n (ap (is_among n) (sym same) ∙ other) in
          let none' : one_if n e.step ≡ 0 = none_starts n e.step (λ starts. false≢true (sym (ap (is_among n) (sym same) ∙ other) ∙ ap (λ k. is_among k (numbers books)) (sym starts) ∙ number_among books place b at)) in
          starts_append n es e ∙ omega (arith, old, none');
    }

-- a step that starts no call
pub quiet_books : (frames : ℕ) (es : List Entry) (m : Machine) (e : Entry) (new : Machine) (books : List Book) → AreBooks frames es m books → Replays frames (es ++ e ∷ []) new → ((n : ℕ) → ¬ (StartsCall n e.step)) → Steps m e.step (Ok e.answer) new
    → AreBooks frames (es ++ e ∷ []) new (map (noted new e.answer.ended.items (length es)) books)
quiet_books frames es m e new books r replays quiet step =
    let same = numbers_noted new e.answer.ended.items (length es) books in
    record {
      each = All-map (IsRight frames (es ++ e ∷ []) new) (noted new e.answer.ended.items (length es)) books
          (All-weaker (IsRight frames es m) (λ b. IsRight frames (es ++ e ∷ []) new (noted new e.answer.ended.items (length es) b)) (λ b h. right_next frames es m e new b h step (quiet b.number) replays) books r.each);
      apart = subst IsOnce (sym same) r.apart;
      others = λ n other.
          let old : starts_of n es ≡ 0 = r.others n (ap (is_among n) (sym same) ∙ other) in
          let none : one_if n e.step ≡ 0 = none_starts n e.step (quiet n) in
          starts_append n es e ∙ omega (arith, old, none);
    }

pub next_books : (frames : ℕ) (es : List Entry) (m : Machine) (e : Entry) (new : Machine) (books : List Book) → AreBooks frames es m books → Replays frames (es ++ e ∷ []) new → IsNext m e.step → Steps m e.step (Ok e.answer) new
    → AreBooks frames (es ++ e ∷ []) new (map (noted new e.answer.ended.items (length es)) books)
next_books frames es m e new books r replays next step = quiet_books frames es m e new books r replays (λ n. none_own m n e.step next) step

-- A REPLY IS TAKEN

pub right_settled : (frames : ℕ) (es : List Entry) (m : Machine) (b : Book) (p : Pending) (f : Ended) → IsRight frames es m b → b.pending ≡ Some p → p.ended ≡ Some f
    → Proves frames es b.number (receipt_of p f) × IsRight frames es m (record b { pending = None; receipts = b.receipts ++ receipt_of p f ∷ [] })
right_settled frames es m b p f r is ended =
    let pending : IsPending frames es m b.number p = subst (λ (o : Option Pending). MatchOption o (Unit {0}) (IsPending frames es m b.number)) is r.pending in
    let proves : Proves frames es b.number (receipt_of p f) = subst (λ (o : Option Ended). MatchOption o (HasNotEnded es m b.number p.start) (λ e. Proves frames es b.number (receipt_of p e))) ended pending.ended in
    let later : All (λ r. r.start < p.start) b.receipts = subst (λ (o : Option Pending). MatchOption o (Unit {0}) (λ o. All (λ r. r.start < o.start) b.receipts)) is r.later in (
      proves,
      record {
        count = (let n = r.count in let k = ap pending_count is in omega (arith, n, k, length-append b.receipts (receipt_of p f ∷ [])));
        receipts = All-push (Proves frames es b.number) b.receipts (receipt_of p f) r.receipts proves;
        rising = all_pairs_push (λ r s. r.start < s.start) b.receipts (receipt_of p f) r.rising later;
        pending = tt;
        later = tt;
      },
    )

pub settled_right : (frames : ℕ) (es : List Entry) (m : Machine) (books : List Book) (place : ℕ) (b c : Book) (p : Pending) (f : Ended) → AreRight frames es m books → slice_get books place ≡ Some b → b.pending ≡ Some p → p.ended ≡ Some f
    → c ≡ record b { pending = None; receipts = b.receipts ++ receipt_of p f ∷ [] } → Proves frames es b.number (receipt_of p f) × AreRight frames es m (slice_set books place c)
settled_right frames es m books place b c p f r at is ended changed =
    let both = right_settled frames es m b p f (read_all (IsRight frames es m) books place b at r.each) is ended in
    let same = numbers_set books place b c at (ap (λ (x : Book). x.number) changed) in (
      both.0,
      record {
        replays = r.replays;
        events = r.events;
        each = All-set (IsRight frames es m) books place c (subst (IsRight frames es m) (sym changed) both.1) r.each;
        apart = subst IsOnce (sym same) r.apart;
        others = λ n other. r.others n (ap (is_among n) (sym same) ∙ other);
      },
    )

-- BY NUMBER

pub at_number : (xs : List Book) (n : ℕ) (b : Book) → book_at xs n ≡ Some b → b.number ≡ n
at_number [] n b at = absurd (let k : ◌≡◌ {A = Option Book} None (Some b) = at in cc)
at_number (x ∷ xs) n b at =
    elim (eqb_tells x.number n) [
      | inl is ↦ ap (λ (y : Book). y.number) (sym (same_book x b (sym (ap (λ t. if t then Some x else book_at xs n) is.0) ∙ at))) ∙ is.1
      | inr ne ↦ at_number xs n b (sym (ap (λ t. if t then Some x else book_at xs n) ne.0) ∙ at)
    ]

pub none_among : (xs : List Book) (n : ℕ) → book_at xs n ≡ None → is_among n (numbers xs) ≡ false
none_among [] n none = refl
none_among (x ∷ xs) n none =
    elim (eqb_tells x.number n) [
      | inl is ↦ absurd (let k : ◌≡◌ {A = Option Book} (Some x) None = sym (ap (λ t. if t then Some x else book_at xs n) is.0) ∙ none in cc)
      | inr ne ↦ ap (λ t. t || is_among n (numbers xs)) ne.0 ∙ none_among xs n (sym (ap (λ t. if t then Some x else book_at xs n) ne.0) ∙ none)
    ]

pub get_there : (xs : List Book) (place : ℕ) → place < length xs → (b : Book) × (slice_get xs place ≡ Some b)
get_there [] place lt = absurd (omega (arith, lt))
get_there (x ∷ xs) zero lt = (x, refl)
get_there (x ∷ xs) (suc place) lt = get_there xs place (omega (arith, lt))

-- the call that isn't taken yet has not ended
pub ready : (frames : ℕ) (es : List Entry) (m : Machine) (books : List Book) (n place : ℕ) → AreRight frames es m books → place < length books → book_at books n ≡ slice_get books place → reply_waits books n ≡ false
    → IsReady books place n es m
ready frames es m books n place r lt at waits =
    let there = get_there books place lt in
    let b : Book = there.0 in
    let here : book_at books n ≡ Some b = at ∙ there.1 in
    let number : b.number ≡ n = at_number books n b here in
    let right : IsRight frames es m b = read_all (IsRight frames es m) books place b there.1 r.each in (
      b,
      there.1,
      number,
      λ p is.
          let pending : IsPending frames es m b.number p = subst (λ (o : Option Pending). MatchOption o (Unit {0}) (IsPending frames es m b.number)) is right.pending in
          let none : has_ended p ≡ false = sym (ap (λ (o : Option Book). option_map_or has_ended (option_and_then (λ (x : Book). x.pending) o) false) here ∙ ap (λ (o : Option Pending). option_map_or has_ended o false) is) ∙ waits in
          subst (λ (k : ℕ). HasNotEnded es m k p.start) number (not_yet b.number p.call p.start p.ended pending none),
    ) where
      not_yet : (k : ℕ) (call : Call) (start : ℕ) (o : Option Ended) → IsPending frames es m k (pend call start o) → has_ended (pend call start o) ≡ false → HasNotEnded es m k start
      not_yet k call start None p e = p.ended
      not_yet k call start (Some f) p e = absurd (false≢true (sym e))

-- the book at the place is its number's, and another one there changes nothing of other numbers
pub own_at : (xs : List Book) (place : ℕ) (b : Book) → slice_get xs place ≡ Some b → IsOnce (numbers xs) → book_at xs b.number ≡ Some b
own_at [] place b at once = absurd (let k : ◌≡◌ {A = Option Book} None (Some b) = at in cc)
own_at (x ∷ xs) zero b at once =
    let e : x ≡ b = same_book x b at in
    elim (eqb_tells x.number b.number) [
      | inl is ↦ ap (λ t. if t then Some x else book_at xs b.number) is.0 ∙ at
      | inr ne ↦ absurd (ne.1 (ap (λ (y : Book). y.number) e))
    ]
own_at (x ∷ xs) (suc place) b at once =
    elim (eqb_tells x.number b.number) [
      | inl is ↦ absurd (false≢true (sym once.0 ∙ ap (λ k. is_among k (numbers xs)) is.1 ∙ number_among xs place b at))
      | inr ne ↦ ap (λ t. if t then Some x else book_at xs b.number) ne.0 ∙ own_at xs place b at once.1
    ]

pub set_own : (xs : List Book) (place : ℕ) (b c : Book) → slice_get xs place ≡ Some b → c.number ≡ b.number → IsOnce (numbers xs) → book_at (slice_set xs place c) b.number ≡ Some c
set_own xs place b c at same once =
    subst (λ (k : ℕ). book_at (slice_set xs place c) k ≡ Some c) same
    (own_at (slice_set xs place c) place c (set_get xs place b c at) (subst IsOnce (sym (numbers_set xs place b c at same)) once))

pub set_other : (xs : List Book) (place : ℕ) (b c : Book) (m : ℕ) → slice_get xs place ≡ Some b → c.number ≡ b.number → m ≢ b.number → book_at (slice_set xs place c) m ≡ book_at xs m
set_other [] place b c m at same ne = refl
set_other (x ∷ xs) zero b c m at same ne =
    let e : x ≡ b = same_book x b at in
    elim (eqb_tells x.number m) [
      | inl is ↦ absurd (ne (sym is.1 ∙ ap (λ (y : Book). y.number) e))
      | inr other ↦ elim (eqb_tells c.number m) [
        | inl is ↦ absurd (ne (sym is.1 ∙ same))
        | inr third ↦ ap (λ t. if t then Some c else book_at xs m) third.0 ∙ sym (ap (λ t. if t then Some x else book_at xs m) other.0)
      ]
    ]
set_other (x ∷ xs) (suc place) b c m at same ne = ap (λ (o : Option Book). if nat_eq x.number m then Some x else o) (set_other xs place b c m at same ne)

pub plain_at : (xs : List Book) (m : ℕ) → option_map plain (book_at xs m) ≡ book_at (map plain xs) m
plain_at [] m = refl
plain_at (x ∷ xs) m =
    elim (nat_eq x.number m) as (λ t. option_map plain (if t then Some x else book_at xs m) ≡ (if t then Some (plain x) else book_at (map plain xs) m)) [ true ↦ refl | false ↦ plain_at xs m ]

-- A SEAT IS GIVEN

numbers_more : (xs : List Book) (b : Book) → numbers (xs ++ b ∷ []) ≡ numbers xs ++ b.number ∷ []
numbers_more [] b = refl
numbers_more (x ∷ xs) b = ap (λ (l : List ℕ). x.number ∷ l) (numbers_more xs b)

among_more : (n : ℕ) (ns : List ℕ) (k : ℕ) → is_among n (ns ++ k ∷ []) ≡ false → is_among n ns ≡ false
among_more n [] k h = refl
among_more n (m ∷ ns) k h =
    elim (nat_eq m n) as (λ t. (t || is_among n (ns ++ k ∷ [])) ≡ false → (t || is_among n ns) ≡ false) [ true ↦ λ e. e | false ↦ λ e. among_more n ns k e ] h

among_push : (n : ℕ) (ns : List ℕ) (k : ℕ) → n ≢ k → is_among n ns ≡ false → is_among n (ns ++ k ∷ []) ≡ false
among_push n [] k ne h = elim (eqb_tells k n) [ inl is ↦ absurd (ne (sym is.1)) | inr other ↦ ap (λ t. t || false) other.0 ]
among_push n (m ∷ ns) k ne h =
    elim (nat_eq m n) as (λ t. (t || is_among n ns) ≡ false → (t || is_among n (ns ++ k ∷ [])) ≡ false) [ true ↦ λ e. e | false ↦ λ e. among_push n ns k ne e ] h

pub once_push : (ns : List ℕ) (k : ℕ) → IsOnce ns → is_among k ns ≡ false → IsOnce (ns ++ k ∷ [])
once_push [] k once none = (refl, tt)
once_push (n ∷ ns) k once none =
    elim (eqb_tells n k) [
      | inl is ↦ absurd (false≢true (sym none ∙ ap (λ t. t || is_among k ns) is.0))
      | inr ne ↦ (among_push n ns k ne.1 once.0, once_push ns k once.1 (sym (ap (λ t. t || is_among k ns) ne.0) ∙ none))
    ]

pub given_right : (frames : ℕ) (es : List Entry) (m : Machine) (books : List Book) (n : ℕ) → AreRight frames es m books → book_at books n ≡ None → AreRight frames es m (books ++ book n None [] ∷ [])
given_right frames es m books n r none =
    let other : is_among n (numbers books) ≡ false = none_among books n none in
    let same = numbers_more books (book n None []) in
    record {
      replays = r.replays;
      events = r.events;
      each = All-push (IsRight frames es m) books (book n None []) r.each (record {
        count = r.others n other;
        receipts = All-nil (Proves frames es n);
        rising = λ i j d lt within. absurd (omega (arith, within));
        pending = tt;
        later = tt;
      });
      apart = subst IsOnce (sym same) (once_push (numbers books) n r.apart other);
      others = λ k h. r.others k (among_more k (numbers books) n (ap (is_among k) (sym same) ∙ h));
    }

-- A CALL IS BEGUN

pub same_pending : (o : Option Pending) (call : Call) (start : ℕ) → option_map unended o ≡ Some (pend call start None) → (p : Pending) × (o ≡ Some p) × (p.call ≡ call) × (p.start ≡ start)
same_pending None call start is = absurd (let k : ◌≡◌ {A = Option Pending} None (Some (pend call start None)) = is in cc)
same_pending (Some p) call start is =
    let k : ◌≡◌ {A = Option Pending} (Some (unended p)) (Some (pend call start None)) = is in
    let e : unended p ≡ pend call start None = cc in
    (p, refl, ap (λ (q : Pending). q.call) e, ap (λ (q : Pending). q.start) e)

pub same_plain : (o : Option Book) (c : Book) → option_map plain o ≡ Some (plain c) → (b : Book) × (o ≡ Some b) × (plain b ≡ plain c)
same_plain None c is = absurd (let k : ◌≡◌ {A = Option Book} None (Some (plain c)) = is in cc)
same_plain (Some b) c is = (b, refl, same_book (plain b) (plain c) is)

pub none_at : (o : Option ℕ) (A : Type 0) (B : ℕ → Type 0) → MatchOption o A B → is_some o ≡ false → A
none_at None A B h e = h
none_at (Some i) A B h e = absurd (false≢true (sym e))
