-- Books that forget their receipts are as right as before.
use Rattle.std.proofs.Common.{◌≡◌, ℕ, ◌+◌, ◌-◌, ◌<◌, ◌≤◌, max, nat_eq, true, false, if◌then◌else◌, List, [], ◌∷◌, ◌++◌, length, map, drop, Option, Some, None, IfSome, IfNone, is_some, refl, sym, ap, ◌∙◌, subst, arith}
use Rattle.std.specs.Option.{option_map}
use Rattle.std.specs.List.{All}
use Rattle.std.proofs.lemmas.Bool.{false≢true}
use Rattle.std.proofs.lemmas.List.{drop_at, drop-drop}
use Rattle.std.proofs.lemmas.List.Elements.{All-weaker, All-map}
use Rattle.l4_ipc.specs.Machine.{Machine}
use Rattle.l4_ipc.specs.declared.steps.Step.{Step}
use Rattle.l4_ipc.specs.declared.steps.Step.TheVariants.{Start, Transfer, Expire, Cancel}
use Rattle.l4_record.specs.declared.entries.Entry.{Entry}
use Rattle.l4_record.specs.declared.segments.Segment.{Segment}
use Rattle.l4_record.specs.Recording.{Recording, IsKept as IsRecorded, HandsOut as Handed}
use Rattle.l4_record.specs.Sizes.{max_handed_out}
use Rattle.l4_lock.specs.declared.entries.Receipt.{Receipt}
use Rattle.l4_lock.specs.declared.entries.Pending.{Pending}
use Rattle.l4_lock.specs.Books.{Book, book_at, pending_count, forgotten_book, numbers, IsOnce, is_among, one_if, starts_of, IsRight, AreRight}
use Rattle.l4_lock.specs.Inside.Accounts.{HasFewReceipts, reply_count, replies_in}
use Rattle.l4_lock.specs.Locked.{Lock, lock, IsKept}

-- RECEIPTS THAT ARE KEPT

pub kept_are : (past items : List Receipt) (kept_from number left : ℕ) → length past ≡ kept_from → left ≡ number - kept_from → drop left items ≡ drop (max kept_from number) (past ++ items)
kept_are past items kept_from number left long is =
    let place : kept_from + left ≡ max kept_from number = omega (arith, is) in
    ap (drop left) (sym (drop_at past items kept_from long)) ∙ drop-drop left kept_from (past ++ items) ∙ ap (λ (n : ℕ). drop n (past ++ items)) place

-- HOW MANY RECEIPTS THERE ARE

one_at_most : (n : ℕ) (step : Step) → one_if n step ≤ 1
one_at_most n (Start k call) = elim (nat_eq k n) as (λ b. (if b then 1 else 0) ≤ 1) [ true ↦ omega arith | false ↦ omega arith ]
one_at_most n (Transfer s r) = omega arith
one_at_most n (Expire k) = omega arith
one_at_most n (Cancel k cause) = omega arith

few_starts : (n : ℕ) (es : List Entry) → starts_of n es ≤ length es
few_starts n [] = omega arith
few_starts n (e ∷ es) = let rest = few_starts n es in let one = one_at_most n e.step in omega (arith, rest, one)

-- a history that can be handed out has no more receipts than can be forgotten
pub few_receipts : (frames : ℕ) (es : List Entry) (m : Machine) (books : List Book) → All (IsRight frames es m) books → length es ≤ max_handed_out → All HasFewReceipts books
few_receipts frames es m books right few =
    All-weaker (IsRight frames es m) HasFewReceipts (λ b r. let count = r.count in let starts = few_starts b.number es in omega (arith, count, starts, few)) books right

pub one_pending : (p : Option Pending) → true ≡ is_some p → pending_count p ≡ 1
one_pending None is = absurd (false≢true (sym is))
one_pending (Some o) is = refl

-- BOOKS

numbers_forgotten : (books : List Book) → numbers (map forgotten_book books) ≡ numbers books
numbers_forgotten [] = refl
numbers_forgotten (b ∷ bs) = ap (λ (l : List ℕ). b.number ∷ l) (numbers_forgotten bs)

pub replies_forgotten : (books : List Book) → replies_in (map forgotten_book books) ≡ replies_in books
replies_forgotten [] = refl
replies_forgotten (b ∷ bs) = ap (λ (k : ℕ). reply_count b + k) (replies_forgotten bs)

pub forgotten_at : (books : List Book) (n : ℕ) → book_at (map forgotten_book books) n ≡ option_map forgotten_book (book_at books n)
forgotten_at [] n = refl
forgotten_at (b ∷ bs) n =
    elim (nat_eq b.number n) as (λ t. (if t then Some (forgotten_book b) else book_at (map forgotten_book bs) n) ≡ option_map forgotten_book (if t then Some b else book_at bs n)) [
      | true ↦ refl
      | false ↦ forgotten_at bs n
    ]

right_forgotten : (frames : ℕ) (es : List Entry) (m : Machine) (b : Book) → IsRight frames es m b → IsRight frames es m (forgotten_book b)
right_forgotten frames es m b r = record { count = r.count; receipts = r.receipts; rising = r.rising; pending = r.pending; later = r.later }

pub are_forgotten : (frames : ℕ) (es : List Entry) (m : Machine) (books : List Book) → AreRight frames es m books → AreRight frames es m (map forgotten_book books)
are_forgotten frames es m books r =
    let same = numbers_forgotten books in
    record {
      replays = r.replays;
      events = r.events;
      each = All-map (IsRight frames es m) forgotten_book books (All-weaker (IsRight frames es m) (λ b. IsRight frames es m (forgotten_book b)) (right_forgotten frames es m) books r.each);
      apart = subst IsOnce (sym same) r.apart;
      others = λ n other. r.others n (sym (ap (λ (ns : List ℕ). is_among n ns) same) ∙ other);
    }

-- THE LOCK

-- the recorder and the books of a lock
abbrev lock_of : Recording → List Book → Lock
lock_of r books = lock r.frames r.kernel r.history r.kept_from books r.board r.published

-- of the recorder that handed out its entries
module _ (old new : Recording) (books : List Book) (r : Option Segment) (kept : IsKept (lock_of old books)) (recorded : IsRecorded new) (some : IfSome r (Handed old new)) (none : IfNone r ((max_handed_out < length old.history) × (new ≡ old))) where
  -- where entries were handed out, the receipts can be forgotten
  pub can_forget : is_some r ≡ true → All HasFewReceipts books
  can_forget is = of_option r some is where
    of_option : (o : Option Segment) → IfSome o (Handed old new) → is_some o ≡ true → All HasFewReceipts books
    of_option None h e = absurd (false≢true e)
    of_option (Some segment) h e =
        few_receipts old.frames old.history old.kernel books kept.right.each (let all = ap (λ (x : Recording). x.kept_from) h.new_is in let few = recorded.handed_out in omega (arith, all, few))

  -- the lock with these books
  kept_with : (later : List Book) → AreRight new.frames new.history new.kernel later → IsKept (lock_of new later)
  kept_with later right = record { right = right; idle = recorded.idle; few = recorded.few; shown = recorded.shown; within = recorded.within; handed_out = recorded.handed_out; base = recorded.base }

  pub forgotten_kept : (later : List Book) → later ≡ map forgotten_book books → is_some r ≡ true → IsKept (lock_of new later)
  forgotten_kept later is e = of_option r some e where
    of_option : (o : Option Segment) → IfSome o (Handed old new) → is_some o ≡ true → IsKept (lock_of new later)
    of_option None h e = absurd (false≢true e)
    of_option (Some segment) h e =
        kept_with later (subst (λ (x : Recording). AreRight x.frames x.history x.kernel later) (sym h.new_is)
        (subst (AreRight old.frames old.history old.kernel) (sym is) (are_forgotten old.frames old.history old.kernel books kept.right)))
