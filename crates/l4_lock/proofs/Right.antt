-- The history goes on by one entry: what was right of it stays right.
use Rattle.std.proofs.Common.{◌≡◌, ℕ, suc, zero, ◌+◌, ◌<◌, ◌≤◌, ◌⊎◌, inl, inr, nat_eq, ◌||◌, true, false, if◌then◌else◌, List, [], ◌∷◌, ◌++◌, length, map, take, Option, Some, None, Ok, MatchOption, Contains, slice_get, slice_index_or, slice_set, refl, sym, ap, ◌∙◌, subst, arith}
use Rattle.std.specs.Option.{option_map}
use Rattle.std.specs.List.{All}
use Rattle.std.proofs.lemmas.Bool.{false≢true}
use Rattle.std.proofs.lemmas.Bool.Decides.{eqb_tells}
use Rattle.std.proofs.lemmas.Option.{slice_get_within}
use Rattle.std.proofs.lemmas.List.{take-append-le}
use Rattle.std.proofs.lemmas.List.Elements.{All-weaker, All-map}
use Rattle.std.proofs.Math.Seq.{take-length}
use Rattle.std.proofs.Common.{eq-eqb}
use Rattle.std.proofs.lemmas.List.{length-append}
use Rattle.l4_ipc.specs.declared.calls.Call.{Call}
use Rattle.l4_ipc.specs.declared.steps.Step.{Step}
use Rattle.l4_ipc.specs.declared.steps.Step.TheVariants.{Start, Transfer, Expire, Cancel}
use Rattle.l4_ipc.specs.Machine.{Machine}
use Rattle.l4_ipc.specs.Steps.{Steps, IsNext, Waits}
use Rattle.l4_record.specs.declared.entries.Entry.{Entry}
use Rattle.l4_lock.specs.declared.entries.Receipt.{Receipt}
use Rattle.l4_lock.specs.declared.entries.Ended.{Ended}
use Rattle.l4_lock.specs.declared.entries.Pending.{Pending}
use Rattle.l4_record.specs.History.{Replays}
use Rattle.l4_lock.specs.Receipts.{Proves, StartsCall, Replied}
use Rattle.l4_lock.specs.Books.{Book, pending_count, is_among, unended, plain, receipt_of, one_if, starts_of, IsPending, IsRight, numbers, IsOnce, AreRight}
use Rattle.l4_lock.specs.Inside.Noting.{reply_in, noted_call, noted}
use Rattle.l4_ipc.proofs.Waiting.{still_waits, starts_waiting}
use Rattle.l4_lock.proofs.Replies.{ended_replied}

-- LISTS

pub get_append : (es more : List Entry) (i : ℕ) → i < length es → slice_get (es ++ more) i ≡ slice_get es i
get_append [] more i lt = absurd (omega arith)
get_append (e ∷ es) more zero lt = refl
get_append (e ∷ es) more (suc i) lt = get_append es more i (omega arith)

pub get_last : (es : List Entry) (e : Entry) (k : ℕ) → k ≡ length es → slice_get (es ++ e ∷ []) k ≡ Some e
get_last [] e zero is = refl
get_last [] e (suc k) is = absurd (omega (arith, is))
get_last (x ∷ es) e zero is = absurd (omega (arith, is))
get_last (x ∷ es) e (suc k) is = get_last es e k (omega (arith, is))

pub get_cases : (es : List Entry) (e : Entry) (k : ℕ) (x : Entry) → slice_get (es ++ e ∷ []) k ≡ Some x → (slice_get es k ≡ Some x) ⊎ ((k ≡ length es) × (x ≡ e))
get_cases [] e zero x is = inr (refl, let i : ◌≡◌ {A = Option Entry} (Some e) (Some x) = is in cc)
get_cases [] e (suc k) x is = absurd (let i : ◌≡◌ {A = Option Entry} None (Some x) = is in cc)
get_cases (y ∷ es) e zero x is = inl is
get_cases (y ∷ es) e (suc k) x is =
    elim (get_cases es e k x is) [ inl h ↦ inl h | inr h ↦ inr (ap suc h.0, h.1) ]

take_all : (es : List Entry) (e : Entry) → take (length es + 1) (es ++ e ∷ []) ≡ es ++ e ∷ []
take_all es e =
    let n : length es + 1 ≡ length (es ++ e ∷ []) = omega (arith, length-append es (e ∷ [])) in
    ap (λ k. take k (es ++ e ∷ [])) n ∙ take-length (es ++ e ∷ [])

pub among_contains : (n : ℕ) (xs : List ℕ) → is_among n xs ≡ true → Contains xs n
among_contains n [] h = absurd (false≢true h)
among_contains n (x ∷ xs) h =
    elim (eqb_tells x n) [
      | inl is ↦ (0, omega arith, is.1)
      | inr ne ↦
          let rest = among_contains n xs (sym (ap (λ b. b || is_among n xs) ne.0) ∙ h) in
          (suc rest.0, (let lt = rest.1 in omega (arith, lt)), rest.2)
    ]

at_among : (n : ℕ) (xs : List ℕ) (k : ℕ) → k < length xs → slice_index_or xs k n ≡ n → is_among n xs ≡ true
at_among n [] k lt is = absurd (omega (arith, lt))
at_among n (x ∷ xs) zero lt is = ap (λ b. b || is_among n xs) (eq-eqb x n is)
at_among n (x ∷ xs) (suc k) lt is =
    elim (nat_eq x n) as (λ b. (b || is_among n xs) ≡ true) [ true ↦ refl | false ↦ at_among n xs k (omega (arith, lt)) is ]

contains_among : (n : ℕ) (xs : List ℕ) → Contains xs n → is_among n xs ≡ true
contains_among n xs h = at_among n xs h.0 h.1 h.2

-- HISTORIES

-- a receipt that is right stays so
pub proves_longer : (frames : ℕ) (es more : List Entry) (n : ℕ) (receipt : Receipt) → Proves frames es n receipt → Proves frames (es ++ more) n receipt
proves_longer frames es more n receipt p =
    let ends : receipt.end < length es = slice_get_within es receipt.end p.last p.end in
    let starts : receipt.start < length es = slice_get_within es receipt.start p.first p.start in
    record {
      first = p.first;
      last = p.last;
      start = get_append es more receipt.start starts ∙ p.start;
      call = p.call;
      end = get_append es more receipt.end ends ∙ p.end;
      order = p.order;
      ends = p.ends;
      no_other = λ k entry after before at.
          let lt : k < length es = omega (arith, ends, before) in
          p.no_other k entry after before (sym (get_append es more k lt) ∙ at);
      after = p.after;
      replays = subst (λ (h : List Entry). Replays frames h p.after) (sym (take-append-le (receipt.end + 1) es more (omega (arith, ends)))) p.replays;
      reply = p.reply;
    }

-- BOOKS

pub starts_append : (n : ℕ) (es : List Entry) (e : Entry) → starts_of n (es ++ e ∷ []) ≡ starts_of n es + one_if n e.step
starts_append n [] e = omega arith
starts_append n (x ∷ es) e = let h = starts_append n es e in omega (arith, h)

pub none_starts : (n : ℕ) (step : Step) → ¬ (StartsCall n step) → one_if n step ≡ 0
none_starts n (Start k call) other = elim (eqb_tells k n) [ inl is ↦ absurd (other is.1) | inr ne ↦ ap (λ b. if b then 1 else 0) ne.0 ]
none_starts n (Transfer s r) other = refl
none_starts n (Expire k) other = refl
none_starts n (Cancel k cause) other = refl

one_starts : (n : ℕ) (step : Step) → StartsCall n step → one_if n step ≡ 1
one_starts n (Start k call) is = elim (eqb_tells k n) [ inl same ↦ ap (λ b. if b then 1 else 0) same.0 | inr ne ↦ absurd (ne.1 is) ]
one_starts n (Transfer s r) is = absurd is
one_starts n (Expire k) is = absurd is
one_starts n (Cancel k cause) is = absurd is

abbrev pub pend : Call → ℕ → Option Ended → Pending
pend call start ended = record { call = call; start = start; ended = ended }

module _ (frames : ℕ) (es : List Entry) (m : Machine) (e : Entry) (new : Machine) (n : ℕ) where
  abbrev longer : List Entry
  longer = es ++ e ∷ []

  -- no other entry starts a call of the thread
  none_later : (start : ℕ) → ((k : ℕ) (entry : Entry) → start < k → slice_get es k ≡ Some entry → ¬ (StartsCall n entry.step)) → ¬ (StartsCall n e.step)
      → (k : ℕ) (entry : Entry) → start < k → slice_get longer k ≡ Some entry → ¬ (StartsCall n entry.step)
  none_later start before last k entry after at =
      elim (get_cases es e k entry at) [
        | inl old ↦ before k entry after old
        | inr here ↦ λ is. last (subst (λ (x : Entry). StartsCall n x.step) here.1 is)
      ]

  -- a call that waits is noted where it ended
  pub waiting_noted : (call : Call) (start : ℕ) (first : Entry) → slice_get longer start ≡ Some first → first.step ≡ Start n call → start ≤ length es
      → ((k : ℕ) (entry : Entry) → start < k → slice_get longer k ≡ Some entry → ¬ (StartsCall n entry.step))
      → ((k : ℕ) (entry : Entry) → start ≤ k → slice_get es k ≡ Some entry → ¬ (Contains entry.answer.ended.items n))
      → (¬ (Contains e.answer.ended.items n) → Waits new n)
      → (Contains e.answer.ended.items n → Replied new n (reply_in new n))
      → Replays frames longer new
      → IsPending frames longer new n (noted_call new e.answer.ended.items (length es) n (pend call start None))
  waiting_noted call start first at is within other before waits replied replays =
      elim (is_among n e.answer.ended.items) as (λ b. is_among n e.answer.ended.items ≡ b → IsPending frames longer new n (if b then pend call start (Some (record { entry = length es; reply = reply_in new n })) else pend call start None)) [
        | true ↦ λ h.
            let among : Contains e.answer.ended.items n = among_contains n e.answer.ended.items h in
            record {
              first = first;
              start = at;
              call = is;
              no_other = other;
              ended = record {
                first = first;
                last = e;
                start = at;
                call = is;
                end = get_last es e (length es) refl;
                order = within;
                ends = among;
                no_other = λ k entry after to there. other k entry after there;
                after = new;
                replays = subst (λ (h' : List Entry). Replays frames h' new) (sym (take_all es e)) replays;
                reply = replied among;
              };
            }
        | false ↦ λ h.
            let not_among : ¬ (Contains e.answer.ended.items n) = λ among. false≢true (sym h ∙ contains_among n e.answer.ended.items among) in
            record {
              first = first;
              start = at;
              call = is;
              no_other = other;
              ended = record {
                waits = waits not_among;
                not_ended = λ k entry after there.
                    elim (get_cases es e k entry there) [
                      | inl old ↦ before k entry after old
                      | inr here ↦ λ among. not_among (subst (λ (x : Entry). Contains x.answer.ended.items n) here.1 among)
                    ];
              };
            }
      ] refl

  pub pending_next : (call : Call) (start : ℕ) (ended : Option Ended) → IsPending frames es m n (pend call start ended) → Steps m e.step (Ok e.answer) new → ¬ (StartsCall n e.step) → Replays frames longer new
      → IsPending frames longer new n (noted_call new e.answer.ended.items (length es) n (pend call start ended))
  pending_next call start (Some f) p step own replays =
      let within : start < length es = slice_get_within es start p.first p.start in
      record {
        first = p.first;
        start = get_append es (e ∷ []) start within ∙ p.start;
        call = p.call;
        no_other = none_later start p.no_other own;
        ended = proves_longer frames es (e ∷ []) n (receipt_of (pend call start (Some f)) f) p.ended;
      }
  pending_next call start None p step own replays =
      let within : start < length es = slice_get_within es start p.first p.start in
      waiting_noted call start p.first (get_append es (e ∷ []) start within ∙ p.start) p.call (omega (arith, within)) (none_later start p.no_other own) p.ended.not_ended
      (still_waits m new e.step e.answer n step p.ended.waits)
      (ended_replied m new e.step e.answer n step)
      replays

-- A BOOK AFTER A STEP

pub none_own : (m : Machine) (n : ℕ) (step : Step) → IsNext m step → ¬ (StartsCall n step)
none_own m n (Start k call) next = absurd next
none_own m n (Transfer s r) next = λ h. h
none_own m n (Expire k) next = λ h. h
none_own m n (Cancel k cause) next = λ h. h

count_noted : (new : Machine) (ended : List ℕ) (place n : ℕ) (p : Option Pending) → pending_count (option_map (noted_call new ended place n) p) ≡ pending_count p
count_noted new ended place n None = refl
count_noted new ended place n (Some p) = refl

start_noted : (new : Machine) (ended : List ℕ) (place n : ℕ) (call : Call) (start : ℕ) (e : Option Ended) → (noted_call new ended place n (pend call start e)).start ≡ start
start_noted new ended place n call start (Some e) = refl
start_noted new ended place n call start None =
    elim (is_among n ended) as (λ b. (if b then pend call start (Some (record { entry = place; reply = reply_in new n })) else pend call start None).start ≡ start) [ true ↦ refl | false ↦ refl ]

-- a book after a step that starts no call of its thread
pub right_next : (frames : ℕ) (es : List Entry) (m : Machine) (e : Entry) (new : Machine) (b : Book) → IsRight frames es m b → Steps m e.step (Ok e.answer) new → ¬ (StartsCall b.number e.step)
    → Replays frames (es ++ e ∷ []) new → IsRight frames (es ++ e ∷ []) new (noted new e.answer.ended.items (length es) b)
right_next frames es m e new b r step own replays = record {
  count = starts_append b.number es e ∙ (let z = none_starts b.number e.step own in let c = r.count in let d = count_noted new e.answer.ended.items (length es) b.number b.pending in omega (arith, z, c, d));
  receipts = All-weaker (Proves frames es b.number) (Proves frames (es ++ e ∷ []) b.number) (λ x p. proves_longer frames es (e ∷ []) b.number x p) b.receipts r.receipts;
  rising = r.rising;
  pending = goes b.pending r.pending;
  later = after b.pending r.later;
} where
  goes : (p : Option Pending) → MatchOption p (Unit {0}) (IsPending frames es m b.number)
      → MatchOption (option_map (noted_call new e.answer.ended.items (length es) b.number) p) (Unit {0}) (IsPending frames (es ++ e ∷ []) new b.number)
  goes None h = tt
  goes (Some p) h = pending_next frames es m e new b.number p.call p.start p.ended h step own replays

  after : (p : Option Pending) → MatchOption p (Unit {0}) (λ o. All (λ r. r.start < o.start) b.receipts)
      → MatchOption (option_map (noted_call new e.answer.ended.items (length es) b.number) p) (Unit {0}) (λ o. All (λ r. r.start < o.start) b.receipts)
  after None h = tt
  after (Some p) h = subst (λ (s : ℕ). All (λ (x : Receipt). x.start < s) b.receipts) (sym (start_noted new e.answer.ended.items (length es) b.number p.call p.start p.ended)) h

-- what is not known of the end of a call stays as it is
plain_call : (new : Machine) (ended : List ℕ) (place n : ℕ) (call : Call) (start : ℕ) (e : Option Ended) → unended (noted_call new ended place n (pend call start e)) ≡ pend call start None
plain_call new ended place n call start (Some e) = refl
plain_call new ended place n call start None =
    elim (is_among n ended) as (λ b. unended (if b then pend call start (Some (record { entry = place; reply = reply_in new n })) else pend call start None) ≡ pend call start None) [ true ↦ refl | false ↦ refl ]

plain_pending : (new : Machine) (ended : List ℕ) (place n : ℕ) (p : Option Pending) → option_map unended (option_map (noted_call new ended place n) p) ≡ option_map unended p
plain_pending new ended place n None = refl
plain_pending new ended place n (Some p) = ap (λ (o : Pending). Some o) (plain_call new ended place n p.call p.start p.ended)

pub plain_noted : (new : Machine) (ended : List ℕ) (place : ℕ) (books : List Book) → map plain (map (noted new ended place) books) ≡ map plain books
plain_noted new ended place [] = refl
plain_noted new ended place (b ∷ bs) = λ i. record b { pending = plain_pending new ended place b.number b.pending i } ∷ plain_noted new ended place bs i

pub numbers_noted : (new : Machine) (ended : List ℕ) (place : ℕ) (books : List Book) → numbers (map (noted new ended place) books) ≡ numbers books
numbers_noted new ended place [] = refl
numbers_noted new ended place (b ∷ bs) = ap (λ (l : List ℕ). b.number ∷ l) (numbers_noted new ended place bs)

-- A START

pub right_start : (frames : ℕ) (es : List Entry) (m : Machine) (e : Entry) (new : Machine) (b : Book) (call : Call) → IsRight frames es m b → b.pending ≡ None → e.step ≡ Start b.number call → Steps m e.step (Ok e.answer) new
    → Replays frames (es ++ e ∷ []) new → IsRight frames (es ++ e ∷ []) new (noted new e.answer.ended.items (length es) (record b { pending = Some (pend call (length es) None) }))
right_start frames es m e new b call r none is step replays = record {
  count = starts_append b.number es e ∙ (let one = one_starts b.number e.step (subst (StartsCall b.number) (sym is) refl) in let c = r.count in let d = ap pending_count none in omega (arith, one, c, d));
  receipts = All-weaker (Proves frames es b.number) (Proves frames (es ++ e ∷ []) b.number) (λ x p. proves_longer frames es (e ∷ []) b.number x p) b.receipts r.receipts;
  rising = r.rising;
  pending = waiting_noted frames es m e new b.number call (length es) e (get_last es e (length es) refl) is (omega arith)
      (λ k entry after at. elim (get_cases es e k entry at) [
        | inl old ↦ (let lt = slice_get_within es k entry old in absurd (omega (arith, lt, after)))
        | inr here ↦ (let same = here.0 in absurd (omega (arith, same, after)))
      ])
      (λ k entry from' at. (let lt = slice_get_within es k entry at in absurd (omega (arith, lt, from'))))
      (starts_waiting m new call e.answer b.number (subst (λ (s : Step). Steps m s (Ok e.answer) new) is step))
      (ended_replied m new e.step e.answer b.number step)
      replays;
  later = subst (λ (s : ℕ). All (λ (x : Receipt). x.start < s) b.receipts) (sym (start_noted new e.answer.ended.items (length es) b.number call (length es) None))
      (All-weaker (Proves frames es b.number) (λ (x : Receipt). x.start < length es) (λ x p. slice_get_within es x.start p.first p.start) b.receipts r.receipts);
}

pub numbers_set : (books : List Book) (place : ℕ) (b c : Book) → slice_get books place ≡ Some b → c.number ≡ b.number → numbers (slice_set books place c) ≡ numbers books
numbers_set [] place b c at same = refl
numbers_set (x ∷ xs) zero b c at same =
    let k : ◌≡◌ {A = Option Book} (Some x) (Some b) = at in
    let e : x ≡ b = cc in
    λ i. (same ∙ ap (λ (y : Book). y.number) (sym e)) i ∷ numbers xs
numbers_set (x ∷ xs) (suc place) b c at same = ap (λ (l : List ℕ). x.number ∷ l) (numbers_set xs place b c at same)

pub number_among : (books : List Book) (place : ℕ) (b : Book) → slice_get books place ≡ Some b → is_among b.number (numbers books) ≡ true
number_among [] place b at = absurd (let k : ◌≡◌ {A = Option Book} None (Some b) = at in cc)
number_among (x ∷ xs) zero b at =
    let k : ◌≡◌ {A = Option Book} (Some x) (Some b) = at in
    let e : x ≡ b = cc in
    ap (λ t. t || is_among b.number (numbers xs)) (eq-eqb x.number b.number (ap (λ (y : Book). y.number) e))
number_among (x ∷ xs) (suc place) b at =
    elim (nat_eq x.number b.number) as (λ t. (t || is_among b.number (numbers xs)) ≡ true) [ true ↦ refl | false ↦ number_among xs place b at ]
