-- The parts of a deletion: who is freed, who is gone, and whose calls ended.
use Rattle.std.proofs.Common.{◌≡◌, ◌≢◌, ℕ, suc, zero, ◌+◌, ◌<◌, ◌≤◌, ◌^◌, ◌==◌, nat_lt, Bool, true, false, cond, not, ◌||◌, ◌&&◌, ◌↔◌, if◌then◌else◌, List, [], ◌∷◌, ◌++◌, map, filter, take, drop, get_or, length, insert, Contains, Option, Some, None, refl, sym, ap, ◌∙◌, subst, slice_set, slice_index_or, slice_index, arith, inl, inr, eq-eqb, append_assoc, add-one}
use Rattle.std.specs.Option.{option_map, option_map_or}
use Rattle.std.specs.Ordering.{nat_cmp, eq_by_cmp}
use Rattle.std.specs.List.{refill}
use Rattle.std.specs.List.Sorted.{IsStrictlyIncreasing}
use Rattle.std.proofs.lemmas.Bool.{false≢true}
use Rattle.std.proofs.lemmas.Bool.Decides.{nat_tests}
use Rattle.std.proofs.lemmas.List.{at_drop_more, at_drop_all, take_more, drop_more}
use Rattle.l4_threads.specs.declared.Thread.{Thread}
use Rattle.l4_threads.specs.declared.Reply.{Reply}
use Rattle.l4_threads.specs.declared.State.{State}
use Rattle.l4_threads.specs.declared.State.TheVariants.{Running, Sending as Sends, Receiving as Receives}
use Rattle.l4_threads.specs.Threads.{Threads, thread_at, state_of, space_of, number_of, is_sending, is_running, failed}
use Rattle.l4_threads.specs.Inside.Ending.{frees, freed_reply, ends_at}
use Rattle.l4_threads.specs.Control.{freed, waits_for, without_partner, Deletes, waits, IsEndedList, HasEnded}
use Rattle.l4_threads.specs.Inside.Entries.{Entries, found, in_state, sends_in, freed_in, without_in, ends_with, rising_with, ended_in, has_space, IsTable}
use Rattle.l4_threads.specs.Queue.{is_in, IsOnce}
use Rattle.l4_threads.specs.Inside.Kept.{threads_of}
use Rattle.l4_threads.proofs.TableLemmas.{same_or, differ, same_of, found_here, found_further, found_absent, refill_same}
use Rattle.l4_threads.proofs.QueueLemmas.{and_true, or_true, or_left, or_right, both_true, is_in_head, is_in-filter, once-filter, precedes-filter, left_by, once-left_by}
use Rattle.l4_threads.proofs.ViewLemmas.{thread_at-threads_of, contains-pairs_of, thread_at_seen, sends-threads_of, order_seen}

-- A NUMBER IN A RISING LIST

-- the number goes behind those that it isn't below
pub goes_further : (xs : List ℕ) (i n : ℕ) → i < length xs → rising_with xs n ≡ take i xs ++ rising_with (drop i xs) n → get_or xs i 0 ≤ n
    → rising_with xs n ≡ take (i + 1) xs ++ rising_with (drop (i + 1) xs) n
goes_further xs i n lt so_far over =
    let test : nat_lt n (get_or xs i 0) ≡ false = grind (arith, nat_tests) in
    let step : rising_with (drop i xs) n ≡ get_or xs i 0 ∷ rising_with (drop (i + 1) xs) n =
    at_drop_more (λ l. rising_with l n) xs i 0 lt ∙ ap (λ b. if b then n ∷ (get_or xs i 0 ∷ drop (i + 1) xs) else get_or xs i 0 ∷ rising_with (drop (i + 1) xs) n) test in
    so_far ∙ ap (λ l. take i xs ++ l) step
    ∙ sym (append_assoc (take i xs) (get_or xs i 0 ∷ []) (rising_with (drop (i + 1) xs) n))
    ∙ ap (λ l. l ++ rising_with (drop (i + 1) xs) n) (sym (take_more xs i 0 lt))

pub goes_here : (xs : List ℕ) (i n : ℕ) → i < length xs → rising_with xs n ≡ take i xs ++ rising_with (drop i xs) n → n < get_or xs i 0 → insert xs i n ≡ rising_with xs n
goes_here xs i n lt so_far below =
    let test : nat_lt n (get_or xs i 0) ≡ true = grind (arith, nat_tests) in
    let step : rising_with (drop i xs) n ≡ n ∷ drop i xs =
    at_drop_more (λ l. rising_with l n) xs i 0 lt ∙ ap (λ b. if b then n ∷ (get_or xs i 0 ∷ drop (i + 1) xs) else get_or xs i 0 ∷ rising_with (drop (i + 1) xs) n) test
    ∙ ap (λ l. n ∷ l) (sym (drop_more xs i 0 lt)) in
    sym (so_far ∙ ap (λ l. take i xs ++ l) step)

pub goes_last : (xs : List ℕ) (i n : ℕ) → length xs ≤ i → i ≤ length xs → rising_with xs n ≡ take i xs ++ rising_with (drop i xs) n → insert xs (length xs) n ≡ rising_with xs n
goes_last xs i n le ge so_far =
    let same : i ≡ length xs = omega arith in
    let last : rising_with (drop i xs) n ≡ n ∷ drop i xs = at_drop_all (λ l. rising_with l n) xs i le ∙ ap (λ l. n ∷ l) (sym (at_drop_all (λ l. l) xs i le)) in
    sym (so_far ∙ ap (λ l. take i xs ++ l) last ∙ ap (λ k. insert xs k n) same)

-- every number of the list is above n
abbrev pub AllAbove : ℕ → List ℕ → Type 0
AllAbove n xs = (m : ℕ) → is_in xs m ≡ true → n < m

abbrev pub Rising : List ℕ → Type 0
Rising [] = Unit {0}
Rising (x ∷ xs) = AllAbove x xs × Rising xs

pub is_in-rising_with : (xs : List ℕ) (n q : ℕ) → is_in (rising_with xs n) q ≡ ((q == n) || is_in xs q)
is_in-rising_with [] n q = refl
is_in-rising_with (x ∷ xs) n q =
    elim (nat_lt n x) as (λ b. is_in (if b then n ∷ (x ∷ xs) else x ∷ rising_with xs n) q ≡ ((q == n) || ((q == x) || is_in xs q))) [
      | true ↦ refl
      | false ↦ ap (λ b. (q == x) || b) (is_in-rising_with xs n q) ∙ turn (q == x) (q == n) (is_in xs q)
    ] where
      turn : (a b c : Bool) → (a || (b || c)) ≡ (b || (a || c))
      turn true true c = refl
      turn true false c = refl
      turn false b c = refl

pub Rising-rising_with : (xs : List ℕ) (n : ℕ) → Rising xs → is_in xs n ≡ false → Rising (rising_with xs n)
Rising-rising_with [] n up out = (λ m h. absurd (false≢true h), tt)
Rising-rising_with (x ∷ xs) n up out =
    elim (nat_lt n x) as (λ b. nat_lt n x ≡ b → Rising (if b then n ∷ (x ∷ xs) else x ∷ rising_with xs n)) [
      | true ↦ λ t.
          let lt : n < x = grind (arith, nat_tests) in (
            λ m h. elim (or_true (m == x) (is_in xs m) h) [
              | inl is ↦ let e : m ≡ x = same_of m x is in omega arith
              | inr rest ↦ let more : x < m = up.0 m rest in omega arith
            ],
            up,
          )
      | false ↦ λ t.
          let le : x ≤ n = grind (arith, nat_tests) in
          let ne : n ≢ x = λ is. false≢true (sym out ∙ or_left _ _ (eq-eqb n x is)) in
          let out_rest : is_in xs n ≡ false = sym (ap (λ b. b || is_in xs n) (differ n x ne)) ∙ out in (
            λ m h. elim (or_true (m == n) (is_in xs m) (sym (is_in-rising_with xs n m) ∙ h)) [
              | inl is ↦ let e : m ≡ n = same_of m n is in omega arith
              | inr rest ↦ up.0 m rest
            ],
            Rising-rising_with xs n up.1 out_rest,
          )
    ] refl

-- a rising list by its places
pub rises : (xs : List ℕ) → Rising xs → IsStrictlyIncreasing xs
rises [] up k lt = absurd (omega arith)
rises (x ∷ []) up k lt = absurd (omega arith)
rises (x ∷ (y ∷ xs)) up zero lt = up.0 y (is_in_head y xs)
rises (x ∷ (y ∷ xs)) up (suc k) lt =
    let e : suc k + 1 ≡ suc (k + 1) = omega arith in
    subst (λ (j : ℕ). slice_index (y ∷ xs) k < slice_index (x ∷ (y ∷ xs)) j) (sym e) (rises (y ∷ xs) up.1 k (omega arith))

pub is_in-Contains : (xs : List ℕ) (n : ℕ) → is_in xs n ≡ true → Contains xs n
is_in-Contains [] n h = absurd (false≢true h)
is_in-Contains (x ∷ xs) n h =
    elim (or_true (n == x) (is_in xs n) h) [
      | inl is ↦ (0, omega arith, sym (same_of n x is))
      | inr rest ↦ let r = is_in-Contains xs n rest in (suc r.0, omega arith, r.2)
    ]

pub Contains-is_in : (xs : List ℕ) (n k : ℕ) → k < length xs → slice_index_or xs k n ≡ n → is_in xs n ≡ true
Contains-is_in [] n k lt at = absurd (omega arith)
Contains-is_in (x ∷ xs) n zero lt at = or_left _ _ (eq-eqb n x (sym at))
Contains-is_in (x ∷ xs) n (suc k) lt at = or_right (n == x) _ (Contains-is_in xs n k (omega arith) at)

-- WHOSE CALLS ENDED

pub ends_here : (es : Entries) (i v : ℕ) (e : ℕ × Thread) (ended : List ℕ) → i < length es → e ≡ get_or es i e → ended_in es v [] ≡ ended_in (drop i es) v ended → ends_with v e ≡ true
    → ended_in es v [] ≡ ended_in (drop (i + 1) es) v (rising_with ended e.0)
ends_here es i v e ended lt at so_far ends =
    so_far ∙ at_drop_more (λ l. ended_in l v ended) es i e lt ∙ ap (λ x. ended_in (x ∷ drop (i + 1) es) v ended) (sym at)
    ∙ ap (λ b. ended_in (drop (i + 1) es) v (if b then rising_with ended e.0 else ended)) ends

pub ends_not : (es : Entries) (i v : ℕ) (e : ℕ × Thread) (ended : List ℕ) → i < length es → e ≡ get_or es i e → ended_in es v [] ≡ ended_in (drop i es) v ended → ends_with v e ≡ false
    → ended_in es v [] ≡ ended_in (drop (i + 1) es) v ended
ends_not es i v e ended lt at so_far stays =
    so_far ∙ at_drop_more (λ l. ended_in l v ended) es i e lt ∙ ap (λ x. ended_in (x ∷ drop (i + 1) es) v ended) (sym at)
    ∙ ap (λ b. ended_in (drop (i + 1) es) v (if b then rising_with ended e.0 else ended)) stays

-- THE ONES THAT ARE FREED

freed_when : (v : ℕ) (t : Thread) → frees v t.state ≡ true → without_partner v t.state ≡ Running (Some (freed_reply t.state))
freed_when v t h = of_state t.state h where
  of_state : (s : State) → frees v s ≡ true → without_partner v s ≡ Running (Some (freed_reply s))
  of_state (Running reply) h = absurd (false≢true h)
  of_state (Sends s) h = ap (λ b. if b then Running (Some (failed s.fault 4)) else Sends s) h
  of_state (Receives r) h = ap (λ b. if b then Running (Some (failed r.fault 5)) else Receives r) h

kept_when : (v : ℕ) (s : State) → frees v s ≡ false → without_partner v s ≡ s
kept_when v (Running reply) h = refl
kept_when v (Sends s) h = ap (λ b. if b then Running (Some (failed s.fault 4)) else Sends s) h
kept_when v (Receives r) h = ap (λ b. if b then Running (Some (failed r.fault 5)) else Receives r) h

-- what stands at the place that comes next
next_stands : (old : Entries) (i v : ℕ) (d : ℕ × Thread) → i < length old → get_or (freed_in (take i old) v ++ drop i old) i d ≡ get_or old i d
next_stands [] i v d lt = absurd (omega arith)
next_stands (x ∷ old) zero v d lt = refl
next_stands (x ∷ old) (suc i) v d lt = next_stands old i v d (omega arith)

-- to write the freed thread there
next_freed : (old : Entries) (i v : ℕ) (d : ℕ × Thread) → i < length old
    → slice_set (freed_in (take i old) v ++ drop i old) i ((get_or old i d).0, freed v (get_or old i d).1) ≡ freed_in (take (suc i) old) v ++ drop (suc i) old
next_freed [] i v d lt = absurd (omega arith)
next_freed (x ∷ old) zero v d lt = refl
next_freed (x ∷ old) (suc i) v d lt = ap (λ l. (x.0, freed v x.1) ∷ l) (next_freed old i v d (omega arith))

next_kept : (old : Entries) (i v : ℕ) (d : ℕ × Thread) → i < length old → freed v (get_or old i d).1 ≡ (get_or old i d).1
    → freed_in (take i old) v ++ drop i old ≡ freed_in (take (suc i) old) v ++ drop (suc i) old
next_kept [] i v d lt same = absurd (omega arith)
next_kept (x ∷ old) zero v d lt same = λ j. (x.0, sym same j) ∷ old
next_kept (x ∷ old) (suc i) v d lt same = ap (λ l. (x.0, freed v x.1) ∷ l) (next_kept old i v d (omega arith) same)

same_read : (old : Entries) (i : ℕ) (d e : ℕ × Thread) → i < length old → get_or old i d ≡ get_or old i e
same_read [] i d e lt = absurd (omega arith)
same_read (x ∷ old) zero d e lt = refl
same_read (x ∷ old) (suc i) d e lt = same_read old i d e (omega arith)

pub frees_here : (old es new : Entries) (i v : ℕ) (d e x : ℕ × Thread) (reply : Reply) → i < length old → es ≡ freed_in (take i old) v ++ drop i old
    → frees v (get_or es i d).1.state ≡ true → reply ≡ freed_reply (get_or es i e).1.state
    → new ≡ slice_set es i ((get_or es i x).0, in_state (Running (Some reply)) (get_or es i x).1)
    → new ≡ freed_in (take (i + 1) old) v ++ drop (i + 1) old
frees_here old es new i v d e x reply lt is frees_it replies writes =
    let here : (d : ℕ × Thread) → get_or es i d ≡ get_or old i x = λ d. ap (λ (l : Entries). get_or l i d) is ∙ next_stands old i v d lt ∙ same_read old i d x lt in
    let it = get_or old i x in
    let state : without_partner v it.1.state ≡ Running (Some reply) =
    freed_when v it.1 (ap (λ (e : ℕ × Thread). frees v e.1.state) (sym (here d)) ∙ frees_it) ∙ ap (λ (e : ℕ × Thread). Running (Some (freed_reply e.1.state))) (sym (here e)) ∙ ap (λ (r : Reply). Running (Some r)) (sym replies) in
    writes
    ∙ (λ j. slice_set (is j) i ((here x j).0, in_state (sym state j) (here x j).1))
    ∙ next_freed old i v x lt
    ∙ ap (λ k. freed_in (take k old) v ++ drop k old) (sym (add-one i))

pub frees_not : (old es new : Entries) (i v : ℕ) (d : ℕ × Thread) → i < length old → es ≡ freed_in (take i old) v ++ drop i old
    → frees v (get_or es i d).1.state ≡ false → new ≡ es
    → new ≡ freed_in (take (i + 1) old) v ++ drop (i + 1) old
frees_not old es new i v d lt is stays same =
    let here : get_or es i d ≡ get_or old i d = ap (λ (l : Entries). get_or l i d) is ∙ next_stands old i v d lt in
    let x = get_or old i d in
    let state : without_partner v x.1.state ≡ x.1.state = kept_when v x.1.state (ap (λ (e : ℕ × Thread). frees v e.1.state) (sym here) ∙ stays) in
    same ∙ is ∙ next_kept old i v d lt (ap (λ (s : State). in_state s x.1) state)
    ∙ ap (λ k. freed_in (take k old) v ++ drop k old) (sym (add-one i))

length-freed_in : (es : Entries) (v : ℕ) → length (freed_in es v) ≡ length es
length-freed_in [] v = refl
length-freed_in (e ∷ es) v = ap suc (length-freed_in es v)

-- the table after the slice that was lent
pub freed_back : (es xs new : Entries) (size v : ℕ) → size ≡ length es → xs ≡ es → new ≡ freed_in xs v → refill size es new ≡ freed_in es v
freed_back es xs new size v long same frees_all =
    let all : new ≡ freed_in es v = frees_all ∙ ap (λ (l : Entries). freed_in l v) same in
    refill_same es new size long (ap length all ∙ length-freed_in es v) ∙ all

-- THE TABLE AFTERWARDS

pub found-freed_in : (es : Entries) (n q : ℕ) → found (freed_in es n) q ≡ option_map (freed n) (found es q)
found-freed_in [] n q = refl
found-freed_in (e ∷ es) n q =
    elim (same_or q e.0) [
      | inl is ↦ found_here (e.0, freed n e.1) (freed_in es n) q is ∙ ap (option_map (freed n)) (sym (found_here e es q is))
      | inr ne ↦ found_further (e.0, freed n e.1) (freed_in es n) q ne ∙ found-freed_in es n q ∙ ap (option_map (freed n)) (sym (found_further e es q ne))
    ]

pub found-without_in : (es : Entries) (n : ℕ) → found (without_in es n) n ≡ None
found-without_in [] n = refl
found-without_in (e ∷ es) n =
    elim (same_or e.0 n) [
      | inl is ↦ ap (λ b. found (cond (not b) (e ∷ without_in es n) (without_in es n)) n) (eq-eqb e.0 n is) ∙ found-without_in es n
      | inr ne ↦ ap (λ b. found (cond (not b) (e ∷ without_in es n) (without_in es n)) n) (differ e.0 n ne) ∙ found_further e (without_in es n) n (λ is. ne (sym is)) ∙ found-without_in es n
    ]

pub found-without_in_other : (es : Entries) (n q : ℕ) → q ≢ n → found (without_in es n) q ≡ found es q
found-without_in_other [] n q other = refl
found-without_in_other (e ∷ es) n q other =
    elim (same_or e.0 n) [
      | inl is ↦ ap (λ b. found (cond (not b) (e ∷ without_in es n) (without_in es n)) q) (eq-eqb e.0 n is) ∙ found-without_in_other es n q other ∙ sym (found_further e es q (λ h. other (h ∙ is)))
      | inr ne ↦ ap (λ b. found (cond (not b) (e ∷ without_in es n) (without_in es n)) q) (differ e.0 n ne) ∙ ap (λ rest. cond (eq_by_cmp nat_cmp q e.0) (Some e.1) rest) (found-without_in_other es n q other)
    ]

pub numbers-freed_in : (es : Entries) (n : ℕ) → map (λ e. e.0) (freed_in es n) ≡ map (λ e. e.0) es
numbers-freed_in [] n = refl
numbers-freed_in (e ∷ es) n = ap (λ rest. e.0 ∷ rest) (numbers-freed_in es n)

pub numbers-without_in : (es : Entries) (n : ℕ) → map (λ e. e.0) (without_in es n) ≡ left_by n (map (λ e. e.0) es)
numbers-without_in [] n = refl
numbers-without_in (e ∷ es) n =
    elim (not (e.0 == n)) as (λ b. map (λ x. x.0) (cond b (e ∷ without_in es n) (without_in es n)) ≡ cond b (e.0 ∷ left_by n (map (λ x. x.0) es)) (left_by n (map (λ x. x.0) es))) [
      | true ↦ ap (λ rest. e.0 ∷ rest) (numbers-without_in es n)
      | false ↦ numbers-without_in es n
    ]

length-gone : (es : Entries) (n : ℕ) → length (without_in (freed_in es n) n) ≤ length es
length-gone [] n = omega arith
length-gone (e ∷ es) n =
    let rest = length-gone es n in
    elim (not (e.0 == n)) as (λ b. length (cond b ((e.0, freed n e.1) ∷ without_in (freed_in es n) n) (without_in (freed_in es n) n)) ≤ suc (length es)) [ true ↦ omega arith | false ↦ omega arith ]

-- the table once the thread n is gone
abbrev pub gone_in : Entries → ℕ → Entries
gone_in es n = without_in (freed_in es n) n

pub found-gone_in_other : (es : Entries) (n q : ℕ) → q ≢ n → found (gone_in es n) q ≡ option_map (freed n) (found es q)
found-gone_in_other es n q ne = found-without_in_other (freed_in es n) n q ne ∙ found-freed_in es n q

kept_by_gone : (P : ℕ → Thread → Type 0) (n : ℕ) → ((m : ℕ) (thread : Thread) → P m thread → P m (freed n thread)) → (es : Entries)
    → ((m : ℕ) (thread : Thread) → found es m ≡ Some thread → P m thread) → (m : ℕ) (thread : Thread) → found (gone_in es n) m ≡ Some thread → P m thread
kept_by_gone P n same es each m thread at =
    elim (same_or m n) [
      | inl is ↦
          let k : ◌≡◌ {A = Option Thread} None (Some thread) = sym (ap (found (gone_in es n)) is ∙ found-without_in (freed_in es n) n) ∙ at in
          absurd (let e : ◌≡◌ {A = Option Thread} None (Some thread) = k in cc)
      | inr ne ↦
          elim (found es m) as (λ o. found es m ≡ o → option_map (freed n) o ≡ Some thread → P m thread) [
            | None ↦ λ _ h. absurd (let e : ◌≡◌ {A = Option Thread} None (Some thread) = h in cc)
            | Some old ↦ λ there h.
                let k : ◌≡◌ {A = Option Thread} (Some (freed n old)) (Some thread) = h in
                let v : freed n old ≡ thread = cc in
                subst (P m) v (same m old (each m old there))
          ] refl (sym (found-gone_in_other es n m ne) ∙ at)
    ]

quiet_stays : (n : ℕ) (s : State) → is_sending (without_partner n s) ≡ true → is_sending s ≡ true
quiet_stays n (Running reply) h = h
quiet_stays n (Sends s) h = refl
quiet_stays n (Receives r) h =
    elim (waits_for n r.«from») as (λ b. is_sending (if b then Running (Some (failed r.fault 5)) else Receives r) ≡ true → false ≡ true) [ true ↦ λ k. k | false ↦ λ k. k ] h

-- who sends afterwards sent before
sent_before : (es : Entries) (n q : ℕ) → sends_in (gone_in es n) q ≡ true → sends_in es q ≡ true
sent_before es n q h =
    elim (same_or q n) [
      | inl is ↦ absurd (false≢true (sym (ap (λ o. option_map_or is_sending (option_map (λ thread. thread.state) o) false) (ap (found (gone_in es n)) is ∙ found-without_in (freed_in es n) n)) ∙ h))
      | inr ne ↦ each (found es q) (sym (ap (λ o. option_map_or is_sending (option_map (λ thread. thread.state) o) false) (found-gone_in_other es n q ne)) ∙ h)
    ] where
      each : (o : Option Thread) → option_map_or is_sending (option_map (λ thread. thread.state) (option_map (freed n) o)) false ≡ true → option_map_or is_sending (option_map (λ thread. thread.state) o) false ≡ true
      each None k = k
      each (Some t) k = quiet_stays n t.state k

pub gone_table : (es : Entries) (queue : List ℕ) (next n : ℕ) → IsTable es queue next → IsTable (gone_in es n) (filter (sends_in (gone_in es n)) queue) next
gone_table es queue next n table = record {
  once = subst IsOnce (sym (numbers-without_in (freed_in es n) n ∙ ap (left_by n) (numbers-freed_in es n))) (once-left_by n (map (λ e. e.0) es) table.once);
  number = kept_by_gone (λ m thread. number_of thread.id ≡ m) n (λ m thread h. h) es table.number;
  small = kept_by_gone (λ m thread. m < 2 ^ 18) n (λ m thread h. h) es table.small;
  space = kept_by_gone (λ m thread. thread.space < next) n (λ m thread h. h) es table.space;
  few = let less = length-gone es n in let few = table.few in omega arith;
  fits = table.fits;
  queue_once = once-filter (sends_in (gone_in es n)) queue table.queue_once;
  queued = λ q. is_in-filter (sends_in (gone_in es n)) queue q
      ∙ elim (sends_in (gone_in es n) q) as (λ b. sends_in (gone_in es n) q ≡ b → (is_in queue q && b) ≡ b) [
        | true ↦ λ h. ap (λ b. b && true) (table.queued q ∙ sent_before es n q h)
        | false ↦ λ _. and_false (is_in queue q)
      ] refl;
} where
  and_false : (b : Bool) → (b && false) ≡ false
  and_false true = refl
  and_false false = refl

pub deletes : (es : Entries) (queue : List ℕ) (next n : ℕ) (old : Threads) → threads_of es queue next ≡ old
    → Deletes n old (threads_of (gone_in es n) (filter (sends_in (gone_in es n)) queue) next)
deletes es queue next n old is =
    let later = filter (sends_in (gone_in es n)) queue in
    let new = threads_of (gone_in es n) later next in
    record {
      threads = λ other. thread_at-threads_of (gone_in es n) later next other ∙ elim (same_or other n) [
        | inl same ↦
            ap (found (gone_in es n)) same ∙ found-without_in (freed_in es n) n
            ∙ ap (λ b. if b then None else option_map (freed n) (thread_at old other)) (sym (eq-eqb other n same))
        | inr ne ↦
            found-gone_in_other es n other ne ∙ ap (option_map (freed n)) (sym (thread_at_seen es queue next old is other))
            ∙ ap (λ b. if b then None else option_map (freed n) (thread_at old other)) (sym (differ other n ne))
      ];
      queue = λ a b.
          contains-pairs_of later a b ∙ precedes-filter (sends_in (gone_in es n)) queue a b
          ∙ (λ i. sym (order_seen es queue next old is a b) i && (sym (sends-threads_of (gone_in es n) later next a) i && sym (sends-threads_of (gone_in es n) later next b) i));
      next_space = ap (λ (t : Threads). t.next_space) is;
    }

-- THE LIST OF THOSE WHOSE CALLS ENDED

abbrev pub ends_found : Entries → ℕ → ℕ → Bool
ends_found es v q = option_map_or (λ (t : Thread). ends_with v (q, t)) (found es q) false

pub ended_list : (es : Entries) (v : ℕ) (ended : List ℕ) → IsOnce (map (λ e. e.0) es) → Rising ended → ((m : ℕ) → is_in ended m ≡ true → is_in (map (λ e. e.0) es) m ≡ false)
    → Rising (ended_in es v ended) × ((q : ℕ) → is_in (ended_in es v ended) q ≡ (is_in ended q || ends_found es v q))
ended_list [] v ended once up apart = (up, λ q. sym (or_false (is_in ended q))) where
  or_false : (b : Bool) → (b || false) ≡ b
  or_false true = refl
  or_false false = refl
ended_list (e ∷ es) v ended once up apart =
    let out : is_in ended e.0 ≡ false = not_in (is_in ended e.0) refl in
    elim (ends_with v e) as (λ b. ends_with v e ≡ b → Rising (ended_in es v (if b then rising_with ended e.0 else ended)) × ((q : ℕ) → is_in (ended_in es v (if b then rising_with ended e.0 else ended)) q ≡ (is_in ended q || ends_found (e ∷ es) v q))) [
      | true ↦ λ t.
          let rest = ended_list es v (rising_with ended e.0) once.1 (Rising-rising_with ended e.0 up out) (λ m h.
          elim (or_true (m == e.0) (is_in ended m) (sym (is_in-rising_with ended e.0 m) ∙ h)) [
            | inl is ↦ ap (is_in (map (λ x. x.0) es)) (same_of m e.0 is) ∙ once.0
            | inr old ↦ further m old
          ]) in (
            rest.0,
            λ q. rest.1 q ∙ ap (λ b. b || ends_found es v q) (is_in-rising_with ended e.0 q) ∙ elim (same_or q e.0) [
              | inl is ↦
                  ap (λ b. (b || is_in ended q) || ends_found es v q) (eq-eqb q e.0 is)
                  ∙ sym (ap (λ b. is_in ended q || b) (here q is ∙ t) ∙ or_yes (is_in ended q))
              | inr ne ↦
                  ap (λ b. (b || is_in ended q) || ends_found es v q) (differ q e.0 ne)
                  ∙ ap (λ o. is_in ended q || option_map_or (λ (t : Thread). ends_with v (q, t)) o false) (sym (found_further e es q ne))
            ],
          )
      | false ↦ λ t.
          let rest = ended_list es v ended once.1 up further in (
            rest.0,
            λ q. rest.1 q ∙ elim (same_or q e.0) [
              | inl is ↦
                  ap (λ o. is_in ended q || option_map_or (λ (t : Thread). ends_with v (q, t)) o false) (found_absent es q (ap (is_in (map (λ x. x.0) es)) is ∙ once.0))
                  ∙ ap (λ b. is_in ended q || b) (sym (here q is ∙ t))
              | inr ne ↦ ap (λ o. is_in ended q || option_map_or (λ (t : Thread). ends_with v (q, t)) o false) (sym (found_further e es q ne))
            ],
          )
    ] refl where
      or_yes : (b : Bool) → (b || true) ≡ true
      or_yes true = refl
      or_yes false = refl

      not_in : (b : Bool) → is_in ended e.0 ≡ b → b ≡ false
      not_in true h = absurd (false≢true (sym (apart e.0 h) ∙ is_in_head e.0 (map (λ x. x.0) es)))
      not_in false h = refl

      further : (m : ℕ) → is_in ended m ≡ true → is_in (map (λ x. x.0) es) m ≡ false
      further m h = rest_no (m == e.0) (is_in (map (λ x. x.0) es) m) (apart m h) where
        rest_no : (a b : Bool) → (a || b) ≡ false → b ≡ false
        rest_no true b k = absurd (false≢true (sym k))
        rest_no false b k = k

      here : (q : ℕ) → q ≡ e.0 → ends_found (e ∷ es) v q ≡ ends_with v e
      here q is = ap (λ o. option_map_or (λ (t : Thread). ends_with v (q, t)) o false) (found_here e es q is) ∙ ap (λ k. ends_with v (k, e.1)) is

pub ends_seen : (es : Entries) (queue : List ℕ) (next v n : ℕ) (t : Threads) → threads_of es queue next ≡ t → ends_found es v n ≡ ends_at t v n
ends_seen es queue next v n t is = each (found es n) ∙ ap (λ (o : Option Thread). option_map_or (λ state. not (is_running state) && ((n == v) || frees v state)) (option_map (λ thread. thread.state) o) false) (sym (thread_at_seen es queue next t is n)) where
  each : (o : Option Thread) → option_map_or (λ (t : Thread). ends_with v (n, t)) o false ≡ option_map_or (λ state. not (is_running state) && ((n == v) || frees v state)) (option_map (λ thread. thread.state) o) false
  each None = refl
  each (Some t) = refl

-- WHO WAITED AND RUNS

state_later : (old new : Threads) (v : ℕ) → Deletes v old new → (n : ℕ) → n ≢ v → state_of new n ≡ option_map (without_partner v) (state_of old n)
state_later old new v d n ne =
    ap (option_map (λ thread. thread.state)) (d.threads n ∙ ap (λ b. if b then None else option_map (freed v) (thread_at old n)) (differ n v ne)) ∙ each (thread_at old n) where
      each : (o : Option Thread) → option_map (λ thread. thread.state) (option_map (freed v) o) ≡ option_map (without_partner v) (option_map (λ thread. thread.state) o)
      each None = refl
      each (Some t) = refl

runs_freed : (v : ℕ) (s : State) → frees v s ≡ true → is_running (without_partner v s) ≡ true
runs_freed v (Running reply) h = refl
runs_freed v (Sends s) h = ap (λ b. is_running (if b then Running (Some (failed s.fault 4)) else Sends s)) h
runs_freed v (Receives r) h = ap (λ b. is_running (if b then Running (Some (failed r.fault 5)) else Receives r)) h

freed_runs : (v : ℕ) (s : State) → is_running s ≡ false → is_running (without_partner v s) ≡ true → frees v s ≡ true
freed_runs v s quiet runs =
    elim (frees v s) as (λ b. frees v s ≡ b → b ≡ true) [
      | true ↦ λ _. refl
      | false ↦ λ h. absurd (false≢true (sym quiet ∙ ap is_running (sym (kept_when v s h)) ∙ runs))
    ] refl

negated : (b : Bool) → not b ≡ true → b ≡ false
negated true h = absurd (false≢true h)
negated false h = refl

-- the victim's wait ended, and so did each that is freed
abbrev HasEndedWait : Threads → Threads → ℕ → Type 0
HasEndedWait old new n = waits old n × ¬ (waits new n)

running_now : (b : Bool) → b ≡ true → ¬ (◌≡◌ {A = Option Bool} (Some b) (Some false))
running_now b runs h = let e : ◌≡◌ {A = Option Bool} (Some true) (Some false) = ap (λ x. Some x) (sym runs) ∙ h in cc

not_false : (b : Bool) → ¬ (b ≡ false) → b ≡ true
not_false true h = refl
not_false false h = absurd (h refl)

ended_wait_is : (old new : Threads) (v n : ℕ) → Deletes v old new → (ends_at old v n ≡ true) ↔ HasEndedWait old new n
ended_wait_is old new v n d = (there (state_of old n) refl, back) where
  later : (s : State) → state_of old n ≡ Some s → n ≢ v → option_map is_running (state_of new n) ≡ Some (is_running (without_partner v s))
  later s at ne = ap (option_map is_running) (state_later old new v d n ne ∙ ap (option_map (without_partner v)) at)

  gone : n ≡ v → ¬ (waits new n)
  gone is h =
      let none : state_of new n ≡ None = ap (option_map (λ (t : Thread). t.state)) (d.threads n ∙ ap (λ b. if b then None else option_map (freed v) (thread_at old n)) (eq-eqb n v is)) in
      let e : ◌≡◌ {A = Option Bool} None (Some false) = ap (option_map is_running) (sym none) ∙ h in
      cc

  there : (o : Option State) → state_of old n ≡ o → option_map_or (λ state. not (is_running state) && ((n == v) || frees v state)) o false ≡ true → HasEndedWait old new n
  there None at h = absurd (false≢true h)
  there (Some s) at h =
      let both = and_true (not (is_running s)) ((n == v) || frees v s) h in
      let waiting : waits old n = ap (option_map is_running) at ∙ ap (λ b. Some b) (negated (is_running s) both.0) in
      elim (same_or n v) [
        | inl is ↦ (waiting, gone is)
        | inr ne ↦
            elim (or_true (n == v) (frees v s) both.1) [
              | inl is ↦ absurd (ne (same_of n v is))
              | inr f ↦ (waiting, λ w. running_now (is_running (without_partner v s)) (runs_freed v s f) (sym (later s at ne) ∙ w))
            ]
      ]

  quiet_state : (o : Option State) → option_map is_running o ≡ Some false → (s : State) × (o ≡ Some s) × (is_running s ≡ false)
  quiet_state None h = absurd (let e : ◌≡◌ {A = Option Bool} None (Some false) = h in cc)
  quiet_state (Some s) h = let e : ◌≡◌ {A = Option Bool} (Some (is_running s)) (Some false) = h in (s, refl, cc)

  back : HasEndedWait old new n → ends_at old v n ≡ true
  back h =
      let q = quiet_state (state_of old n) h.0 in
      let which : ((n == v) || frees v q.0) ≡ true = elim (same_or n v) [
        | inl is ↦ or_left (n == v) _ (eq-eqb n v is)
        | inr ne ↦
            or_right (n == v) _ (freed_runs v q.0 q.2
            (not_false (is_running (without_partner v q.0)) (λ quiet. h.1 (later q.0 q.1 ne ∙ ap (λ b. Some b) quiet))))
      ] in
      ap (λ o. option_map_or (λ state. not (is_running state) && ((n == v) || frees v state)) o false) q.1
      ∙ both_true (not (is_running q.0)) _ (ap not q.2) which

pub ended_list_is : (old new : Threads) (v : ℕ) (ended : List ℕ) → Deletes v old new → IsStrictlyIncreasing ended → ((n : ℕ) → is_in ended n ≡ ends_at old v n) → IsEndedList old new ended
ended_list_is old new v ended d up each = record {
  rising = up;
  each = λ n. (
    λ c. (ended_wait_is old new v n d).0 (sym (each n) ∙ Contains-is_in ended n c.0 c.1 (get_here ended n c.0 c.1 c.2)),
    λ h. is_in-Contains ended n (each n ∙ (ended_wait_is old new v n d).1 h),
  );
} where
  get_here : (xs : List ℕ) (n k : ℕ) → k < length xs → slice_index_or xs k n ≡ n → slice_index_or xs k n ≡ n
  get_here xs n k lt h = h

-- THE SPACE

pub space_used : (es : Entries) (space : ℕ) → IsOnce (map (λ e. e.0) es) → has_space es space ≡ true → (n : ℕ) × (t : Thread) × (found es n ≡ Some t) × (t.space ≡ space)
space_used [] space once h = absurd (false≢true h)
space_used (e ∷ es) space once h =
    elim (or_true (e.1.space == space) (has_space es space) h) [
      | inl is ↦ (e.0, e.1, found_here e es e.0 refl, same_of e.1.space space is)
      | inr rest ↦
          let r = space_used es space once.1 rest in
          let ne : r.0 ≢ e.0 = λ is.
          let k : ◌≡◌ {A = Option Thread} None (Some r.1) = sym (found_absent es r.0 (ap (is_in (map (λ x. x.0) es)) is ∙ once.0)) ∙ r.2 in
          (let e : ◌≡◌ {A = Option Thread} None (Some r.1) = k in cc) in
          (r.0, r.1, found_further e es r.0 ne ∙ r.2, r.3)
    ]

pub space_unused : (es : Entries) (space : ℕ) → has_space es space ≡ false → (n : ℕ) (t : Thread) → found es n ≡ Some t → t.space ≢ space
space_unused [] space h n t at is = let k : ◌≡◌ {A = Option Thread} None (Some t) = at in cc
space_unused (e ∷ es) space h n t at is =
    elim (same_or n e.0) [
      | inl same ↦
          let k : ◌≡◌ {A = Option Thread} (Some e.1) (Some t) = sym (found_here e es n same) ∙ at in
          let v : e.1 ≡ t = cc in
          false≢true (sym h ∙ or_left _ _ (eq-eqb e.1.space space (ap (λ (t : Thread). t.space) v ∙ is)))
      | inr ne ↦ space_unused es space (rest_no (e.1.space == space) (has_space es space) h) n t (sym (found_further e es n ne) ∙ at) is
    ] where
      rest_no : (a b : Bool) → (a || b) ≡ false → b ≡ false
      rest_no true b k = absurd (false≢true (sym k))
      rest_no false b k = k

module _ (es : Entries) (queue : List ℕ) (next : ℕ) (t : Threads) (table : IsTable es queue next) (is : threads_of es queue next ≡ t) (space : ℕ) where
  pub used_seen : has_space es space ≡ true → (n : ℕ) × (space_of t n ≡ Some space)
  used_seen h =
      let r = space_used es space table.once h in
      (r.0, ap (option_map (λ thread. thread.space)) (thread_at_seen es queue next t is r.0 ∙ r.2) ∙ ap (λ s. Some s) r.3)

  pub unused_seen : has_space es space ≡ false → HasEnded t space
  unused_seen h n there = each (found es n) refl (ap (option_map (λ thread. thread.space)) (sym (thread_at_seen es queue next t is n)) ∙ there) where
    each : (o : Option Thread) → found es n ≡ o → option_map (λ thread. thread.space) o ≡ Some space → ⊥
    each None at k = let e : ◌≡◌ {A = Option ℕ} None (Some space) = k in cc
    each (Some thread) at k =
        let e : ◌≡◌ {A = Option ℕ} (Some thread.space) (Some space) = k in
        let v : thread.space ≡ space = cc in
        space_unused es space h n thread at v
