-- What a contract sees of the table and the queue, and what each step makes of it.
use Rattle.std.proofs.Common.{◌≡◌, ◌≢◌, ℕ, ◌<◌, ◌≤◌, ◌^◌, ◌==◌, Bool, true, false, not, ◌||◌, ◌&&◌, if◌then◌else◌, List, [], ◌∷◌, ◌++◌, map, length, Option, Some, None, refl, sym, ap, ◌∙◌, subst, arith, inl, inr, eq-eqb, IsSome, T, length-append, option_and_then}
use Rattle.std.proofs.lemmas.List.{length-map}
use Rattle.std.specs.Option.{option_map, option_map_or}
use Rattle.std.specs.Ordering.{nat_cmp, eq_by_cmp, ordering_then, is_eq, is_lt}
use Rattle.std.specs.declared.cmp.Ordering.{Ordering}
use Rattle.std.specs.declared.cmp.Ordering.TheVariants.{Less, Equal, Greater}
use Rattle.std.specs.Cmp.{unsigned_tied, nat_cmp_total, ranked}
use Rattle.std.specs.List.{list_any, filter_map, cons_option}
use Rattle.std.specs.FinMap as fin
use Rattle.std.specs.FinMap.Entries.{below_all}
use Rattle.std.specs.FinSet as set
use Rattle.std.proofs.lemmas.Bool.{false≢true}
use Rattle.l4_threads.specs.declared.Thread.{Thread}
use Rattle.l4_threads.specs.declared.State.{State}
use Rattle.l4_threads.specs.declared.State.TheVariants.{Running, Sending as Sends, Receiving as Receives}
use Rattle.l4_threads.specs.declared.Sending.{Sending}
use Rattle.l4_threads.specs.declared.ThreadId.{ThreadId}
use Rattle.l4_threads.specs.Control.{with_pager}
use Rattle.l4_threads.specs.Threads.{Threads, pair_cmp, thread_at, state_of, named, number_of, is_sending, is_running, sends, runs, senders, with_state, out_of_queue, start_send, IsConsistent}
use Rattle.l4_threads.specs.Inside.Entries.{Entries, found, changed_in, in_state, in_pager, precedes, sends_in, IsTable}
use Rattle.l4_threads.specs.Queue.{pairs_of, is_in, IsOnce}
use Rattle.l4_threads.specs.Inside.Kept.{threads_of}
use Rattle.l4_threads.proofs.TableLemmas.{same_or, differ, same_of, found_here, found_further, found_absent, found-changed_in, found-changed_in_other, numbers-changed_in, length-changed_in, map-changed_in, map-length}
use Rattle.l4_threads.proofs.QueueLemmas.{is_in-push, left_by, is_in-left_by, once-push, once-left_by, precedes_in, precedes_irreflexive, precedes_transitive, precedes_total, precedes-left_by, once_fits, or_true}
use Rattle.l4_threads.proofs.QueuePairs.{pairs_total, exact_number_pairs, any_append, pairs_push}

-- THE THREADS

pub thread_at-threads_of : (es : Entries) (queue : List ℕ) (next n : ℕ) → thread_at (threads_of es queue next) n ≡ found es n
thread_at-threads_of es queue next n = fin.get-from_entries nat_cmp_total es n

pub state_of-threads_of : (es : Entries) (queue : List ℕ) (next n : ℕ) → state_of (threads_of es queue next) n ≡ option_map (λ thread. thread.state) (found es n)
state_of-threads_of es queue next n = ap (option_map (λ thread. thread.state)) (thread_at-threads_of es queue next n)

pub sends-threads_of : (es : Entries) (queue : List ℕ) (next n : ℕ) → sends (threads_of es queue next) n ≡ sends_in es n
sends-threads_of es queue next n = ap (λ o. option_map_or is_sending o false) (state_of-threads_of es queue next n)

-- THE PAIRS

is_eq-then : (o p : Ordering) → is_eq (ordering_then o p) ≡ (is_eq o && is_eq p)
is_eq-then Less p = refl
is_eq-then Equal p = refl
is_eq-then Greater p = refl

pub tied_pair : (a b x y : ℕ) → eq_by_cmp pair_cmp (a, b) (x, y) ≡ ((a == x) && (b == y))
tied_pair a b x y = is_eq-then (nat_cmp a x) (nat_cmp b y) ∙ (λ i. unsigned_tied a x i && unsigned_tied b y i)

any-later : (a b x : ℕ) (rest : List ℕ) → list_any (eq_by_cmp pair_cmp (a, b)) (map (λ y. (x, y)) rest) ≡ ((a == x) && is_in rest b)
any-later a b x [] = sym (and_false (a == x)) where
  and_false : (t : Bool) → (t && false) ≡ false
  and_false true = refl
  and_false false = refl
any-later a b x (y ∷ rest) =
    (λ i. tied_pair a b x y i || any-later a b x rest i) ∙ sym (spread (a == x) (b == y) (is_in rest b)) where
      spread : (t u v : Bool) → (t && (u || v)) ≡ ((t && u) || (t && v))
      spread true u v = refl
      spread false u v = refl

any-earlier : (a b y : ℕ) (front : List ℕ) → list_any (eq_by_cmp pair_cmp (a, b)) (map (λ x. (x, y)) front) ≡ (is_in front a && (b == y))
any-earlier a b y [] = refl
any-earlier a b y (x ∷ front) =
    (λ i. tied_pair a b x y i || any-earlier a b y front i) ∙ sym (spread (a == x) (is_in front a) (b == y)) where
      spread : (t u v : Bool) → ((t || u) && v) ≡ ((t && v) || (u && v))
      spread true true true = refl
      spread true true false = refl
      spread true false true = refl
      spread true false false = refl
      spread false u v = refl

any-pairs_of : (queue : List ℕ) (a b : ℕ) → list_any (eq_by_cmp pair_cmp (a, b)) (pairs_of queue) ≡ precedes queue a b
any-pairs_of [] a b = refl
any-pairs_of (x ∷ rest) a b =
    any_append (eq_by_cmp pair_cmp (a, b)) (map (λ y. (x, y)) rest) (pairs_of rest)
    ∙ (λ i. any-later a b x rest i || any-pairs_of rest a b i)

-- the pairs of a queue are those of numbers of which one stands before the other
pub contains-pairs_of : (queue : List ℕ) (a b : ℕ) → set.contains (set.from_list {R = pair_cmp} (pairs_of queue)) (a, b) ≡ precedes queue a b
contains-pairs_of queue a b = set.contains-from_list pairs_total (pairs_of queue) (a, b) ∙ any-pairs_of queue a b

-- the pairs of a queue that a thread has left
pub pairs-left_by : (n : ℕ) (queue : List ℕ) → set.from_list {R = pair_cmp} (pairs_of (left_by n queue)) ≡ set.retain (set.from_list (pairs_of queue)) (λ p. not (p.0 == n) && not (p.1 == n))
pairs-left_by n queue =
    set.same_set pairs_total exact_number_pairs _ _ (λ q.
    contains-pairs_of (left_by n queue) q.0 q.1 ∙ precedes-left_by n queue q.0 q.1
    ∙ ap (λ b. b && (not (q.0 == n) && not (q.1 == n))) (sym (contains-pairs_of queue q.0 q.1))
    ∙ sym (set.contains-retain (set.from_list (pairs_of queue)) (λ p. not (p.0 == n) && not (p.1 == n)) q
    (λ x t. ap (λ (p : ℕ × ℕ). not (p.0 == n) && not (p.1 == n)) (sym (exact_number_pairs q x t)))))

-- to stand behind each of one list is to stand behind each of another with the same numbers
behind_same : (front other : List ℕ) (n : ℕ) → ((m : ℕ) → is_in front m ≡ is_in other m) → set.from_list {R = pair_cmp} (map (λ m. (m, n)) front) ≡ set.from_list (map (λ m. (m, n)) other)
behind_same front other n same =
    set.same_set pairs_total exact_number_pairs _ _ (λ q.
    set.contains-from_list pairs_total (map (λ m. (m, n)) front) q ∙ any-earlier q.0 q.1 n front
    ∙ ap (λ b. b && (q.1 == n)) (same q.0)
    ∙ sym (set.contains-from_list pairs_total (map (λ m. (m, n)) other) q ∙ any-earlier q.0 q.1 n other))

-- THE SENDERS

abbrev sending_number : ℕ × Thread → Option ℕ
sending_number e = if is_sending e.1.state then Some e.0 else None

less_apart : (a b : ℕ) → T (is_lt (nat_cmp a b)) → a ≢ b
less_apart a b h =
    elim (nat_cmp a b) as (λ o. o ≡ nat_cmp a b → T (is_lt o) → a ≢ b) [
      | Less ↦ λ e _. let lt : a < b = ranked a b Less e in omega arith
      | Equal ↦ λ e h. absurd h
      | Greater ↦ λ e h. absurd h
    ] refl h

first : (a b : Bool) → T (a && b) → T a
first true b h = tt
first false b h = absurd h

second : (a b : Bool) → T (a && b) → T b
second true b h = h
second false b h = absurd h

-- a number below all of a list in order is in it nowhere
missed : (q : ℕ) (es : Entries) → T (below_all nat_cmp q es) → (found es q ≡ None) × (is_in (filter_map sending_number es) q ≡ false)
missed q [] h = (refl, refl)
missed q (e ∷ es) h =
    let ne = less_apart q e.0 (first _ _ h) in
    let rest = missed q es (second _ _ h) in (
      found_further e es q ne ∙ rest.0,
      elim (is_sending e.1.state) as (λ b. is_in (cons_option (if b then Some e.0 else None) (filter_map sending_number es)) q ≡ false) [
        | true ↦ ap (λ b. b || is_in (filter_map sending_number es) q) (differ q e.0 ne) ∙ rest.1
        | false ↦ rest.1
      ],
    )

-- the senders of a list in order
is_in-sending : (es : Entries) → T (fin.is_sorted nat_cmp es) → (q : ℕ) → is_in (filter_map sending_number es) q ≡ sends_in es q
is_in-sending [] h q = refl
is_in-sending (e ∷ es) h q =
    elim (same_or q e.0) [
      | inl is ↦
          let here : sends_in (e ∷ es) q ≡ is_sending e.1.state = ap (λ o. option_map_or is_sending (option_map (λ thread. thread.state) o) false) (found_here e es q is) in
          elim (is_sending e.1.state) as (λ b. is_in (cons_option (if b then Some e.0 else None) (filter_map sending_number es)) q ≡ b) [
            | true ↦ ap (λ b. b || is_in (filter_map sending_number es) q) (eq-eqb q e.0 is)
            | false ↦ ap (is_in (filter_map sending_number es)) is ∙ (missed e.0 es (first _ _ h)).1
          ] ∙ sym here
      | inr ne ↦
          elim (is_sending e.1.state) as (λ b. is_in (cons_option (if b then Some e.0 else None) (filter_map sending_number es)) q ≡ is_in (filter_map sending_number es) q) [
            | true ↦ ap (λ b. b || is_in (filter_map sending_number es) q) (differ q e.0 ne)
            | false ↦ refl
          ]
          ∙ is_in-sending es (second _ _ h) q
          ∙ ap (λ o. option_map_or is_sending (option_map (λ thread. thread.state) o) false) (sym (found_further e es q ne))
    ]

pub is_in-senders : (t : Threads) (q : ℕ) → is_in (senders t) q ≡ sends t q
is_in-senders t q =
    is_in-sending (fin.entries t.threads) (fin.entries_sorted t.threads) q
    ∙ ap (λ o. option_map_or is_sending (option_map (λ thread. thread.state) o) false) (sym (fin.get-entries t.threads q))

-- THE STEPS

-- a fact that a change keeps is kept where one thread is changed
kept_by_change : (P : ℕ → Thread → Type 0) (f : Thread → Thread) → ((m : ℕ) (thread : Thread) → P m thread → P m (f thread))
    → (es : Entries) (n : ℕ) → ((m : ℕ) (thread : Thread) → found es m ≡ Some thread → P m thread)
    → (m : ℕ) (thread : Thread) → found (changed_in es n f) m ≡ Some thread → P m thread
kept_by_change P f same es n each m thread at =
    elim (same_or m n) [
      | inl is ↦
          let was : option_map f (found es n) ≡ Some thread = sym (found-changed_in es n f) ∙ ap (found (changed_in es n f)) (sym is) ∙ at in
          elim (found es n) as (λ o. found es n ≡ o → option_map f o ≡ Some thread → P m thread) [
            | None ↦ λ _ h. absurd (let k : ◌≡◌ {A = Option Thread} None (Some thread) = h in cc)
            | Some old ↦ λ there h.
                let k : ◌≡◌ {A = Option Thread} (Some (f old)) (Some thread) = h in
                let v : f old ≡ thread = cc in
                subst (P m) v (same m old (each m old (ap (found es) is ∙ there)))
          ] refl was
      | inr ne ↦ each m thread (sym (found-changed_in_other es n f m ne) ∙ at)
    ]

sends-with_state_in : (es : Entries) (n : ℕ) (t : Thread) (s : State) → found es n ≡ Some t → sends_in (changed_in es n (in_state s)) n ≡ is_sending s
sends-with_state_in es n t s there = ap (λ o. option_map_or is_sending (option_map (λ thread. thread.state) o) false) (found-changed_in es n (in_state s) ∙ ap (option_map (in_state s)) there)

sends-with_state_in_other : (es : Entries) (n : ℕ) (s : State) (q : ℕ) → q ≢ n → sends_in (changed_in es n (in_state s)) q ≡ sends_in es q
sends-with_state_in_other es n s q ne = ap (λ o. option_map_or is_sending (option_map (λ thread. thread.state) o) false) (found-changed_in_other es n (in_state s) q ne)

module _ (es : Entries) (queue : List ℕ) (next n : ℕ) (t : Thread) (s : State) (table : IsTable es queue next) (there : found es n ≡ Some t) where
  -- with another queue, which has just the senders
  with_queue : (later : List ℕ) → IsOnce later → ((q : ℕ) → is_in later q ≡ sends_in (changed_in es n (in_state s)) q) → IsTable (changed_in es n (in_state s)) later next
  with_queue later once queued = record {
    once = subst IsOnce (sym (numbers-changed_in es n (in_state s))) table.once;
    number = kept_by_change (λ m thread. number_of thread.id ≡ m) (in_state s) (λ m thread h. h) es n table.number;
    small = kept_by_change (λ m thread. m < 2 ^ 18) (in_state s) (λ m thread h. h) es n table.small;
    space = kept_by_change (λ m thread. thread.space < next) (in_state s) (λ m thread h. h) es n table.space;
    few = subst (λ (k : ℕ). k ≤ 64) (sym (length-changed_in es n (in_state s))) table.few;
    fits = table.fits;
    queue_once = once;
    queued = queued;
  }

  -- a thread that doesn't send afterwards is out of the queue
  pub left_table : is_sending s ≡ false → IsTable (changed_in es n (in_state s)) (left_by n queue) next
  left_table quiet =
      with_queue (left_by n queue) (once-left_by n queue table.queue_once)
      (λ q. is_in-left_by n queue q ∙ elim (same_or q n) [
        | inl is ↦
            ap (λ b. is_in queue q && not b) (eq-eqb q n is) ∙ and_false (is_in queue q) ∙ sym quiet
            ∙ sym (ap (sends_in (changed_in es n (in_state s))) is ∙ sends-with_state_in es n t s there)
        | inr ne ↦
            ap (λ b. is_in queue q && not b) (differ q n ne) ∙ and_true_is (is_in queue q) ∙ table.queued q
            ∙ sym (sends-with_state_in_other es n s q ne)
      ]) where
        and_false : (b : Bool) → (b && false) ≡ false
        and_false true = refl
        and_false false = refl

        and_true_is : (b : Bool) → (b && true) ≡ b
        and_true_is true = refl
        and_true_is false = refl

  -- a thread that didn't send and does afterwards is at the end of the queue
  pub joined_table : is_in queue n ≡ false → is_sending s ≡ true → IsTable (changed_in es n (in_state s)) (queue ++ n ∷ []) next
  joined_table out loud =
      with_queue (queue ++ n ∷ []) (once-push queue n table.queue_once out)
      (λ q. is_in-push queue n q ∙ elim (same_or q n) [
        | inl is ↦
            ap (λ b. is_in queue q || b) (eq-eqb q n is) ∙ or_true_is (is_in queue q) ∙ sym loud
            ∙ sym (ap (sends_in (changed_in es n (in_state s))) is ∙ sends-with_state_in es n t s there)
        | inr ne ↦
            ap (λ b. is_in queue q || b) (differ q n ne) ∙ or_false_is (is_in queue q) ∙ table.queued q
            ∙ sym (sends-with_state_in_other es n s q ne)
      ]) where
        or_true_is : (b : Bool) → (b || true) ≡ true
        or_true_is true = refl
        or_true_is false = refl

        or_false_is : (b : Bool) → (b || false) ≡ b
        or_false_is true = refl
        or_false_is false = refl

  -- what is seen of another state under another queue
  pub seen_state : (later : List ℕ) (mid : Threads) → mid.threads ≡ fin.from_entries es → mid.before ≡ set.from_list (pairs_of later) → mid.next_space ≡ next
      → threads_of (changed_in es n (in_state s)) later next ≡ with_state mid n s
  seen_state later mid threads before space =
      let at : thread_at mid n ≡ Some t = ap (λ (m : fin.FinMap nat_cmp Thread). fin.get m n) threads ∙ fin.get-from_entries nat_cmp_total es n ∙ there in
      (λ i. record {
        threads = (map-changed_in es n t (in_state s) there ∙ ap (λ (m : fin.FinMap nat_cmp Thread). fin.insert m n (in_state s t)) (sym threads)) i;
        before = sym before i;
        next_space = sym space i;
      })
      ∙ ap (λ o. option_map_or (λ thread. record mid { threads = fin.insert mid.threads n (record thread { state = s }) }) o mid) (sym at)

  pub seen_left : threads_of (changed_in es n (in_state s)) (left_by n queue) next ≡ with_state (out_of_queue (threads_of es queue next) n) n s
  seen_left = seen_state (left_by n queue) (out_of_queue (threads_of es queue next) n) refl (sym (pairs-left_by n queue)) refl

-- with another pager of a thread
sends-in_pager : (es : Entries) (n : ℕ) (p : ThreadId) (q : ℕ) → sends_in (changed_in es n (in_pager p)) q ≡ sends_in es q
sends-in_pager es n p q =
    elim (same_or q n) [
      | inl is ↦ ap (sends_in (changed_in es n (in_pager p))) is ∙ ap (λ o. option_map_or is_sending (option_map (λ thread. thread.state) o) false) (found-changed_in es n (in_pager p)) ∙ same (found es n) ∙ ap (sends_in es) (sym is)
      | inr ne ↦ ap (λ o. option_map_or is_sending (option_map (λ thread. thread.state) o) false) (found-changed_in_other es n (in_pager p) q ne)
    ] where
      same : (o : Option Thread) → option_map_or is_sending (option_map (λ thread. thread.state) (option_map (in_pager p) o)) false ≡ option_map_or is_sending (option_map (λ thread. thread.state) o) false
      same None = refl
      same (Some t) = refl

pub pager_table : (es : Entries) (queue : List ℕ) (next n : ℕ) (p : ThreadId) → IsTable es queue next → IsTable (changed_in es n (in_pager p)) queue next
pager_table es queue next n p table = record {
  once = subst IsOnce (sym (numbers-changed_in es n (in_pager p))) table.once;
  number = kept_by_change (λ m thread. number_of thread.id ≡ m) (in_pager p) (λ m thread h. h) es n table.number;
  small = kept_by_change (λ m thread. m < 2 ^ 18) (in_pager p) (λ m thread h. h) es n table.small;
  space = kept_by_change (λ m thread. thread.space < next) (in_pager p) (λ m thread h. h) es n table.space;
  few = subst (λ (k : ℕ). k ≤ 64) (sym (length-changed_in es n (in_pager p))) table.few;
  fits = table.fits;
  queue_once = table.queue_once;
  queued = λ q. table.queued q ∙ sym (sends-in_pager es n p q);
}

pub seen_pager : (es : Entries) (queue : List ℕ) (next n : ℕ) (t : Thread) (p : ThreadId) → found es n ≡ Some t
    → threads_of (changed_in es n (in_pager p)) queue next ≡ with_pager (threads_of es queue next) n p
seen_pager es queue next n t p there =
    let all = threads_of es queue next in
    let at : thread_at all n ≡ Some t = thread_at-threads_of es queue next n ∙ there in
    (λ i. record {
      threads = map-changed_in es n t (in_pager p) there i;
      before = all.before;
      next_space = next;
    })
    ∙ ap (λ o. option_map_or (λ thread. record all { threads = fin.insert all.threads n (record thread { pager = p }) }) o all) (sym at)

-- the thread that an id names is there
pub named_there : (t : Threads) (id : ThreadId) (n : ℕ) → named t id ≡ Some n → (thread : Thread) × (thread_at t n ≡ Some thread)
named_there t id n h =
    elim (thread_at t (number_of id)) as (λ o. thread_at t (number_of id) ≡ o → option_and_then (λ thread. if thread.id.0 == id.0 then Some (number_of id) else None) o ≡ Some n → (thread : Thread) × (thread_at t n ≡ Some thread)) [
      | None ↦ λ _ k. absurd (let e : ◌≡◌ {A = Option ℕ} None (Some n) = k in cc)
      | Some thread ↦ λ at k.
          elim (thread.id.0 == id.0) as (λ b. (if b then Some (number_of id) else None) ≡ Some n → (thread : Thread) × (thread_at t n ≡ Some thread)) [
            | true ↦ λ k. let v : number_of id ≡ n = cc in (thread, ap (thread_at t) (sym v) ∙ at)
            | false ↦ λ k. absurd (let e : ◌≡◌ {A = Option ℕ} None (Some n) = k in cc)
          ] k
    ] refl h

-- what is seen of a thread that starts to send
pub seen_joined : (es : Entries) (queue : List ℕ) (next n : ℕ) (t : Thread) (s : Sending) → IsTable es queue next → found es n ≡ Some t
    → threads_of (changed_in es n (in_state (Sends s))) (queue ++ n ∷ []) next ≡ start_send (threads_of es queue next) n s
seen_joined es queue next n t s table there =
    let all = threads_of es queue next in
    let same : (m : ℕ) → is_in queue m ≡ is_in (senders all) m = λ m. table.queued m ∙ sym (sends-threads_of es queue next m) ∙ sym (is_in-senders all m) in
    seen_state es queue next n t (Sends s) table there (queue ++ n ∷ []) (record all { before = set.union all.before (set.from_list (map (λ m. (m, n)) (senders all))) }) refl
    (ap (λ (p : set.FinSet pair_cmp). set.union all.before p) (sym (behind_same queue (senders all) n same)) ∙ sym (pairs_push queue n)) refl

-- THE TABLE AS IT IS SEEN

module _ (es : Entries) (queue : List ℕ) (next : ℕ) (t : Threads) (is : threads_of es queue next ≡ t) where
  pub thread_at_seen : (n : ℕ) → thread_at t n ≡ found es n
  thread_at_seen n = ap (λ (t : Threads). thread_at t n) (sym is) ∙ thread_at-threads_of es queue next n

  pub sends_seen : (n : ℕ) → sends t n ≡ sends_in es n
  sends_seen n = ap (λ (t : Threads). sends t n) (sym is) ∙ sends-threads_of es queue next n

  pub order_seen : (a b : ℕ) → set.contains t.before (a, b) ≡ precedes queue a b
  order_seen a b = ap (λ (t : Threads). set.contains t.before (a, b)) (sym is) ∙ contains-pairs_of queue a b

  -- what a test of the state tells of the thread that is found
  pub found_seen : (p : State → Bool) (n : ℕ) → option_map_or p (state_of t n) false ≡ true → (thread : Thread) × (found es n ≡ Some thread) × (p thread.state ≡ true)
  found_seen p n h =
      let here : option_map_or p (option_map (λ thread. thread.state) (found es n)) false ≡ true =
      ap (λ (o : Option Thread). option_map_or p (option_map (λ thread. thread.state) o) false) (sym (thread_at_seen n)) ∙ h in
      elim (found es n) as (λ o. found es n ≡ o → option_map_or p (option_map (λ thread. thread.state) o) false ≡ true → (thread : Thread) × (found es n ≡ Some thread) × (p thread.state ≡ true)) [
        | None ↦ λ _ k. absurd (false≢true k)
        | Some thread ↦ λ at k. (thread, at, k)
      ] refl here

  -- of a thread that is there, what is found
  pub found_some : (n : ℕ) → IsSome (state_of t n) → (thread : Thread) × (found es n ≡ Some thread)
  found_some n h =
      let here : IsSome (option_map (λ thread. thread.state) (found es n)) = subst (λ (o : Option Thread). IsSome (option_map (λ thread. thread.state) o)) (thread_at_seen n) h in
      elim (found es n) as (λ o. found es n ≡ o → IsSome (option_map (λ thread. thread.state) o) → (thread : Thread) × (found es n ≡ Some thread)) [
        | None ↦ λ _ k. absurd (false≢true k)
        | Some thread ↦ λ at k. (thread, at)
      ] refl here

-- what is found isn't absent
pub found_not_none : (es : Entries) (n : ℕ) (t : Thread) → found es n ≡ Some t → found es n ≢ None
found_not_none es n t there none = let k : ◌≡◌ {A = Option Thread} (Some t) None = sym there ∙ none in cc

-- a thread that runs isn't in the queue
pub out_of_line : (es : Entries) (queue : List ℕ) (next n : ℕ) (t : Thread) → IsTable es queue next → found es n ≡ Some t → is_running t.state ≡ true → is_in queue n ≡ false
out_of_line es queue next n t table there runs =
    table.queued n ∙ ap (λ o. option_map_or is_sending (option_map (λ thread. thread.state) o) false) there ∙ quiet t.state runs where
      quiet : (s : State) → is_running s ≡ true → is_sending s ≡ false
      quiet (Running reply) h = refl
      quiet (Sends s) h = absurd (false≢true h)
      quiet (Receives r) h = refl

-- for a thread that doesn't send there is room in the queue
pub room : (es : Entries) (queue : List ℕ) (next n : ℕ) (t : Thread) → IsTable es queue next → found es n ≡ Some t → is_in queue n ≡ false → length queue < 64
room es queue next n t table there out =
    let numbers = map (λ (e : ℕ × Thread). e.0) es in
    let at_least = once_fits (queue ++ n ∷ []) numbers (once-push queue n table.queue_once out) (λ m h. elim (or_true (is_in queue m) (m == n) (sym (is_in-push queue n m) ∙ h)) [
      | inl queued ↦ listed m (λ none. false≢true (sym (ap (λ o. option_map_or is_sending (option_map (λ thread. thread.state) o) false) none) ∙ sym (table.queued m) ∙ queued))
      | inr is ↦ listed m (λ none. found_not_none es n t there (ap (found es) (sym (same_of m n is)) ∙ none))
    ]) in
    let a = length-append queue (n ∷ []) in
    let b : length numbers ≡ length es = simp length-map in
    let few = table.few in
    omega arith where
      listed : (m : ℕ) → found es m ≢ None → is_in (map (λ e. e.0) es) m ≡ true
      listed m some =
          elim (is_in (map (λ e. e.0) es) m) as (λ b. is_in (map (λ e. e.0) es) m ≡ b → b ≡ true) [
            | true ↦ λ _. refl
            | false ↦ λ h. absurd (some (found_absent es m h))
          ] refl

-- WHAT ALWAYS HOLDS

pub consistent : (es : Entries) (queue : List ℕ) (next : ℕ) → IsTable es queue next → IsConsistent (threads_of es queue next)
consistent es queue next table =
    let all = threads_of es queue next in
    let at : (n : ℕ) → thread_at all n ≡ found es n = thread_at-threads_of es queue next in
    let pair : (a b : ℕ) → set.contains all.before (a, b) ≡ precedes queue a b = contains-pairs_of queue in
    let send : (n : ℕ) → is_in queue n ≡ sends all n = λ n. table.queued n ∙ sym (sends-threads_of es queue next n) in
    record {
      number = λ n thread h. table.number n thread (sym (at n) ∙ h);
      small = λ n thread h. table.small n thread (sym (at n) ∙ h);
      space = λ n thread h. table.space n thread (sym (at n) ∙ h);
      next_space = table.fits;
      few = subst (λ (k : ℕ). k ≤ 64) (sym (map-length es table.once)) table.few;
      senders_only = λ a b h. let p = precedes_in queue a b (sym (pair a b) ∙ h) in (sym (send a) ∙ p.0, sym (send b) ∙ p.1);
      irreflexive = λ a h. precedes_irreflexive queue table.queue_once a (sym (pair a a) ∙ h);
      transitive = λ a b c h k. pair a c ∙ precedes_transitive queue table.queue_once a b c (sym (pair a b) ∙ h) (sym (pair b c) ∙ k);
      total = λ a b h k ne. elim (precedes_total queue a b (send a ∙ h) (send b ∙ k) ne) [
        | inl r ↦ inl (pair a b ∙ r)
        | inr r ↦ inr (pair b a ∙ r)
      ];
    }
