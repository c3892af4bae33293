-- A thread is added to the table, and the threads of the start.
use Rattle.std.proofs.Common.{◌≡◌, ◌≢◌, ℕ, ◌<◌, ◌≤◌, ◌^◌, false, cond, ◌||◌, List, [], ◌∷◌, ◌++◌, map, length, Option, Some, None, refl, sym, ap, ◌∙◌, subst, arith, inl, inr, lit<, lit≤, length-append}
use Rattle.std.specs.Option.{option_map, option_map_or}
use Rattle.std.specs.Ordering.{nat_cmp, eq_by_cmp}
use Rattle.std.specs.Cmp.{nat_cmp_total}
use Rattle.std.specs.FinMap as fin
use Rattle.std.specs.FinSet as set
use Rattle.std.proofs.lemmas.Map.Lookups.{exact_unsigned}
use Rattle.l4_threads.specs.declared.Thread.{Thread}
use Rattle.l4_threads.specs.declared.ThreadId.{ThreadId}
use Rattle.l4_threads.specs.declared.State.TheVariants.{Running}
use Rattle.l4_threads.specs.Threads.{number_of, nilthread, is_sending, first_threads}
use Rattle.l4_threads.specs.Inside.Entries.{Entries, found, sends_in, IsTable}
use Rattle.l4_threads.specs.Queue.{is_in, IsOnce}
use Rattle.l4_threads.specs.Inside.Kept.{threads_of}
use Rattle.l4_threads.proofs.TableLemmas.{same_or, differ, found_here, found_further}
use Rattle.l4_threads.proofs.QueueLemmas.{once-push}

-- a new thread that runs
abbrev pub new_thread : ThreadId → ℕ → ThreadId → Thread
new_thread id space pager = record { id = id; space = space; pager = pager; state = Running None }

pub numbers-push : (es : Entries) (e : ℕ × Thread) → map (λ x. x.0) (es ++ e ∷ []) ≡ map (λ x. x.0) es ++ e.0 ∷ []
numbers-push [] e = refl
numbers-push (x ∷ es) e = ap (λ rest. x.0 ∷ rest) (numbers-push es e)

-- what isn't found is none of the numbers
pub absent_found : (es : Entries) (n : ℕ) → found es n ≡ None → is_in (map (λ e. e.0) es) n ≡ false
absent_found [] n h = refl
absent_found (e ∷ es) n h =
    elim (same_or n e.0) [
      | inl is ↦ absurd (let k : ◌≡◌ {A = Option Thread} (Some e.1) None = sym (found_here e es n is) ∙ h in cc)
      | inr ne ↦ ap (λ b. b || is_in (map (λ x. x.0) es) n) (differ n e.0 ne) ∙ absent_found es n (sym (found_further e es n ne) ∙ h)
    ]

pub found_new : (es : Entries) (n : ℕ) (t : Thread) → found es n ≡ None → found (es ++ (n, t) ∷ []) n ≡ Some t
found_new [] n t h = found_here (n, t) [] n refl
found_new (e ∷ es) n t h =
    elim (same_or n e.0) [
      | inl is ↦ absurd (let k : ◌≡◌ {A = Option Thread} (Some e.1) None = sym (found_here e es n is) ∙ h in cc)
      | inr ne ↦ found_further e (es ++ (n, t) ∷ []) n ne ∙ found_new es n t (sym (found_further e es n ne) ∙ h)
    ]

pub found_old : (es : Entries) (n : ℕ) (t : Thread) (q : ℕ) → q ≢ n → found (es ++ (n, t) ∷ []) q ≡ found es q
found_old [] n t q ne = found_further (n, t) [] q ne
found_old (e ∷ es) n t q ne = ap (λ rest. cond (eq_by_cmp nat_cmp q e.0) (Some e.1) rest) (found_old es n t q ne)

-- a fact of the old threads and of the new one
kept_by_new : (P : ℕ → Thread → Type 0) (es : Entries) (n : ℕ) (t : Thread) → found es n ≡ None → P n t → ((m : ℕ) (thread : Thread) → found es m ≡ Some thread → P m thread)
    → (m : ℕ) (thread : Thread) → found (es ++ (n, t) ∷ []) m ≡ Some thread → P m thread
kept_by_new P es n t free here each m thread at =
    elim (same_or m n) [
      | inl is ↦
          let k : ◌≡◌ {A = Option Thread} (Some t) (Some thread) = sym (found_new es n t free) ∙ ap (found (es ++ (n, t) ∷ [])) (sym is) ∙ at in
          let v : t ≡ thread = cc in
          subst (P m) v (subst (λ (k : ℕ). P k t) (sym is) here)
      | inr ne ↦ each m thread (sym (found_old es n t m ne) ∙ at)
    ]

-- the table with one more thread, which runs
pub grown_table : (es : Entries) (queue : List ℕ) (next later n : ℕ) (id : ThreadId) (space : ℕ) (pager : ThreadId) → IsTable es queue next → found es n ≡ None → length es < 64
    → number_of id ≡ n → n < 2 ^ 18 → space < later → next ≤ later → later < 2 ^ 64
    → IsTable (es ++ (n, new_thread id space pager) ∷ []) queue later
grown_table es queue next later n id space pager table free few number small below grows fits =
    let t = new_thread id space pager in
    record {
      once = subst IsOnce (sym (numbers-push es (n, t))) (once-push (map (λ e. e.0) es) n table.once (absent_found es n free));
      number = kept_by_new (λ m thread. number_of thread.id ≡ m) es n t free number table.number;
      small = kept_by_new (λ m thread. m < 2 ^ 18) es n t free small table.small;
      space = kept_by_new (λ m thread. thread.space < later) es n t free below (λ m thread at. let h = table.space m thread at in omega arith);
      few = let l = length-append es ((n, t) ∷ []) in omega arith;
      fits = fits;
      queue_once = table.queue_once;
      queued = λ q. table.queued q ∙ elim (same_or q n) [
        | inl is ↦
            ap (sends_in es) is
            ∙ ap (λ o. option_map_or is_sending (option_map (λ thread. thread.state) o) false) free
            ∙ sym (ap (sends_in (es ++ (n, t) ∷ [])) is ∙ ap (λ o. option_map_or is_sending (option_map (λ thread. thread.state) o) false) (found_new es n t free))
        | inr ne ↦ sym (ap (λ o. option_map_or is_sending (option_map (λ thread. thread.state) o) false) (found_old es n t q ne))
      ];
    }

-- as it is seen
pub map-grown : (es : Entries) (n : ℕ) (t : Thread) → found es n ≡ None → fin.from_entries {R = nat_cmp} (es ++ (n, t) ∷ []) ≡ fin.insert (fin.from_entries es) n t
map-grown es n t free = fin.from_entries_push nat_cmp_total exact_unsigned es n t free

-- THE START

abbrev pub sigma0 : Thread
sigma0 = new_thread (record { 0 = 0x4001 }) 0 nilthread

abbrev pub root : Thread
root = new_thread (record { 0 = 0x8001 }) 1 (record { 0 = 0x4001 })

no_table : IsTable [] [] 0
no_table = record {
  once = tt;
  number = λ n thread h. absurd (let k : ◌≡◌ {A = Option Thread} None (Some thread) = h in cc);
  small = λ n thread h. absurd (let k : ◌≡◌ {A = Option Thread} None (Some thread) = h in cc);
  space = λ n thread h. absurd (let k : ◌≡◌ {A = Option Thread} None (Some thread) = h in cc);
  few = lit≤ tt;
  fits = lit< tt;
  queue_once = tt;
  queued = λ n. refl;
}

one_table : IsTable ((1, sigma0) ∷ []) [] 1
one_table = grown_table [] [] 0 1 1 (record { 0 = 0x4001 }) 0 nilthread no_table refl (lit< tt) refl (lit< tt) (lit< tt) (lit≤ tt) (lit< tt)

root_free : found ((1, sigma0) ∷ []) 2 ≡ None
root_free = refl

pub first_table : IsTable ((1, sigma0) ∷ (2, root) ∷ []) [] 2
first_table = grown_table ((1, sigma0) ∷ []) [] 1 2 2 (record { 0 = 0x8001 }) 1 (record { 0 = 0x4001 }) one_table root_free (lit< tt) refl (lit< tt) (lit< tt) (lit≤ tt) (lit< tt)

pub seen_first : threads_of ((1, sigma0) ∷ (2, root) ∷ []) [] 2 ≡ first_threads
seen_first =
    λ i. record {
      threads = (map-grown ((1, sigma0) ∷ []) 2 root root_free ∙ ap (λ (m : fin.FinMap nat_cmp Thread). fin.insert m 2 root) (map-grown [] 1 sigma0 refl)) i;
      before = set.empty;
      next_space = 2;
    }
