-- A thread of another state or pager, and a new thread: what stands at each number afterwards.
use Rattle.std.proofs.Common.{◌≡◌, ◌≢◌, ℕ, ◌==◌, false, cond, if◌then◌else◌, Bool, true, Option, Some, None, Result, Ok, Err, IsTrue, IsSome, refl, sym, ap, ◌∙◌, subst, inl, inr, ◌⊎◌}
use Rattle.std.specs.Option.{option_map_or, option_map}
use Rattle.std.specs.Ordering.{nat_cmp, eq_by_cmp}
use Rattle.std.specs.Cmp.{unsigned_tied, nat_cmp_total}
use Rattle.std.proofs.lemmas.Bool.{false≢true}
use Rattle.std.proofs.lemmas.Bool.Decides.{eqb_tells}
use Rattle.std.specs.FinMap as fin
use Rattle.l4_threads.specs.declared.Thread.{Thread}
use Rattle.l4_threads.specs.declared.State.{State}
use Rattle.l4_threads.specs.declared.ThreadId.{ThreadId}
use Rattle.l4_threads.specs.declared.ThreadFault.{ThreadFault}
use Rattle.l4_threads.specs.Threads.{Threads, thread_at, state_of, runs, is_running, with_state}
use Rattle.l4_threads.specs.Control.{with_pager}

-- the thread put at a number stands there, and every other where it stood
pub put_at : (t : Threads) (n : ℕ) (put : Thread) (m : ℕ) (thread : Thread) → fin.get (fin.insert t.threads n put) m ≡ Some thread
    → ((m ≡ n) × (thread ≡ put)) ⊎ ((m ≢ n) × (thread_at t m ≡ Some thread))
put_at t n put m thread h =
    let e : fin.get (fin.insert t.threads n put) m ≡ cond (eq_by_cmp nat_cmp m n) (Some put) (thread_at t m) = fin.get-insert nat_cmp_total t.threads n put m in
    elim (eqb_tells m n) [
      | inl is ↦
          let f : cond (eq_by_cmp nat_cmp m n) (Some put) (thread_at t m) ≡ Some put = ap (λ b. cond b (Some put) (thread_at t m)) (unsigned_tied m n ∙ is.0) in
          let k : ◌≡◌ {A = Option Thread} (Some put) (Some thread) = sym f ∙ sym e ∙ h in
          let v : put ≡ thread = cc in
          inl (is.1, sym v)
      | inr ne ↦
          let f : cond (eq_by_cmp nat_cmp m n) (Some put) (thread_at t m) ≡ thread_at t m = ap (λ b. cond b (Some put) (thread_at t m)) (unsigned_tied m n ∙ ne.0) in
          inr (ne.1, sym f ∙ sym e ∙ h)
    ]

-- a number that has a thread has one after another was put
pub put_there : (t : Threads) (n : ℕ) (put : Thread) (m : ℕ) → thread_at t m ≢ None → fin.get (fin.insert t.threads n put) m ≢ None
put_there t n put m there h =
    let e : fin.get (fin.insert t.threads n put) m ≡ cond (eq_by_cmp nat_cmp m n) (Some put) (thread_at t m) = fin.get-insert nat_cmp_total t.threads n put m in
    elim (eqb_tells m n) [
      | inl is ↦
          let f : cond (eq_by_cmp nat_cmp m n) (Some put) (thread_at t m) ≡ Some put = ap (λ b. cond b (Some put) (thread_at t m)) (unsigned_tied m n ∙ is.0) in
          let k : ◌≡◌ {A = Option Thread} (Some put) None = sym f ∙ sym e ∙ h in
          cc
      | inr ne ↦
          let f : cond (eq_by_cmp nat_cmp m n) (Some put) (thread_at t m) ≡ thread_at t m = ap (λ b. cond b (Some put) (thread_at t m)) (unsigned_tied m n ∙ ne.0) in
          there (sym f ∙ sym e ∙ h)
    ]

-- a thread that is there after one changed its state was there before, with that state if it is that one
pub record WasAt (t : Threads) (n : ℕ) (state : State) (m : ℕ) (thread : Thread) : Type 0 where
  pub before : Thread
  pub at : thread_at t m ≡ Some before
  pub space : thread.space ≡ before.space
  pub state_is : ((m ≡ n) × (thread.state ≡ state)) ⊎ ((m ≢ n) × (thread.state ≡ before.state))

pub state_at : (t : Threads) (n : ℕ) (state : State) (m : ℕ) (thread : Thread) → thread_at (with_state t n state) m ≡ Some thread → WasAt t n state m thread
state_at t n state m thread h =
    elim (thread_at t n) as (λ o. thread_at t n ≡ o → WasAt t n state m thread) [
      | None ↦ λ is.
          let e : with_state t n state ≡ t = ap (λ o. option_map_or (λ x. record t { threads = fin.insert t.threads n (record x { state = state }) }) o t) is in
          let at : thread_at t m ≡ Some thread = sym (ap (λ (s : Threads). thread_at s m) e) ∙ h in
          record {
            before = thread;
            at = at;
            space = refl;
            state_is = inr (λ same. let k : ◌≡◌ {A = Option Thread} (Some thread) None = sym at ∙ ap (thread_at t) same ∙ is in cc, refl);
          }
      | Some old ↦ λ is.
          let e : with_state t n state ≡ record t { threads = fin.insert t.threads n (record old { state = state }) } = ap (λ o. option_map_or (λ x. record t { threads = fin.insert t.threads n (record x { state = state }) }) o t) is in
          elim (put_at t n (record old { state = state }) m thread (sym (ap (λ (s : Threads). thread_at s m) e) ∙ h)) [
            | inl new ↦ record {
              before = old;
              at = ap (thread_at t) new.0 ∙ is;
              space = ap (λ (x : Thread). x.space) new.1;
              state_is = inl (new.0, ap (λ (x : Thread). x.state) new.1);
            }
            | inr other ↦ record { before = thread; at = other.1; space = refl; state_is = inr (other.0, refl) }
          ]
    ] refl

-- every other thread stays what it is as one changes its state
pub state_other : (t : Threads) (n : ℕ) (state : State) (m : ℕ) → m ≢ n → thread_at (with_state t n state) m ≡ thread_at t m
state_other t n state m other =
    elim (thread_at t n) as (λ o. thread_at t n ≡ o → thread_at (with_state t n state) m ≡ thread_at t m) [
      | None ↦ λ is. ap (λ o. thread_at (option_map_or (λ x. record t { threads = fin.insert t.threads n (record x { state = state }) }) o t) m) is
      | Some old ↦ λ is.
          ap (λ o. thread_at (option_map_or (λ x. record t { threads = fin.insert t.threads n (record x { state = state }) }) o t) m) is
          ∙ fin.get-insert nat_cmp_total t.threads n (record old { state = state }) m
          ∙ ap (λ b. cond b (Some (record old { state = state })) (thread_at t m)) (unsigned_tied m n ∙ differs m n other)
    ] refl where
      differs : (a b : ℕ) → a ≢ b → (a == b) ≡ false
      differs a b ne = elim (eqb_tells a b) [ inl h ↦ absurd (ne h.1) | inr h ↦ h.0 ]

-- another state changes no space number
pub same_next : (t : Threads) (n : ℕ) (state : State) → (with_state t n state).next_space ≡ t.next_space
same_next t n state =
    elim (thread_at t n) as (λ o. (option_map_or (λ x. record t { threads = fin.insert t.threads n (record x { state = state }) }) o t).next_space ≡ t.next_space) [
      | None ↦ refl
      | Some old ↦ refl
    ]

-- a thread that is there after one got another pager was there before, in its space and with its state
pub pager_at : (t : Threads) (n : ℕ) (pager : ThreadId) (m : ℕ) (thread : Thread) → thread_at (with_pager t n pager) m ≡ Some thread
    → (before : Thread) × ((thread_at t m ≡ Some before) × ((thread.space ≡ before.space) × (thread.state ≡ before.state)))
pager_at t n pager m thread h =
    elim (thread_at t n) as (λ o. thread_at t n ≡ o → thread_at (option_map_or (λ x. record t { threads = fin.insert t.threads n (record x { pager = pager }) }) o t) m ≡ Some thread
    → (before : Thread) × ((thread_at t m ≡ Some before) × ((thread.space ≡ before.space) × (thread.state ≡ before.state)))) [
      | None ↦ λ is at. (thread, (at, (refl, refl)))
      | Some old ↦ λ is at.
          elim (put_at t n (record old { pager = pager }) m thread at) [
            | inl new ↦ (old, (ap (thread_at t) new.0 ∙ is, (ap (λ (x : Thread). x.space) new.1, ap (λ (x : Thread). x.state) new.1)))
            | inr other ↦ (thread, (other.1, (refl, refl)))
          ]
    ] refl h

-- a number that has a thread has one after one got another pager
pub pager_there : (t : Threads) (n : ℕ) (pager : ThreadId) (m : ℕ) → thread_at t m ≢ None → thread_at (with_pager t n pager) m ≢ None
pager_there t n pager m there =
    elim (thread_at t n) as (λ o. thread_at (option_map_or (λ x. record t { threads = fin.insert t.threads n (record x { pager = pager }) }) o t) m ≢ None) [
      | None ↦ there
      | Some old ↦ put_there t n (record old { pager = pager }) m there
    ]

-- another pager changes no space number
pub pager_next : (t : Threads) (n : ℕ) (pager : ThreadId) → (with_pager t n pager).next_space ≡ t.next_space
pager_next t n pager =
    elim (thread_at t n) as (λ o. (option_map_or (λ x. record t { threads = fin.insert t.threads n (record x { pager = pager }) }) o t).next_space ≡ t.next_space) [
      | None ↦ refl
      | Some old ↦ refl
    ]

-- past a test that didn't refuse
pub past : (b : Bool) (e : ThreadFault) (rest : Result ℕ ThreadFault) (space : ℕ) → (if b then Err e else rest) ≡ Ok space → (b ≡ false) × (rest ≡ Ok space)
past true e rest space h = absurd (let k : ◌≡◌ {A = Result ℕ ThreadFault} (Err e) (Ok space) = h in cc)
past false e rest space h = (refl, h)

-- some thread is there
pub is_there : (t : Threads) (n : ℕ) → thread_at t n ≢ None → (thread : Thread) × (thread_at t n ≡ Some thread)
is_there t n there =
    elim (thread_at t n) as (λ o. thread_at t n ≡ o → (thread : Thread) × (thread_at t n ≡ Some thread)) [
      | None ↦ λ is. absurd (there is)
      | Some thread ↦ λ is. (thread, is)
    ] refl

-- a thread that runs is there
pub running_thread : (t : Threads) (n : ℕ) → IsTrue (runs t n) → (thread : Thread) × ((thread_at t n ≡ Some thread) × IsTrue (is_running thread.state))
running_thread t n h =
    elim (thread_at t n) as (λ o. thread_at t n ≡ o → IsTrue (option_map_or is_running (option_map (λ (x : Thread). x.state) o) false) → (thread : Thread) × ((thread_at t n ≡ Some thread) × IsTrue (is_running thread.state))) [
      | None ↦ λ _ f. absurd (false≢true f)
      | Some thread ↦ λ is r. (thread, (is, r))
    ] refl h

-- a thread that is there has a state
pub has_state : (t : Threads) (n : ℕ) → thread_at t n ≢ None → IsSome (state_of t n)
has_state t n there =
    let is = is_there t n there in
    subst (λ (o : Option Thread). IsSome (option_map (λ (x : Thread). x.state) o)) (sym is.1) (some_is is.0) where
      some_is : (thread : Thread) → IsSome (Some thread.state)
      some_is thread = refl
