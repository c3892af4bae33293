-- Each step keeps the queue of senders in order.
use Rattle.std.proofs.Common.{◌≡◌, ◌≢◌, ℕ, ◌==◌, ◌&&◌, ◌||◌, not, cond, if◌then◌else◌, Bool, true, false, List, [], ◌∷◌, map, Option, Some, None, is_some, Result, Ok, Err, IsTrue, refl, sym, ap, ◌∙◌, subst, inl, inr, ◌⊎◌, eq-eqb}
use Rattle.std.specs.Option.{option_map_or, option_map}
use Rattle.std.specs.List.{list_any}
use Rattle.std.specs.Ordering.{nat_cmp, eq_by_cmp}
use Rattle.std.specs.Cmp.{unsigned_tied, nat_cmp_total}
use Rattle.std.proofs.lemmas.Bool.{false≢true}
use Rattle.std.proofs.lemmas.Bool.Decides.{eqb_tells}
use Rattle.std.specs.FinMap as fin
use Rattle.std.specs.FinSet as set
use Rattle.l4_threads.specs.declared.Later.{Later}
use Rattle.l4_threads.specs.declared.Reply.{Reply}
use Rattle.l4_threads.specs.declared.Receiving.{Receiving}
use Rattle.l4_threads.specs.declared.Sending.{Sending}
use Rattle.l4_threads.specs.declared.State.{State}
use Rattle.l4_threads.specs.declared.State.TheVariants.{Running, Sending as IsSender, Receiving as IsReceiver}
use Rattle.l4_threads.specs.declared.Thread.{Thread}
use Rattle.l4_threads.specs.declared.ThreadId.{ThreadId}
use Rattle.l4_threads.specs.Control.{created, with_pager, freed, without_partner, waits_for, Deletes}
use Rattle.l4_threads.specs.Queue.{is_in}
use Rattle.l4_threads.specs.Threads.{Threads, IsConsistent, pair_cmp, thread_at, sends, senders, is_sending, is_running, Before, with_state, out_of_queue, start_send, start_receive, end_call, number_of, first_threads, named}
use Rattle.l4_threads.proofs.QueuePairs.{pairs_total, exact_number_pairs}
use Rattle.l4_threads.proofs.ViewLemmas.{is_in-senders, tied_pair}
use Rattle.l4_ipc.proofs.Threads.{state_at, state_other}
use Rattle.l4_threads.specs.Threads.{failed, nilthread}
use Rattle.l4_threads.specs.Control.{create_test}
use Rattle.l4_threads.specs.declared.Source.TheVariants.{Anyone, Thread as One}
use Rattle.l4_threads.specs.declared.Reply.TheVariants.{Unmapped, Controlled}
use Rattle.l4_threads.specs.declared.ThreadFault.TheVariants.{NoPrivilege, BadId, Taken}
use Rattle.l4_ipc.specs.declared.calls.Call.{Call}
use Rattle.l4_ipc.specs.declared.calls.Call.TheVariants.{Ipc, Fault, Unmap, Control as Controls}
use Rattle.l4_ipc.specs.declared.calls.Control.TheVariants.{Create, SetPager, Delete}
use Rattle.l4_phases.specs.declared.turns.Next.{Next}
use Rattle.l4_phases.specs.declared.turns.Next.TheVariants.{Ends, Sends, Receives}
use Rattle.l4_ipc.specs.declared.steps.Answer.{Answer}
use Rattle.l4_ipc.specs.declared.steps.Refused.{Refused}
use Rattle.l4_ipc.specs.declared.steps.Step.{Step}
use Rattle.l4_ipc.specs.declared.steps.Step.TheVariants.{Start, Transfer, Expire, Cancel}
use Rattle.l4_ipc.specs.Machine.{Machine}
use Rattle.l4_phases.specs.Phases.{enters, going_on}
use Rattle.l4_ipc.specs.Start.{ipc_next, fault_next}
use Rattle.l4_ipc.specs.Steps.{Steps, Starts, sender_next, is_done, expiry, cancellation}
use Rattle.l4_ipc.proofs.Threads.{past}
use Rattle.l4_determined.specs.Inside.InOrder.{IsInOrder}

-- WHAT KEEPS A QUEUE IN ORDER

-- threads may leave the queue, and those that stay keep their order
pub stays_in_order : (old new : Threads) → IsInOrder old
    → ((a b : ℕ) → Before new a b → Before old a b × IsTrue (sends new a) × IsTrue (sends new b))
    → ((a b : ℕ) → Before old a b → IsTrue (sends new a) → IsTrue (sends new b) → Before new a b)
    → ((a : ℕ) → IsTrue (sends new a) → IsTrue (sends old a)) → IsInOrder new
stays_in_order old new so less kept were = record {
  only = λ a b h. let k = less a b h in (k.1, k.2);
  apart = λ a b h back. so.apart a b (less a b h).0 (less b a back).0;
  total = λ a b p q ne. elim (so.total a b (were a p) (were b q) ne) [ inl h ↦ inl (kept a b h p q) | inr h ↦ inr (kept b a h q p) ];
}

-- a thread that did not send comes last
pub joins_in_order : (old new : Threads) (n : ℕ) → IsInOrder old → ¬ (IsTrue (sends old n))
    → ((a b : ℕ) → Before new a b → Before old a b ⊎ (IsTrue (sends old a) × (b ≡ n)))
    → ((a b : ℕ) → Before old a b → Before new a b)
    → ((a : ℕ) → IsTrue (sends old a) → Before new a n)
    → ((a : ℕ) → IsTrue (sends new a) → (a ≡ n) ⊎ IsTrue (sends old a))
    → ((a : ℕ) → IsTrue (sends old a) → IsTrue (sends new a))
    → IsTrue (sends new n) → IsInOrder new
joins_in_order old new n so free less kept last were still here = record {
  only = λ a b h. elim (less a b h) [
    | inl k ↦ let p = so.only a b k in (still a p.0, still b p.1)
    | inr k ↦ (still a k.0, subst (λ (m : ℕ). IsTrue (sends new m)) (sym k.1) here)
  ];
  apart = λ a b h back. elim (less a b h) [
    | inl k ↦ elim (less b a back) [
      | inl j ↦ so.apart a b k j
      | inr j ↦ free (subst (λ (m : ℕ). IsTrue (sends old m)) j.1 (so.only a b k).0)
    ]
    | inr k ↦ elim (less b a back) [
      | inl j ↦ free (subst (λ (m : ℕ). IsTrue (sends old m)) k.1 (so.only b a j).0)
      | inr j ↦ free (subst (λ (m : ℕ). IsTrue (sends old m)) k.1 j.0)
    ]
  ];
  total = λ a b p q ne. elim (were a p) [
    | inl is ↦ elim (were b q) [
      | inl also ↦ absurd (ne (is ∙ sym also))
      | inr k ↦ inr (subst (λ (m : ℕ). Before new b m) (sym is) (last b k))
    ]
    | inr k ↦ elim (were b q) [
      | inl also ↦ inl (subst (λ (m : ℕ). Before new a m) (sym also) (last a k))
      | inr j ↦ elim (so.total a b k j ne) [ inl h ↦ inl (kept a b h) | inr h ↦ inr (kept b a h) ]
    ]
  ];
}

-- TESTS

same_or : (a b : ℕ) → (a ≡ b) ⊎ (a ≢ b)
same_or a b = elim (eqb_tells a b) [ inl h ↦ inl h.1 | inr h ↦ inr (λ is. false≢true (sym h.0 ∙ eq-eqb a b is)) ]

pub differs : (a b : ℕ) → a ≢ b → (a == b) ≡ false
differs a b ne = elim (eqb_tells a b) [ inl h ↦ absurd (ne h.1) | inr h ↦ h.0 ]

unequal : (a b : ℕ) → (a == b) ≡ false → a ≢ b
unequal a b h is = false≢true (sym h ∙ eq-eqb a b is)

both : (a b : Bool) → IsTrue (a && b) → IsTrue a × IsTrue b
both true true h = (refl, refl)
both true false h = absurd (false≢true h)
both false b h = absurd (false≢true h)

one : (a b : Bool) → IsTrue (a || b) → IsTrue a ⊎ IsTrue b
one true b h = inl refl
one false b h = inr h

not_true : (b : Bool) → IsTrue (not b) → b ≡ false
not_true true h = absurd (false≢true h)
not_true false h = refl

-- WHO SENDS

-- the thread sends in this state
sender_at : (t : Threads) (n : ℕ) (thread : Thread) → thread_at t n ≡ Some thread → sends t n ≡ is_sending thread.state
sender_at t n thread at = ap (λ o. option_map_or is_sending (option_map (λ (x : Thread). x.state) o) false) at

-- a thread that sends is there
pub there_if_sends : (t : Threads) (n : ℕ) → IsTrue (sends t n) → (thread : Thread) × (thread_at t n ≡ Some thread) × IsTrue (is_sending thread.state)
there_if_sends t n h =
    elim (thread_at t n) as (λ o. thread_at t n ≡ o → option_map_or is_sending (option_map (λ (x : Thread). x.state) o) false ≡ true → (thread : Thread) × (thread_at t n ≡ Some thread) × IsTrue (is_sending thread.state)) [
      | None ↦ λ e no. absurd (false≢true no)
      | Some thread ↦ λ e yes. (thread, e, yes)
    ] refl h

-- a thread of another number sends as before
pub sends_other : (t : Threads) (n : ℕ) (state : State) (m : ℕ) → m ≢ n → sends (with_state t n state) m ≡ sends t m
sends_other t n state m ne = ap (λ o. option_map_or is_sending (option_map (λ (x : Thread). x.state) o) false) (state_other t n state m ne)

-- whoever sends after a thread has another state sent before, or it is that thread and the state sends
pub sent_before : (t : Threads) (n : ℕ) (state : State) (m : ℕ) → IsTrue (sends (with_state t n state) m) → ((m ≡ n) × IsTrue (is_sending state)) ⊎ ((m ≢ n) × IsTrue (sends t m))
sent_before t n state m h =
    let k = there_if_sends (with_state t n state) m h in
    let was = state_at t n state m k.0 k.1 in
    elim was.state_is [
      | inl is ↦ inl (is.0, subst (λ (s : State). IsTrue (is_sending s)) is.1 k.2)
      | inr ne ↦ inr (ne.0, sender_at t m was.before was.at ∙ ap is_sending (sym ne.1) ∙ k.2)
    ]

-- the queue does not depend on states
pub same_queue : (t : Threads) (n : ℕ) (state : State) → (with_state t n state).before ≡ t.before
same_queue t n state =
    elim (thread_at t n) as (λ o. (option_map_or (λ x. record t { threads = fin.insert t.threads n (record x { state = state }) }) o t).before ≡ t.before) [
      | None ↦ refl
      | Some old ↦ refl
    ]

-- A THREAD LEAVES THE QUEUE

out_before : (t : Threads) (n a b : ℕ) → set.contains (out_of_queue t n).before (a, b) ≡ (set.contains t.before (a, b) && (not (a == n) && not (b == n)))
out_before t n a b =
    set.contains-retain t.before (λ p. not (p.0 == n) && not (p.1 == n)) (a, b)
    (λ x tied. ap (λ (p : ℕ × ℕ). not (p.0 == n) && not (p.1 == n)) (sym (exact_number_pairs (a, b) x tied)))

pub leaves_in_order : (t : Threads) (n : ℕ) (state : State) → is_sending state ≡ false → IsInOrder t → IsInOrder (with_state (out_of_queue t n) n state)
leaves_in_order t n state idle so =
    let new = with_state (out_of_queue t n) n state in
    stays_in_order t new so
    (λ a b h.
    let k = both _ _ (sym (out_before t n a b) ∙ ap (λ q. set.contains q (a, b)) (sym (same_queue (out_of_queue t n) n state)) ∙ h) in
    let apart = both _ _ k.1 in
    let were = so.only a b k.0 in
    let other : a ≢ n = unequal a n (not_true (a == n) apart.0) in
    let others : b ≢ n = unequal b n (not_true (b == n) apart.1) in
    (k.0, sends_other (out_of_queue t n) n state a other ∙ were.0, sends_other (out_of_queue t n) n state b others ∙ were.1))
    (λ a b h p q.
    ap (λ s. set.contains s (a, b)) (same_queue (out_of_queue t n) n state) ∙ out_before t n a b
    ∙ ap (λ v. v && (not (a == n) && not (b == n))) h
    ∙ ap (λ v. not v && not (b == n)) (differs a n (stay a p).0) ∙ ap not (differs b n (stay b q).0))
    (λ a p. (stay a p).1) where
      stay : (a : ℕ) → IsTrue (sends (with_state (out_of_queue t n) n state) a) → (a ≢ n) × IsTrue (sends t a)
      stay a p = elim (sent_before (out_of_queue t n) n state a p) [
        | inl is ↦ absurd (false≢true (sym idle ∙ is.1))
        | inr ne ↦ ne
      ]

pub ends_in_order : (t : Threads) (n : ℕ) (reply : Reply) → IsInOrder t → IsInOrder (end_call t n reply)
ends_in_order t n reply so = leaves_in_order t n (Running (Some reply)) refl so

pub receives_in_order : (t : Threads) (n : ℕ) (r : Receiving) → IsInOrder t → IsInOrder (start_receive t n r)
receives_in_order t n r so = leaves_in_order t n (IsReceiver r) refl so

-- A THREAD JOINS THE QUEUE

any_earlier : (a b y : ℕ) (front : List ℕ) → list_any (eq_by_cmp pair_cmp (a, b)) (map (λ x. (x, y)) front) ≡ (is_in front a && (b == y))
any_earlier a b y [] = refl
any_earlier a b y (x ∷ rest) =
    (λ i. tied_pair a b x y i || any_earlier a b y rest i) ∙ shuffle (a == x) (b == y) (is_in rest a) where
      shuffle : (p q r : Bool) → ((p && q) || (r && q)) ≡ ((p || r) && q)
      shuffle true true r = refl
      shuffle true false true = refl
      shuffle true false false = refl
      shuffle false q r = refl

joined : Threads → ℕ → Threads
joined t n = record t { before = set.union t.before (set.from_list (map (λ m. (m, n)) (senders t))) }

joined_before : (t : Threads) (n a b : ℕ) → set.contains (joined t n).before (a, b) ≡ (set.contains t.before (a, b) || (sends t a && (b == n)))
unfolding joined
joined_before t n a b =
    set.contains-union pairs_total t.before (set.from_list (map (λ m. (m, n)) (senders t))) (a, b)
    ∙ ap (λ v. set.contains t.before (a, b) || v) (set.contains-from_list pairs_total (map (λ m. (m, n)) (senders t)) (a, b) ∙ any_earlier a b n (senders t) ∙ ap (λ v. v && (b == n)) (is_in-senders t a))

pub sends_in_order : (t : Threads) (n : ℕ) (s : Sending) (caller : Thread) → thread_at t n ≡ Some caller → IsTrue (is_running caller.state) → IsInOrder t → IsInOrder (start_send t n s)
unfolding joined
sends_in_order t n s caller at running so =
    let new = start_send t n s in
    joins_in_order t new n so idle
    (λ a b h. elim (one _ _ (sym (joined_before t n a b) ∙ ap (λ q. set.contains q (a, b)) (sym (same_queue (joined t n) n (IsSender s))) ∙ h)) [
      | inl k ↦ inl k
      | inr k ↦ (let p = both _ _ k in inr (p.0, is_equal b n p.1))
    ])
    (λ a b h. into a b (ap (λ v. v || (sends t a && (b == n))) h))
    (λ a h. into a n (ap (λ v. set.contains t.before (a, n) || (v && (n == n))) h ∙ ap (λ v. set.contains t.before (a, n) || v) (eq-eqb n n refl) ∙ or_true (set.contains t.before (a, n))))
    (λ a h. elim (sent_before (joined t n) n (IsSender s) a h) [ inl is ↦ inl is.0 | inr ne ↦ inr ne.1 ])
    (λ a h. elim (same_or a n) [
      | inl is ↦ absurd (idle (subst (λ (m : ℕ). IsTrue (sends t m)) is h))
      | inr ne ↦ sends_other (joined t n) n (IsSender s) a ne ∙ h
    ])
    (here t n s caller at) where
      idle : ¬ (IsTrue (sends t n))
      idle h = no caller.state running (sym (sender_at t n caller at) ∙ h) where
        no : (state : State) → IsTrue (is_running state) → IsTrue (is_sending state) → ⊥
        no (Running r) a b = false≢true b
        no (IsSender q) a b = false≢true a
        no (IsReceiver q) a b = false≢true a

      or_true : (b : Bool) → (b || true) ≡ true
      or_true true = refl
      or_true false = refl

      is_equal : (a b : ℕ) → IsTrue (a == b) → a ≡ b
      is_equal a b h = elim (eqb_tells a b) [ inl k ↦ k.1 | inr k ↦ absurd (false≢true (sym k.0 ∙ h)) ]

      into : (a b : ℕ) → IsTrue (set.contains t.before (a, b) || (sends t a && (b == n))) → Before (start_send t n s) a b
      into a b h = ap (λ q. set.contains q (a, b)) (same_queue (joined t n) n (IsSender s)) ∙ joined_before t n a b ∙ h

      here : (t : Threads) (n : ℕ) (s : Sending) (caller : Thread) → thread_at t n ≡ Some caller → IsTrue (sends (start_send t n s) n)
      here t n s caller at =
          let e : start_send t n s ≡ record (joined t n) { threads = fin.insert t.threads n (record caller { state = IsSender s }) } =
          ap (λ o. option_map_or (λ x. record (joined t n) { threads = fin.insert t.threads n (record x { state = IsSender s }) }) o (joined t n)) at in
          ap (λ (x : Threads). sends x n) e
          ∙ ap (λ o. option_map_or is_sending (option_map (λ (x : Thread). x.state) o) false)
          (fin.get-insert nat_cmp_total t.threads n (record caller { state = IsSender s }) n ∙ ap (λ b. cond b (Some (record caller { state = IsSender s })) (thread_at t n)) (unsigned_tied n n ∙ eq-eqb n n refl))

-- THREADS THAT ARE CREATED, CHANGED AND DELETED

-- the same threads send, and the queue is the same
pub same_in_order : (old new : Threads) → new.before ≡ old.before → ((m : ℕ) → sends new m ≡ sends old m) → IsInOrder old → IsInOrder new
same_in_order old new queue same so =
    stays_in_order old new so
    (λ a b h. let k = ap (λ q. set.contains q (a, b)) (sym queue) ∙ h in let p = so.only a b k in (k, same a ∙ p.0, same b ∙ p.1))
    (λ a b h p q. ap (λ s. set.contains s (a, b)) queue ∙ h)
    (λ a p. sym (same a) ∙ p)

sends_put : (t : Threads) (n : ℕ) (thread : Thread) (m : ℕ) → is_sending thread.state ≡ sends t n
    → option_map_or is_sending (option_map (λ (x : Thread). x.state) (fin.get (fin.insert t.threads n thread) m)) false ≡ sends t m
sends_put t n thread m same =
    ap (λ o. option_map_or is_sending (option_map (λ (x : Thread). x.state) o) false) (fin.get-insert nat_cmp_total t.threads n thread m)
    ∙ elim (same_or m n) [
      | inl is ↦ ap (λ b. option_map_or is_sending (option_map (λ (x : Thread). x.state) (cond b (Some thread) (thread_at t m))) false) (unsigned_tied m n ∙ eq-eqb m n is) ∙ same ∙ ap (sends t) (sym is)
      | inr ne ↦ ap (λ b. option_map_or is_sending (option_map (λ (x : Thread). x.state) (cond b (Some thread) (thread_at t m))) false) (unsigned_tied m n ∙ differs m n ne)
    ]

pub created_in_order : (t : Threads) (id : ThreadId) (space : ℕ) (pager : ThreadId) → thread_at t (number_of id) ≡ None → IsInOrder t → IsInOrder (created t id space pager)
created_in_order t id space pager free so =
    same_in_order t (created t id space pager) refl
    (λ m. sends_put t (number_of id) (record { id = id; space = space; pager = pager; state = Running None }) m
    (sym (ap (λ o. option_map_or is_sending (option_map (λ (x : Thread). x.state) o) false) free)))
    so

pub pager_in_order : (t : Threads) (n : ℕ) (pager : ThreadId) → IsInOrder t → IsInOrder (with_pager t n pager)
pager_in_order t n pager so =
    elim (thread_at t n) as (λ o. thread_at t n ≡ o → IsInOrder (option_map_or (λ thread. record t { threads = fin.insert t.threads n (record thread { pager = pager }) }) o t)) [
      | None ↦ λ e. so
      | Some thread ↦ λ e. same_in_order t (record t { threads = fin.insert t.threads n (record thread { pager = pager }) }) refl
          (λ m. sends_put t n (record thread { pager = pager }) m (sym (sender_at t n thread e))) so
    ] refl

-- a wait that ended with the deletion of a thread was one before
freed_sends : (n : ℕ) (state : State) → IsTrue (is_sending (without_partner n state)) → IsTrue (is_sending state)
freed_sends n (Running r) h = absurd (false≢true h)
freed_sends n (IsSender s) h = refl
freed_sends n (IsReceiver r) h =
    elim (waits_for n r.«from») as (λ b. IsTrue (is_sending (if b then Running (Some (failed r.fault 5)) else IsReceiver r)) → IsTrue (is_sending (IsReceiver r))) [
      | true ↦ λ k. absurd (false≢true k)
      | false ↦ λ k. k
    ] h

pub deleted_in_order : (n : ℕ) (old new : Threads) → Deletes n old new → IsInOrder old → IsInOrder new
deleted_in_order n old new d so =
    stays_in_order old new so
    (λ a b h. let k = both _ _ (sym (d.queue a b) ∙ h) in let p = both _ _ k.1 in (k.0, p.0, p.1))
    (λ a b h p q. d.queue a b ∙ ap (λ v. v && (sends new a && sends new b)) h ∙ ap (λ v. v && sends new b) p ∙ q)
    were where
      were : (a : ℕ) → IsTrue (sends new a) → IsTrue (sends old a)
      were a h =
          elim (a == n) as (λ b. thread_at new a ≡ (if b then None else option_map (freed n) (thread_at old a)) → IsTrue (sends old a)) [
            | true ↦ λ e. absurd (false≢true (sym (ap (λ o. option_map_or is_sending (option_map (λ (x : Thread). x.state) o) false) e) ∙ h))
            | false ↦ λ e. was (thread_at old a) (sym (ap (λ o. option_map_or is_sending (option_map (λ (x : Thread). x.state) o) false) e) ∙ h)
          ] (d.threads a) where
            was : (o : Option Thread) → option_map_or is_sending (option_map (λ (x : Thread). x.state) (option_map (freed n) o)) false ≡ true → option_map_or is_sending (option_map (λ (x : Thread). x.state) o) false ≡ true
            was None k = k
            was (Some thread) k = freed_sends n thread.state k

-- AT BOOT

nobody : Threads
nobody = record first_threads { threads = fin.empty }

sigma0_alone : Threads
sigma0_alone = record first_threads { threads = fin.insert fin.empty 1 (record { id = record { 0 = 0x4001 }; space = 0; pager = nilthread; state = Running None }) }

nobody_sends : (m : ℕ) → sends nobody m ≡ false
unfolding nobody
nobody_sends m = ap (λ o. option_map_or is_sending (option_map (λ (x : Thread). x.state) o) false) (fin.get-empty nat_cmp m)

sigma0_is_silent : (m : ℕ) → sends sigma0_alone m ≡ false
unfolding sigma0_alone nobody
sigma0_is_silent m = sends_put nobody 1 (record { id = record { 0 = 0x4001 }; space = 0; pager = nilthread; state = Running None }) m (sym (nobody_sends 1)) ∙ nobody_sends m

none_sends_first : (m : ℕ) → sends first_threads m ≡ false
unfolding sigma0_alone
none_sends_first m = sends_put sigma0_alone 2 (record { id = record { 0 = 0x8001 }; space = 1; pager = record { 0 = 0x4001 }; state = Running None }) m (sym (sigma0_is_silent 2)) ∙ sigma0_is_silent m

pub first_in_order : IsInOrder first_threads
first_in_order = record {
  only = λ a b h. absurd (false≢true (sym (set.contains-empty pair_cmp (a, b)) ∙ h));
  apart = λ a b h back. false≢true (sym (set.contains-empty pair_cmp (a, b)) ∙ h);
  total = λ a b p q ne. absurd (false≢true (sym (none_sends_first a) ∙ p));
}

-- STEPS

-- what a thread does next, if it does not send
abbrev DoesNotSend : Next → Type 0
DoesNotSend (Ends reply) = Unit {0}
DoesNotSend (Sends s) = ⊥
DoesNotSend (Receives r) = Unit {0}

enters_in_order : (t : Threads) (n : ℕ) (next : Next) (caller : Thread) → thread_at t n ≡ Some caller → IsTrue (is_running caller.state) → IsInOrder t → IsInOrder (enters t n next)
enters_in_order t n (Ends reply) caller at running so = ends_in_order t n reply so
enters_in_order t n (Sends s) caller at running so = sends_in_order t n s caller at running so
enters_in_order t n (Receives r) caller at running so = receives_in_order t n r so

goes_in_order : (t : Threads) (n : ℕ) (next : Next) → DoesNotSend next → IsInOrder t → IsInOrder (enters t n next)
goes_in_order t n (Ends reply) quiet so = ends_in_order t n reply so
goes_in_order t n (Sends s) quiet so = absurd quiet
goes_in_order t n (Receives r) quiet so = receives_in_order t n r so

going_quiet : (t : Threads) (later : Option Later) (fault : Bool) → DoesNotSend (going_on t later fault)
going_quiet t None fault = tt
going_quiet t (Some later) fault =
    elim (later.«from».0 == 0xffff_ffff) as (λ b. DoesNotSend (if b then Receives (record { «from» = Anyone; window = later.window; expires = later.expires; fault = fault }) else
    option_map_or (λ n. Receives (record { «from» = One n; window = later.window; expires = later.expires; fault = fault })) (named t later.«from») (Ends (failed fault 5)))) [
      | true ↦ tt
      | false ↦ elim (named t later.«from») as (λ o. DoesNotSend (option_map_or (λ n. Receives (record { «from» = One n; window = later.window; expires = later.expires; fault = fault })) o (Ends (failed fault 5)))) [
        | None ↦ tt
        | Some n ↦ tt
      ]
    ]

sender_quiet : (done : Bool) (t : Threads) (s : Sending) → DoesNotSend (sender_next done t s)
sender_quiet true t s = going_quiet t s.«then» s.fault
sender_quiet false t s = tt

-- the number of a new thread is free
free_number : (t : Threads) (caller : ℕ) (id space : ThreadId) (own : ℕ) → create_test t caller id space ≡ Ok own → thread_at t (number_of id) ≡ None
free_number t caller id space own h =
    let free = (past _ Taken _ own (past _ BadId _ own (past _ NoPrivilege _ own h).1).1).0 in
    elim (thread_at t (number_of id)) as (λ o. is_some o ≡ false → o ≡ None) [
      | None ↦ λ e. refl
      | Some thread ↦ λ e. absurd (false≢true (sym e))
    ] free

start_in_order : (old : Machine) (n : ℕ) (caller : Thread) (call : Call) (ended : List ℕ) (new : Machine) → thread_at old.threads n ≡ Some caller → IsTrue (is_running caller.state)
    → Starts old n caller call ended new → IsInOrder old.threads → IsInOrder new.threads
start_in_order old n caller (Ipc call) ended new at running x so =
    subst (λ (m : Machine). IsInOrder m.threads) (sym x.4) (enters_in_order old.threads n (ipc_next old.threads n call x.0 x.1) caller at running so)
start_in_order old n caller (Fault call) ended new at running x so =
    subst (λ (m : Machine). IsInOrder m.threads) (sym x.1) (enters_in_order old.threads n (fault_next old.size old.threads old.mappings n caller.space caller.pager call) caller at running so)
start_in_order old n caller (Unmap call) ended new at running x so = subst IsInOrder (sym x.3) (ends_in_order old.threads n Unmapped so)
start_in_order old n caller (Controls (Create c)) ended new at running x so =
    subst (λ (m : Machine). IsInOrder m.threads) (sym x.3)
    (ends_in_order (created old.threads c.id x.0 c.pager) n Controlled (created_in_order old.threads c.id x.0 c.pager (free_number old.threads n c.id c.space x.0 x.1) so))
start_in_order old n caller (Controls (SetPager c)) ended new at running x so =
    subst (λ (m : Machine). IsInOrder m.threads) (sym x.3) (ends_in_order (with_pager old.threads x.0 c.pager) n Controlled (pager_in_order old.threads x.0 c.pager so))
start_in_order old n caller (Controls (Delete id)) ended new at running x so =
    subst IsInOrder (sym x.5.threads) (ends_in_order x.5.left n Controlled (deleted_in_order x.0 old.threads x.5.left x.5.deleted so))

pub step_in_order : (old : Machine) (step : Step) (answer : Result Answer Refused) (new : Machine) → Steps old step answer new → IsInOrder old.threads → IsInOrder new.threads
step_in_order old (Start n call) (Ok answer) new x so = start_in_order old n x.0 call answer.ended.items new x.1 x.2 x.4 so
step_in_order old (Start n call) (Err e) new x so = subst (λ (m : Machine). IsInOrder m.threads) (sym x.1) so
step_in_order old (Transfer s r) (Ok answer) new x so =
    subst IsInOrder (sym x.7)
    (goes_in_order (end_call old.threads r _) s (sender_next (is_done answer.outcome) old.threads x.2) (sender_quiet (is_done answer.outcome) old.threads x.2) (ends_in_order old.threads r _ so))
step_in_order old (Transfer s r) (Err e) new x so = subst (λ (m : Machine). IsInOrder m.threads) (sym x.2) so
step_in_order old (Expire n) (Ok answer) new x so = subst (λ (m : Machine). IsInOrder m.threads) (sym x.3) (ends_in_order old.threads n (expiry x.0.state) so)
step_in_order old (Expire n) (Err e) new x so = subst (λ (m : Machine). IsInOrder m.threads) (sym x.2) so
step_in_order old (Cancel n cause) (Ok answer) new x so = subst (λ (m : Machine). IsInOrder m.threads) (sym x.3) (ends_in_order old.threads n (cancellation cause x.0.state) so)
step_in_order old (Cancel n cause) (Err e) new x so = subst (λ (m : Machine). IsInOrder m.threads) (sym x.2) so

-- the queue of a kernel's threads is in order
pub consistent_in_order : (t : Threads) → IsConsistent t → IsInOrder t
consistent_in_order t c = record {
  only = c.senders_only;
  apart = λ a b x y. c.irreflexive a (c.transitive a b a x y);
  total = c.total;
}
