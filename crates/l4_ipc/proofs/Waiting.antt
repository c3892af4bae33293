-- What a step does to the calls of threads: which wait on, and which are over.
use Rattle.std.proofs.Common.{◌≡◌, ◌≢◌, ℕ, suc, zero, ◌<◌, ◌==◌, not, ◌⊎◌, inl, inr, cond, Bool, true, false, if◌then◌else◌, List, [], ◌∷◌, ◌++◌, length, slice_index_or, Option, Some, None, is_some, Ok, Contains, refl, sym, ap, ◌∙◌, subst, arith, eq-eqb}
use Rattle.std.specs.Option.{option_map_or, option_map}
use Rattle.std.specs.Cmp.{unsigned_tied, nat_cmp_total}
use Rattle.std.specs.FinMap as fin
use Rattle.std.proofs.lemmas.Bool.{false≢true}
use Rattle.std.proofs.lemmas.Bool.Decides.{eqb_tells}
use Rattle.l4_threads.specs.declared.Reply.{Reply}
use Rattle.l4_threads.specs.declared.Reply.TheVariants.{Unmapped, Controlled}
use Rattle.l4_threads.specs.declared.Sending.{Sending}
use Rattle.l4_threads.specs.declared.Receiving.{Receiving}
use Rattle.l4_threads.specs.declared.State.{State}
use Rattle.l4_threads.specs.declared.State.TheVariants.{Running, Sending as IsSender, Receiving as IsReceiver}
use Rattle.l4_threads.specs.declared.Thread.{Thread}
use Rattle.l4_threads.specs.declared.ThreadId.{ThreadId}
use Rattle.l4_threads.specs.declared.ThreadFault.TheVariants.{NoPrivilege, BadId, Taken}
use Rattle.l4_threads.specs.Threads.{Threads, thread_at, state_of, is_running, with_state, out_of_queue, end_call, failed, number_of}
use Rattle.l4_threads.specs.Control.{create_test, created, is_privileged, is_bad_id, with_pager, without_partner, freed, waits_for, Deletes, waits}
use Rattle.l4_ipc.specs.declared.calls.Call.{Call}
use Rattle.l4_ipc.specs.declared.calls.Call.TheVariants.{Ipc, Fault, Unmap, Control as Controls}
use Rattle.l4_ipc.specs.declared.calls.Control.TheVariants.{Create, SetPager, Delete}
use Rattle.l4_phases.specs.declared.turns.Next.{Next}
use Rattle.l4_phases.specs.declared.turns.Next.TheVariants.{Ends, Sends, Receives}
use Rattle.l4_ipc.specs.declared.steps.Answer.{Answer}
use Rattle.l4_ipc.specs.declared.steps.Step.{Step}
use Rattle.l4_ipc.specs.declared.steps.Step.TheVariants.{Start, Transfer, Expire, Cancel}
use Rattle.l4_ipc.specs.Machine.{Machine}
use Rattle.l4_phases.specs.Phases.{enters, ended_by}
use Rattle.l4_ipc.specs.Start.{ipc_next, fault_next}
use Rattle.l4_ipc.specs.Steps.{Steps, Waits, is_done, sender_next, receiver_reply, expiry, Meets, cancellation}
use Rattle.l4_ipc.proofs.Threads.{past, state_other}
use Rattle.l4_ipc.proofs.Deletes.{differs}

-- the thread is not there, or runs with a reply
abbrev pub IsOver : Option State → Type 0
IsOver None = Unit {0}
IsOver (Some (Running None)) = ⊥
IsOver (Some (Running (Some reply))) = Unit {0}
IsOver (Some (IsSender s)) = ⊥
IsOver (Some (IsReceiver r)) = ⊥

-- ONE THREAD'S STATE

abbrev state_in : Option Thread → Option State
state_in o = option_map (λ (x : Thread). x.state) o

here : (t : Threads) (n : ℕ) (state : State) (thread : Thread) → thread_at t n ≡ Some thread → state_of (with_state t n state) n ≡ Some state
here t n state thread is =
    ap (λ o. state_of (option_map_or (λ x. record t { threads = fin.insert t.threads n (record x { state = state }) }) o t) n) is
    ∙ ap state_in (fin.get-insert nat_cmp_total t.threads n (record thread { state = state }) n ∙ ap (λ b. cond b (Some (record thread { state = state })) (thread_at t n)) (unsigned_tied n n ∙ eq-eqb n n refl))

elsewhere : (t : Threads) (n : ℕ) (state : State) (m : ℕ) → m ≢ n → state_of (with_state t n state) m ≡ state_of t m
elsewhere t n state m other = ap state_in (state_other t n state m other)

-- an ended call is over, also where its thread is not there
pub over_end : (t : Threads) (n : ℕ) (reply : Reply) → IsOver (state_of (end_call t n reply) n)
over_end t n reply =
    elim (thread_at t n) as (λ o. thread_at t n ≡ o → IsOver (state_of (end_call t n reply) n)) [
      | None ↦ λ is.
          let u : Threads = out_of_queue t n in
          let e : end_call t n reply ≡ u = ap (λ o. option_map_or (λ x. record u { threads = fin.insert u.threads n (record x { state = Running (Some reply) }) }) o u) is in
          subst IsOver (sym (ap (λ (v : Threads). state_of v n) e ∙ ap state_in is)) tt
      | Some thread ↦ λ is. subst IsOver (sym (here (out_of_queue t n) n (Running (Some reply)) thread is)) tt
    ] refl

abbrev state_after : Next → State
state_after (Ends reply) = Running (Some reply)
state_after (Sends s) = IsSender s
state_after (Receives r) = IsReceiver r

entered : (t : Threads) (n : ℕ) (next : Next) (thread : Thread) → thread_at t n ≡ Some thread → state_of (enters t n next) n ≡ Some (state_after next)
entered t n (Ends reply) thread is = here _ n (Running (Some reply)) thread is
entered t n (Sends s) thread is = here _ n (IsSender s) thread is
entered t n (Receives r) thread is = here _ n (IsReceiver r) thread is

entered_else : (t : Threads) (n : ℕ) (next : Next) (m : ℕ) → m ≢ n → state_of (enters t n next) m ≡ state_of t m
entered_else t n (Ends reply) m other = elsewhere _ n (Running (Some reply)) m other
entered_else t n (Sends s) m other = elsewhere _ n (IsSender s) m other
entered_else t n (Receives r) m other = elsewhere _ n (IsReceiver r) m other

-- LISTED THREADS

first_or : (k : ℕ) (xs : List ℕ) (n : ℕ) → Contains (k ∷ xs) n → (n ≡ k) ⊎ Contains xs n
first_or k xs n c = at c.0 c.1 c.2 where
  at : (i : ℕ) → i < length (k ∷ xs) → slice_index_or (k ∷ xs) i n ≡ n → (n ≡ k) ⊎ Contains xs n
  at zero lt is = inl (sym is)
  at (suc i) lt is = inr (i, omega (arith, lt), is)

none_in : (n : ℕ) → ¬ (Contains [] n)
none_in n c = (let lt = c.1 in absurd (omega (arith, lt)))

only : (k n : ℕ) → Contains (k ∷ []) n → n ≡ k
only k n c = elim (first_or k [] n c) [ inl is ↦ is | inr none ↦ absurd (none_in n none) ]

last_or : (xs : List ℕ) (k n : ℕ) → Contains (xs ++ k ∷ []) n → Contains xs n ⊎ (n ≡ k)
last_or [] k n c = inr (only k n c)
last_or (x ∷ xs) k n c = elim (first_or x (xs ++ k ∷ []) n c) [
  | inl is ↦ inl (0, omega arith, sym is)
  | inr rest ↦ elim (last_or xs k n rest) [
    | inl old ↦ inl (suc old.0, (let lt = old.1 in omega (arith, lt)), old.2)
    | inr is ↦ inr is
  ]
]

in_first : (k : ℕ) (xs : List ℕ) (n : ℕ) → n ≡ k → Contains (k ∷ xs) n
in_first k xs n is = (0, omega arith, sym is)

in_rest : (k : ℕ) (xs : List ℕ) (n : ℕ) → Contains xs n → Contains (k ∷ xs) n
in_rest k xs n c = (suc c.0, (let lt = c.1 in omega (arith, lt)), c.2)

in_last : (xs : List ℕ) (k n : ℕ) → n ≡ k → Contains (xs ++ k ∷ []) n
in_last [] k n is = in_first k [] n is
in_last (x ∷ xs) k n is = in_rest x (xs ++ k ∷ []) n (in_last xs k n is)

in_front : (xs : List ℕ) (k n : ℕ) → Contains xs n → Contains (xs ++ k ∷ []) n
in_front [] k n c = absurd (none_in n c)
in_front (x ∷ xs) k n c = elim (first_or x xs n c) [ inl is ↦ in_first x (xs ++ k ∷ []) n is | inr rest ↦ in_rest x (xs ++ k ∷ []) n (in_front xs k n rest) ]

over_entered : (t : Threads) (k : ℕ) (next : Next) (n : ℕ) → Contains (ended_by k next) n → IsOver (state_of (enters t k next) n)
over_entered t k (Ends reply) n c = subst (λ (j : ℕ). IsOver (state_of (end_call t k reply) j)) (sym (only k n c)) (over_end t k reply)
over_entered t k (Sends s) n c = absurd (none_in n c)
over_entered t k (Receives r) n c = absurd (none_in n c)

over_at : (t u : Threads) (k n : ℕ) (reply : Reply) → n ≡ k → u ≡ end_call t k reply → IsOver (state_of u n)
over_at t u k n reply same is = subst (λ (v : Threads). IsOver (state_of v n)) (sym is) (subst (λ (j : ℕ). IsOver (state_of (end_call t k reply) j)) (sym same) (over_end t k reply))

-- DELETED THREADS

freed_over : (victim : ℕ) (state : State) → is_running state ≡ false → is_running (without_partner victim state) ≡ true → IsOver (Some (without_partner victim state))
freed_over victim (Running reply) was now = absurd (false≢true (sym was))
freed_over victim (IsSender s) was now =
    elim (s.to == victim) as (λ b. is_running (if b then Running (Some (failed s.fault 4)) else IsSender s) ≡ true → IsOver (Some (if b then Running (Some (failed s.fault 4)) else IsSender s))) [ true ↦ λ h. tt | false ↦ λ h. absurd (false≢true h) ] now
freed_over victim (IsReceiver r) was now =
    elim (waits_for victim r.«from») as (λ b. is_running (if b then Running (Some (failed r.fault 5)) else IsReceiver r) ≡ true → IsOver (Some (if b then Running (Some (failed r.fault 5)) else IsReceiver r))) [ true ↦ λ h. tt | false ↦ λ h. absurd (false≢true h) ] now

same_some : (a b : Bool) → ◌≡◌ {A = Option Bool} (Some a) (Some b) → a ≡ b
same_some a b e = cc

-- what is left of a thread that waited, where it isn't the victim
left_state : (old left : Threads) (victim n : ℕ) → Deletes victim old left → n ≢ victim → option_map is_running (state_of old n) ≡ Some false
    → (state : State) × (is_running state ≡ false) × (state_of left n ≡ Some (without_partner victim state))
left_state old left victim n d other waits =
    elim (thread_at old n) as (λ o. thread_at old n ≡ o → option_map is_running (state_in o) ≡ Some false → (state : State) × (is_running state ≡ false) × (state_of left n ≡ Some (without_partner victim state))) [
      | None ↦ λ is w. absurd (let k : ◌≡◌ {A = Option Bool} None (Some false) = w in cc)
      | Some before ↦ λ is w. (
        before.state,
        same_some (is_running before.state) false w,
        ap state_in (d.threads n ∙ ap (λ b. if b then None else option_map (freed victim) (thread_at old n)) (differs n victim other) ∙ ap (option_map (freed victim)) is),
      )
    ] refl waits

not_false : (b : Bool) → ¬ (b ≡ false) → b ≡ true
not_false true h = refl
not_false false h = absurd (h refl)

over_deleted : (old left new : Threads) (caller victim n : ℕ) → Deletes victim old left → new ≡ end_call left caller Controlled → waits old n × ¬ (waits new n) → IsOver (state_of new n)
over_deleted old left new caller victim n d is ended =
    elim (eqb_tells n caller) [
      | inl same ↦ over_at left new caller n Controlled same.1 is
      | inr other ↦
          let e : state_of new n ≡ state_of left n = ap (λ (t : Threads). state_of t n) is ∙ elsewhere (out_of_queue left caller) caller (Running (Some Controlled)) n other.1 in
          elim (eqb_tells n victim) [
            | inl own ↦ subst IsOver (sym (e ∙ ap state_in (d.threads n ∙ ap (λ b. if b then None else option_map (freed victim) (thread_at old n)) own.0))) tt
            | inr alive ↦
                let st = left_state old left victim n d alive.1 ended.0 in
                let now : is_running (without_partner victim st.0) ≡ true = not_false _ (λ still. ended.1 (ap (option_map is_running) (e ∙ st.2) ∙ ap (λ b. Some b) still)) in
                subst IsOver (sym (e ∙ st.2)) (freed_over victim st.0 st.1 now)
          ]
    ]

-- THE STEPS

apart : (old : Machine) (a b : ℕ) («from» to : Thread) (sends : Sending) (takes : Receiving) → Meets old.threads a b «from» to sends takes → a ≢ b
apart old a b «from» to sends takes meets same =
    let k : ◌≡◌ {A = Option Thread} (Some «from») (Some to) = sym meets.from_at ∙ ap (thread_at old.threads) same ∙ meets.to_at in
    let e : «from» ≡ to = cc in
    let f : ◌≡◌ {A = State} (IsSender sends) (IsReceiver takes) = sym meets.from_state ∙ ap (λ (x : Thread). x.state) e ∙ meets.to_state in
    cc

-- the call of each listed thread is over
pub over : (old new : Machine) (step : Step) (answer : Answer) (n : ℕ) → Steps old step (Ok answer) new → Contains answer.ended.items n → IsOver (state_of new.threads n)
over old new (Start k (Ipc call)) answer n s among =
    subst (λ (m : Machine). IsOver (state_of m.threads n)) (sym s.4.4) (over_entered old.threads k (ipc_next old.threads k call s.4.0 s.4.1) n (subst (λ (xs : List ℕ). Contains xs n) s.4.3 among))
over old new (Start k (Fault call)) answer n s among =
    subst (λ (m : Machine). IsOver (state_of m.threads n)) (sym s.4.1) (over_entered old.threads k (fault_next old.size old.threads old.mappings k s.0.space s.0.pager call) n (subst (λ (xs : List ℕ). Contains xs n) s.4.0 among))
over old new (Start k (Unmap call)) answer n s among =
    over_at old.threads new.threads k n Unmapped (only k n (subst (λ (xs : List ℕ). Contains xs n) s.4.2 among)) s.4.3
over old new (Start k (Controls (Create c))) answer n s among =
    over_at (created old.threads c.id s.4.0 c.pager) new.threads k n Controlled (only k n (subst (λ (xs : List ℕ). Contains xs n) s.4.2 among)) (ap (λ (m : Machine). m.threads) s.4.3)
over old new (Start k (Controls (SetPager c))) answer n s among =
    over_at (with_pager old.threads s.4.0 c.pager) new.threads k n Controlled (only k n (subst (λ (xs : List ℕ). Contains xs n) s.4.2 among)) (ap (λ (m : Machine). m.threads) s.4.3)
over old new (Start k (Controls (Delete id))) answer n s among =
    let d = s.4.5 in
    let others = s.4.4 in
    elim (first_or k others.0 n (subst (λ (xs : List ℕ). Contains xs n) others.1 among)) [
      | inl is ↦ over_at d.left new.threads k n Controlled is d.threads
      | inr c ↦ over_deleted old.threads d.left new.threads k s.4.0 n d.deleted d.threads ((others.2.each n).0 c)
    ]
over old new (Transfer a b) answer n s among =
    let next : Next = sender_next (is_done answer.outcome) old.threads s.2 in
    let reply : Reply = receiver_reply (is_done answer.outcome) s.0 s.2 s.3 in
    let between : Threads = end_call old.threads b reply in
    subst (λ (t : Threads). IsOver (state_of t n)) (sym s.7)
    (elim (last_or (ended_by a next) b n (subst (λ (xs : List ℕ). Contains xs n) s.6 among)) [
      | inl c ↦ over_entered between a next n c
      | inr is ↦ elim (eqb_tells n a) [
        | inl same ↦ absurd (apart old a b s.0 s.1 s.2 s.3 s.4 (sym same.1 ∙ is))
        | inr other ↦ subst IsOver (sym (entered_else between a next n other.1)) (over_at old.threads between b n reply is refl)
      ]
    ])
over old new (Expire k) answer n s among =
    over_at old.threads new.threads k n (expiry s.0.state) (only k n (subst (λ (xs : List ℕ). Contains xs n) s.2 among)) (ap (λ (m : Machine). m.threads) s.3)
over old new (Cancel k cause) answer n s among =
    over_at old.threads new.threads k n (cancellation cause s.0.state) (only k n (subst (λ (xs : List ℕ). Contains xs n) s.2 among)) (ap (λ (m : Machine). m.threads) s.3)

-- WHO WAITS

abbrev IsWaiting : Option State → Type 0
IsWaiting o = option_map is_running o ≡ Some false

-- the thread that waits isn't the one that runs
waits_apart : (t : Threads) (k n : ℕ) (caller : Thread) → thread_at t k ≡ Some caller → is_running caller.state ≡ true → IsWaiting (state_of t n) → n ≢ k
waits_apart t k n caller at runs waits same =
    let e : option_map is_running (state_of t n) ≡ Some (is_running caller.state) = ap (λ (j : ℕ). option_map is_running (state_of t j)) same ∙ ap (λ o. option_map is_running (state_in o)) at in
    false≢true (same_some false true (sym waits ∙ e ∙ ap (λ b. Some b) runs))

waits_entered : (t : Threads) (k : ℕ) (next : Next) (thread : Thread) → thread_at t k ≡ Some thread → ¬ (Contains (ended_by k next) k) → IsWaiting (state_of (enters t k next) k)
waits_entered t k (Ends reply) thread at left = absurd (left (in_first k [] k refl))
waits_entered t k (Sends s) thread at left = ap (option_map is_running) (entered t k (Sends s) thread at)
waits_entered t k (Receives r) thread at left = ap (option_map is_running) (entered t k (Receives r) thread at)

waits_else : (t u : Threads) (k : ℕ) (reply : Reply) (n : ℕ) → u ≡ end_call t k reply → n ≢ k → IsWaiting (state_of t n) → IsWaiting (state_of u n)
waits_else t u k reply n is other waits =
    ap (λ (v : Threads). option_map is_running (state_of v n)) is ∙ ap (option_map is_running) (elsewhere (out_of_queue t k) k (Running (Some reply)) n other) ∙ waits

free_number : (t : Threads) (caller : ℕ) (id other : ThreadId) (space : ℕ) → create_test t caller id other ≡ Ok space → is_some (thread_at t (number_of id)) ≡ false
free_number t caller id other space test =
    let a = past (not (is_privileged t caller)) NoPrivilege _ space test in
    let b = past (is_bad_id id) BadId _ space a.1 in
    (past (is_some (thread_at t (number_of id))) Taken _ space b.1).0

created_else : (t : Threads) (id : ThreadId) (space : ℕ) (pager : ThreadId) (n : ℕ) → is_some (thread_at t (number_of id)) ≡ false → IsWaiting (state_of t n) → IsWaiting (state_of (created t id space pager) n)
created_else t id space pager n free waits =
    let other : n ≢ number_of id = λ same. absent (thread_at t (number_of id)) free (ap (λ (j : ℕ). option_map is_running (state_of t j)) (sym same) ∙ waits) in
    ap (λ o. option_map is_running (state_in o)) (fin.get-insert nat_cmp_total t.threads (number_of id) (record { id = id; space = space; pager = pager; state = Running None }) n
    ∙ ap (λ b. cond b (Some (record { id = id; space = space; pager = pager; state = Running None })) (thread_at t n)) (unsigned_tied n (number_of id) ∙ differs n (number_of id) other)) ∙ waits where
      absent : (o : Option Thread) → is_some o ≡ false → IsWaiting (state_in o) → ⊥
      absent None e w = let k : ◌≡◌ {A = Option Bool} None (Some false) = w in cc
      absent (Some x) e w = false≢true (sym e)

pager_else : (t : Threads) (k : ℕ) (pager : ThreadId) (n : ℕ) → IsWaiting (state_of t n) → IsWaiting (state_of (with_pager t k pager) n)
pager_else t k pager n waits =
    elim (thread_at t k) as (λ o. thread_at t k ≡ o → IsWaiting (state_of (option_map_or (λ x. record t { threads = fin.insert t.threads k (record x { pager = pager }) }) o t) n)) [
      | None ↦ λ is. waits
      | Some x ↦ λ is. elim (eqb_tells n k) [
        | inl same ↦
            ap (λ o. option_map is_running (state_in o)) (fin.get-insert nat_cmp_total t.threads k (record x { pager = pager }) n ∙ ap (λ b. cond b (Some (record x { pager = pager })) (thread_at t n)) (unsigned_tied n k ∙ same.0))
            ∙ ap (λ o. option_map is_running (state_in o)) (sym is) ∙ ap (λ (j : ℕ). option_map is_running (state_of t j)) (sym same.1) ∙ waits
        | inr other ↦
            ap (λ o. option_map is_running (state_in o)) (fin.get-insert nat_cmp_total t.threads k (record x { pager = pager }) n ∙ ap (λ b. cond b (Some (record x { pager = pager })) (thread_at t n)) (unsigned_tied n k ∙ other.0)) ∙ waits
      ]
    ] refl

settled : (o : Option Bool) → ¬ (¬ (o ≡ Some false)) → o ≡ Some false
settled None h = absurd (h (λ e. let k : ◌≡◌ {A = Option Bool} None (Some false) = e in cc))
settled (Some true) h = absurd (h (λ e. false≢true (sym (same_some true false e))))
settled (Some false) h = refl

-- a thread that waits and isn't listed waits on
pub still_waits : (old new : Machine) (step : Step) (answer : Answer) (n : ℕ) → Steps old step (Ok answer) new → Waits old n → ¬ (Contains answer.ended.items n) → Waits new n
still_waits old new (Start k (Ipc call)) answer n s waits left =
    let other = waits_apart old.threads k n s.0 s.1 s.2 waits in
    ap (λ (m : Machine). option_map is_running (state_of m.threads n)) s.4.4 ∙ ap (option_map is_running) (entered_else old.threads k (ipc_next old.threads k call s.4.0 s.4.1) n other) ∙ waits
still_waits old new (Start k (Fault call)) answer n s waits left =
    let other = waits_apart old.threads k n s.0 s.1 s.2 waits in
    ap (λ (m : Machine). option_map is_running (state_of m.threads n)) s.4.1 ∙ ap (option_map is_running) (entered_else old.threads k (fault_next old.size old.threads old.mappings k s.0.space s.0.pager call) n other) ∙ waits
still_waits old new (Start k (Unmap call)) answer n s waits left =
    waits_else old.threads new.threads k Unmapped n s.4.3 (waits_apart old.threads k n s.0 s.1 s.2 waits) waits
still_waits old new (Start k (Controls (Create c))) answer n s waits left =
    waits_else (created old.threads c.id s.4.0 c.pager) new.threads k Controlled n (ap (λ (m : Machine). m.threads) s.4.3) (waits_apart old.threads k n s.0 s.1 s.2 waits)
    (created_else old.threads c.id s.4.0 c.pager n (free_number old.threads k c.id c.space s.4.0 s.4.1) waits)
still_waits old new (Start k (Controls (SetPager c))) answer n s waits left =
    waits_else (with_pager old.threads s.4.0 c.pager) new.threads k Controlled n (ap (λ (m : Machine). m.threads) s.4.3) (waits_apart old.threads k n s.0 s.1 s.2 waits) (pager_else old.threads s.4.0 c.pager n waits)
still_waits old new (Start k (Controls (Delete id))) answer n s waits left =
    let others = s.4.4 in
    let not_listed : ¬ (Contains others.0 n) = λ c. left (subst (λ (xs : List ℕ). Contains xs n) (sym others.1) (in_rest k others.0 n c)) in
    settled (option_map is_running (state_of new.threads n)) (λ ended. not_listed ((others.2.each n).1 (waits, ended)))
still_waits old new (Transfer a b) answer n s waits left =
    let next : Next = sender_next (is_done answer.outcome) old.threads s.2 in
    let reply : Reply = receiver_reply (is_done answer.outcome) s.0 s.2 s.3 in
    let between : Threads = end_call old.threads b reply in
    let left' : ¬ (Contains (ended_by a next ++ b ∷ []) n) = λ c. left (subst (λ (xs : List ℕ). Contains xs n) (sym s.6) c) in
    let not_b : n ≢ b = λ same. left' (in_last (ended_by a next) b n same) in
    let there : thread_at between a ≡ Some s.0 = state_other (out_of_queue old.threads b) b (Running (Some reply)) a (apart old a b s.0 s.1 s.2 s.3 s.4) ∙ s.4.from_at in
    ap (λ (t : Threads). option_map is_running (state_of t n)) s.7
    ∙ elim (eqb_tells n a) [
      | inl same ↦ subst (λ (j : ℕ). IsWaiting (state_of (enters between a next) j)) (sym same.1)
          (waits_entered between a next s.0 there (λ c. left' (subst (λ (j : ℕ). Contains (ended_by a next ++ b ∷ []) j) (sym same.1) (in_front (ended_by a next) b a c))))
      | inr other ↦ ap (option_map is_running) (entered_else between a next n other.1) ∙ waits_else old.threads between b reply n refl not_b waits
    ]
still_waits old new (Expire k) answer n s waits left =
    let other : n ≢ k = λ same. left (subst (λ (xs : List ℕ). Contains xs n) (sym s.2) (in_first k [] n same)) in
    waits_else old.threads new.threads k (expiry s.0.state) n (ap (λ (m : Machine). m.threads) s.3) other waits
still_waits old new (Cancel k cause) answer n s waits left =
    let other : n ≢ k = λ same. left (subst (λ (xs : List ℕ). Contains xs n) (sym s.2) (in_first k [] n same)) in
    waits_else old.threads new.threads k (cancellation cause s.0.state) n (ap (λ (m : Machine). m.threads) s.3) other waits

-- a thread whose call started and isn't listed waits
pub starts_waiting : (old new : Machine) (call : Call) (answer : Answer) (n : ℕ) → Steps old (Start n call) (Ok answer) new → ¬ (Contains answer.ended.items n) → Waits new n
starts_waiting old new (Ipc call) answer n s left =
    ap (λ (m : Machine). option_map is_running (state_of m.threads n)) s.4.4
    ∙ waits_entered old.threads n (ipc_next old.threads n call s.4.0 s.4.1) s.0 s.1 (λ c. left (subst (λ (xs : List ℕ). Contains xs n) (sym s.4.3) c))
starts_waiting old new (Fault call) answer n s left =
    ap (λ (m : Machine). option_map is_running (state_of m.threads n)) s.4.1
    ∙ waits_entered old.threads n (fault_next old.size old.threads old.mappings n s.0.space s.0.pager call) s.0 s.1 (λ c. left (subst (λ (xs : List ℕ). Contains xs n) (sym s.4.0) c))
starts_waiting old new (Unmap call) answer n s left = absurd (left (subst (λ (xs : List ℕ). Contains xs n) (sym s.4.2) (in_first n [] n refl)))
starts_waiting old new (Controls (Create c)) answer n s left = absurd (left (subst (λ (xs : List ℕ). Contains xs n) (sym s.4.2) (in_first n [] n refl)))
starts_waiting old new (Controls (SetPager c)) answer n s left = absurd (left (subst (λ (xs : List ℕ). Contains xs n) (sym s.4.2) (in_first n [] n refl)))
starts_waiting old new (Controls (Delete id)) answer n s left = absurd (left (subst (λ (xs : List ℕ). Contains xs n) (sym s.4.4.1) (in_first n s.4.4.0 n refl)))
