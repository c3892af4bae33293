-- Each step keeps what holds of the kernel at all times.
use Rattle.std.proofs.Common.{◌≡◌, ℕ, ◌+◌, ◌<◌, ◌==◌, ◌||◌, ◌&&◌, not, Bool, true, false, if◌then◌else◌, Option, Some, None, List, [], Result, Ok, Err, IsTrue, refl, sym, ap, ◌∙◌, subst, inl, inr, ◌⊎◌, option_and_then, is_some, eq-eqb, arith}
use Rattle.std.specs.Option.{option_map_or, option_map}
use Rattle.std.specs.Ordering.{nat_cmp, eq_by_cmp}
use Rattle.std.specs.Cmp.{unsigned_tied, nat_cmp_total}
use Rattle.std.proofs.lemmas.Bool.{false≢true}
use Rattle.std.proofs.lemmas.Bool.Decides.{eqb_tells}
use Rattle.std.specs.FinMap as fin
use Rattle.std.specs.FinSet as set
use Rattle.l4_fpage.specs.Rights.{all_rights}
use Rattle.l4_fpage.specs.declared.fpages.Fpage.{Fpage}
use Rattle.l4_fpage.specs.declared.fpages.Fpage.TheVariants.{Complete}
use Rattle.l4_msg.specs.declared.items.Item.{Item}
use Rattle.l4_mapdb.specs.Mappings.{Mappings}
use Rattle.l4_forest.specs.Boot.{IsFirst}
use Rattle.l4_forest.specs.Losing.{EndsSpace}
use Rattle.l4_threads.specs.declared.Later.{Later}
use Rattle.l4_threads.specs.declared.Reply.TheVariants.{Hit, Unmapped, Controlled}
use Rattle.l4_threads.specs.declared.Sending.{Sending}
use Rattle.l4_threads.specs.declared.Source.TheVariants.{Anyone, Thread as One}
use Rattle.l4_threads.specs.declared.State.{State}
use Rattle.l4_threads.specs.declared.State.TheVariants.{Running, Sending as IsSender, Receiving as IsReceiver}
use Rattle.l4_threads.specs.declared.Thread.{Thread}
use Rattle.l4_threads.specs.declared.ThreadId.{ThreadId}
use Rattle.l4_threads.specs.declared.ThreadFault.{ThreadFault}
use Rattle.l4_threads.specs.declared.ThreadFault.TheVariants.{NoPrivilege, BadId, Taken, Unknown, Full}
use Rattle.l4_threads.specs.Threads.{Threads, pair_cmp, thread_at, space_of, named, number_of, failed, with_state, nilthread, first_threads, end_call}
use Rattle.l4_threads.specs.Control.{create_test, created, asks_new, is_privileged, is_bad_id, is_full, with_pager, waits_for, without_partner, Deletes, HasEnded}
use Rattle.l4_ipc.specs.declared.calls.Call.{Call}
use Rattle.l4_ipc.specs.declared.calls.Call.TheVariants.{Ipc, Fault, Unmap, Control as Controls}
use Rattle.l4_ipc.specs.declared.calls.Control.TheVariants.{Create, SetPager, Delete}
use Rattle.l4_ipc.specs.declared.calls.IpcCall.{IpcCall}
use Rattle.l4_ipc.specs.declared.calls.FaultCall.{FaultCall}
use Rattle.l4_phases.specs.declared.turns.Next.{Next}
use Rattle.l4_phases.specs.declared.turns.Next.TheVariants.{Ends, Sends, Receives}
use Rattle.l4_phases.specs.declared.turns.Sent.{Sent}
use Rattle.l4_ipc.specs.declared.steps.Answer.{Answer}
use Rattle.l4_ipc.specs.declared.steps.Outcome.{Outcome}
use Rattle.l4_ipc.specs.declared.steps.Outcome.TheVariants.{Started, Done, NoWindow, Entangled, NoMemory, Expired, Canceled}
use Rattle.l4_ipc.specs.declared.steps.Refused.{Refused}
use Rattle.l4_ipc.specs.declared.steps.Step.{Step}
use Rattle.l4_ipc.specs.declared.steps.Step.TheVariants.{Start, Transfer, Expire, Cancel}
use Rattle.l4_ipc.specs.Machine.{Machine, machine}
use Rattle.l4_phases.specs.Phases.{going_on, partner, enters}
use Rattle.l4_ipc.specs.Start.{has_send, IsSent, ipc_next, later_of, send_timeout, has_page, fault_words, fault_next}
use Rattle.l4_ipc.specs.Moving.{Moves}
use Rattle.l4_ipc.specs.Inside.Sound.{IsOfWords, AreSound, IsSound}
use Rattle.l4_ipc.specs.Steps.{receiver_reply, sender_next, is_done, expiry, with_space, Steps, cancellation}
use Rattle.l4_ipc.proofs.Items.{items_of_words}
use Rattle.l4_ipc.proofs.Deletes.{differs, left_at}
use Rattle.l4_ipc.proofs.Faults.{items_of_fault}
use Rattle.l4_ipc.proofs.Threads.{past, put_at, state_at, same_next, pager_at, pager_next}
use Rattle.l4_fpage.specs.declared.sizes.PageSize.{PageSize}
use Rattle.l4_fpage.specs.declared.sizes.PageSize.TheVariants.{Kib4}

-- THREADS

-- in this state the items of a message that waits are those of its words
abbrev pub IsFaithful : State → Type 0
IsFaithful (Running reply) = Unit {0}
IsFaithful (IsSender s) = IsOfWords s
IsFaithful (IsReceiver r) = Unit {0}

faithful_sends : (state : State) (sends : Sending) → IsFaithful state → state ≡ IsSender sends → IsOfWords sends
faithful_sends state sends faithful is = subst IsFaithful is faithful

pub sound_state : (spaces : set.FinSet nat_cmp) (t : Threads) (before : set.FinSet pair_cmp) (n : ℕ) (state : State) → IsFaithful state → AreSound spaces t
    → AreSound spaces (with_state (record t { before = before }) n state)
sound_state spaces t before n state faithful sound =
    let u : Threads = record t { before = before } in
    record {
      have_spaces = λ m thread at. let was = state_at u n state m thread at in subst (λ (space : ℕ). IsTrue (set.contains spaces space)) (sym was.space) (sound.have_spaces m was.before was.at);
      below = λ space there. subst (λ (k : ℕ). space < k) (sym (same_next u n state)) (sound.below space there);
      messages = λ m thread sends at is.
          let was = state_at u n state m thread at in
          elim was.state_is [
            | inl new ↦ faithful_sends state sends faithful (sym new.1 ∙ is)
            | inr other ↦ sound.messages m was.before sends was.at (sym other.1 ∙ is)
          ];
    }

sound_pager : (spaces : set.FinSet nat_cmp) (t : Threads) (n : ℕ) (pager : ThreadId) → AreSound spaces t → AreSound spaces (with_pager t n pager)
sound_pager spaces t n pager sound = record {
  have_spaces = λ m thread at. let was = pager_at t n pager m thread at in subst (λ (space : ℕ). IsTrue (set.contains spaces space)) (sym was.1.1.0) (sound.have_spaces m was.0 was.1.0);
  below = λ space there. subst (λ (k : ℕ). space < k) (sym (pager_next t n pager)) (sound.below space there);
  messages = λ m thread sends at is. let was = pager_at t n pager m thread at in sound.messages m was.0 sends was.1.0 (sym was.1.1.1 ∙ is);
}

-- and so in what comes next
abbrev IsFaithfulNext : Next → Type 0
IsFaithfulNext (Ends reply) = Unit {0}
IsFaithfulNext (Sends s) = IsOfWords s
IsFaithfulNext (Receives r) = Unit {0}

sound_enters : (spaces : set.FinSet nat_cmp) (t : Threads) (n : ℕ) (next : Next) → IsFaithfulNext next → AreSound spaces t → AreSound spaces (enters t n next)
sound_enters spaces t n (Ends reply) faithful sound = sound_state spaces t _ n (Running (Some reply)) tt sound
sound_enters spaces t n (Sends s) faithful sound = sound_state spaces t _ n (IsSender s) faithful sound
sound_enters spaces t n (Receives r) faithful sound = sound_state spaces t _ n (IsReceiver r) tt sound

faithful_going_on : (t : Threads) (later : Option Later) (fault : Bool) → IsFaithfulNext (going_on t later fault)
faithful_going_on t None fault = tt
faithful_going_on t (Some later) fault =
    elim (later.«from».0 == 0xffff_ffff) as (λ b. IsFaithfulNext (if b then Receives (record { «from» = Anyone; window = later.window; expires = later.expires; fault = fault }) else
    option_map_or (λ k. Receives (record { «from» = One k; window = later.window; expires = later.expires; fault = fault })) (named t later.«from») (Ends (failed fault 5)))) [
      | true ↦ tt
      | false ↦ elim (named t later.«from») as (λ o. IsFaithfulNext (option_map_or (λ k. Receives (record { «from» = One k; window = later.window; expires = later.expires; fault = fault })) o (Ends (failed fault 5)))) [
        | None ↦ tt
        | Some k ↦ tt
      ]
    ]

faithful_ipc : (t : Threads) (n : ℕ) (call : IpcCall) (sent : Sent) (window : Fpage) → IsSent (has_send call) call.words.items sent → IsFaithfulNext (ipc_next t n call sent window)
faithful_ipc t n call sent window sends =
    elim (has_send call) as (λ b. IsSent b call.words.items sent → IsFaithfulNext (if b then
    option_map_or (λ to. Sends (record { words = sent.words; items = sent.items; to = to; expires = send_timeout call == 0x400; «then» = later_of call window; fault = false })) (partner t n call.to) (Ends (failed false 4))
    else going_on t (later_of call window) false)) [
      | true ↦ λ is. elim (partner t n call.to) as (λ o. IsFaithfulNext (option_map_or (λ to. Sends (record { words = sent.words; items = sent.items; to = to; expires = send_timeout call == 0x400; «then» = later_of call window; fault = false })) o (Ends (failed false 4)))) [
        | None ↦ tt
        | Some to ↦ items_of_words call.words.items sent is.0 is.1 is.2 is.3
      ]
      | false ↦ λ is. faithful_going_on t (later_of call window) false
    ] sends

faithful_fault : (size : PageSize) (t : Threads) (s : Mappings) (n space : ℕ) (pager : ThreadId) (call : FaultCall) → IsFaithfulNext (fault_next size t s n space pager call)
faithful_fault size t s n space pager call =
    elim (has_page size s space call) as (λ b. IsFaithfulNext (if b then Ends Hit else
    option_map_or (λ to. Sends (record { words = record { items = fault_words call }; items = record { items = [] }; to = to; expires = false; «then» = Some (record { «from» = pager; window = Complete all_rights; expires = false }); fault = true }))
    (partner t n pager) (Ends (failed true 4)))) [
      | true ↦ tt
      | false ↦ elim (partner t n pager) as (λ o. IsFaithfulNext (option_map_or (λ to. Sends (record { words = record { items = fault_words call }; items = record { items = [] }; to = to; expires = false; «then» = Some (record { «from» = pager; window = Complete all_rights; expires = false }); fault = true })) o (Ends (failed true 4)))) [
        | None ↦ tt
        | Some to ↦ items_of_fault call
      ]
    ]

faithful_sender : (t : Threads) (done : Bool) (sends : Sending) → IsFaithfulNext (sender_next done t sends)
faithful_sender t true sends = faithful_going_on t sends.«then» sends.fault
faithful_sender t false sends = tt

-- CREATE

-- the space of a new thread is the next one, or one that a thread has
abbrev SpaceOf : Threads → Bool → ℕ → Type 0
SpaceOf t true space = space ≡ t.next_space
SpaceOf t false space = (n : ℕ) × ((thread : Thread) × ((thread_at t n ≡ Some thread) × (thread.space ≡ space)))

-- what is left of the test once the space is found
abbrev rest_of : Threads → Bool → Option ℕ → Result ℕ ThreadFault
rest_of t asks o = option_map_or (λ own. if is_full t asks then Err Full else Ok own) o (Err Unknown)

found_space : (t : Threads) (asks : Bool) (n : Option ℕ) (space : ℕ) → rest_of t asks (option_and_then (space_of t) n) ≡ Ok space → SpaceOf t false space
found_space t asks None space h = absurd (let k : ◌≡◌ {A = Result ℕ ThreadFault} (Err Unknown) (Ok space) = h in cc)
found_space t asks (Some n) space h =
    elim (thread_at t n) as (λ o. thread_at t n ≡ o → rest_of t asks (option_map (λ (x : Thread). x.space) o) ≡ Ok space → SpaceOf t false space) [
      | None ↦ λ _ e. absurd (let k : ◌≡◌ {A = Result ℕ ThreadFault} (Err Unknown) (Ok space) = e in cc)
      | Some thread ↦ λ at e.
          let last = past (is_full t asks) Full (Ok thread.space) space e in
          let k : ◌≡◌ {A = Result ℕ ThreadFault} (Ok thread.space) (Ok space) = last.1 in
          (n, (thread, (at, cc)))
    ] refl h

space_is : (t : Threads) (caller : ℕ) (id other : ThreadId) (space : ℕ) → create_test t caller id other ≡ Ok space → SpaceOf t (asks_new id other) space
space_is t caller id other space test =
    let a = past (not (is_privileged t caller)) NoPrivilege _ space test in
    let b = past (is_bad_id id) BadId _ space a.1 in
    let c = past (is_some (thread_at t (number_of id))) Taken _ space b.1 in
    elim (asks_new id other) as (λ asks. rest_of t (asks_new id other) (if asks then Some t.next_space else option_and_then (space_of t) (named t other)) ≡ Ok space → SpaceOf t asks space) [
      | true ↦ λ h.
          let last = past (is_full t (asks_new id other)) Full (Ok t.next_space) space h in
          let k : ◌≡◌ {A = Result ℕ ThreadFault} (Ok t.next_space) (Ok space) = last.1 in
          sym cc
      | false ↦ λ h. found_space t (asks_new id other) (named t other) space h
    ] c.1

or_right : (a b : Bool) → IsTrue b → IsTrue (a || b)
or_right true b h = refl
or_right false b h = h

in_new : (spaces : set.FinSet nat_cmp) (k : ℕ) → IsTrue (set.contains (set.insert spaces k) k)
in_new spaces k = set.contains-insert nat_cmp_total spaces k k ∙ ap (λ b. b || set.contains spaces k) (unsigned_tied k k ∙ eq-eqb k k refl)

in_old : (spaces : set.FinSet nat_cmp) (k q : ℕ) → IsTrue (set.contains spaces q) → IsTrue (set.contains (set.insert spaces k) q)
in_old spaces k q h = set.contains-insert nat_cmp_total spaces k q ∙ or_right (eq_by_cmp nat_cmp q k) _ h

new_or_old : (spaces : set.FinSet nat_cmp) (k q : ℕ) → IsTrue (set.contains (set.insert spaces k) q) → (q ≡ k) ⊎ IsTrue (set.contains spaces q)
new_or_old spaces k q h =
    let e : set.contains (set.insert spaces k) q ≡ (eq_by_cmp nat_cmp q k || set.contains spaces q) = set.contains-insert nat_cmp_total spaces k q in
    elim (eqb_tells q k) [
      | inl is ↦ inl is.1
      | inr ne ↦ inr (sym (ap (λ b. b || set.contains spaces q) (unsigned_tied q k ∙ ne.0)) ∙ sym e ∙ h)
    ]

still_below : (b : Bool) (n q : ℕ) → q < n → q < (if b then n + 1 else n)
still_below true n q h = omega arith
still_below false n q h = h

sound_created : (spaces more : set.FinSet nat_cmp) (t : Threads) (id : ThreadId) (space : ℕ) (pager : ThreadId) → IsTrue (set.contains more space)
    → ((q : ℕ) → IsTrue (set.contains spaces q) → IsTrue (set.contains more q)) → ((q : ℕ) → IsTrue (set.contains more q) → q < (created t id space pager).next_space)
    → AreSound spaces t → AreSound more (created t id space pager)
sound_created spaces more t id space pager there kept below sound = record {
  have_spaces = λ m thread at.
      elim (put_at t (number_of id) new m thread at) [
        | inl is ↦ subst (λ (k : ℕ). IsTrue (set.contains more k)) (sym (ap (λ (x : Thread). x.space) is.1)) there
        | inr was ↦ kept thread.space (sound.have_spaces m thread was.1)
      ];
  below = below;
  messages = λ m thread sends at is.
      elim (put_at t (number_of id) new m thread at) [
        | inl here ↦ absurd (let k : Running None ≡ IsSender sends = sym (ap (λ (x : Thread). x.state) here.1) ∙ is in cc)
        | inr was ↦ sound.messages m thread sends was.1 is
      ];
} where
  new : Thread
  new = record { id = id; space = space; pager = pager; state = Running None }

next_used : (t : Threads) (id : ThreadId) (pager : ThreadId) → (created t id t.next_space pager).next_space ≡ t.next_space + 1
next_used t id pager = ap (λ (b : Bool). if b then t.next_space + 1 else t.next_space) (eq-eqb t.next_space t.next_space refl)

-- a new thread keeps it, in a new space or in that of another thread
sound_with_space : (s : Mappings) (t : Threads) (id : ThreadId) (space : ℕ) (pager : ThreadId) (asks : Bool) → SpaceOf t asks space → IsSound (machine Kib4 t s)
    → AreSound (with_space s asks space).spaces (created t id space pager)
sound_with_space s t id space pager true is sound =
    sound_created s.spaces (set.insert s.spaces space) t id space pager (in_new s.spaces space) (in_old s.spaces space)
    (λ q there.
    let used : (created t id space pager).next_space ≡ t.next_space + 1 = ap (λ (k : ℕ). (created t id k pager).next_space) is ∙ next_used t id pager in
    elim (new_or_old s.spaces space q there) [
      | inl new ↦ let e : q ≡ t.next_space = new ∙ is in omega (arith, used, e)
      | inr old ↦ let less : q < t.next_space = sound.below q old in omega (arith, used, less)
    ])
    sound
sound_with_space s t id space pager false is sound =
    sound_created s.spaces s.spaces t id space pager
    (subst (λ (k : ℕ). IsTrue (set.contains s.spaces k)) is.1.1.1 (sound.have_spaces is.0 is.1.0 is.1.1.0))
    (λ q there. there) (λ q there. still_below (space == t.next_space) t.next_space q (sound.below q there)) sound

-- DELETE

-- the items of a message that still waits are those of its words
faithful_without : (victim : ℕ) (state : State) (sends : Sending) → without_partner victim state ≡ IsSender sends → state ≡ IsSender sends
faithful_without victim (Running reply) sends is = is
faithful_without victim (IsSender s) sends is =
    elim (s.to == victim) as (λ b. (if b then Running (Some (failed s.fault 4)) else IsSender s) ≡ IsSender sends → IsSender s ≡ IsSender sends) [
      | true ↦ λ h. cc
      | false ↦ λ h. h
    ] is
faithful_without victim (IsReceiver r) sends is =
    elim (waits_for victim r.«from») as (λ b. (if b then Running (Some (failed r.fault 5)) else IsReceiver r) ≡ IsSender sends → IsReceiver r ≡ IsSender sends) [
      | true ↦ λ h. cc
      | false ↦ λ h. h
    ] is

sound_left : (spaces more : set.FinSet nat_cmp) (t left : Threads) (victim : ℕ) → Deletes victim t left
    → ((q : ℕ) → IsTrue (set.contains more q) → IsTrue (set.contains spaces q))
    → ((m space : ℕ) → space_of left m ≡ Some space → IsTrue (set.contains spaces space) → IsTrue (set.contains more space))
    → AreSound spaces t → AreSound more left
sound_left spaces more t left victim d fewer kept sound = record {
  have_spaces = λ m thread at.
      let was = left_at t left victim m thread d at in
      kept m thread.space (ap (option_map (λ (x : Thread). x.space)) at)
      (subst (λ (k : ℕ). IsTrue (set.contains spaces k)) (sym (ap (λ (x : Thread). x.space) was.1.1)) (sound.have_spaces m was.0 was.1.0));
  below = λ q there. subst (λ (k : ℕ). q < k) (sym d.next_space) (sound.below q (fewer q there));
  messages = λ m thread sends at is.
      let was = left_at t left victim m thread d at in
      sound.messages m was.0 sends was.1.0 (faithful_without victim was.0.state sends (sym (ap (λ (x : Thread). x.state) was.1.1) ∙ is));
}

and_right : (a b : Bool) → IsTrue (a && b) → IsTrue b
and_right true b h = h
and_right false b h = absurd (false≢true h)

-- the threads that are left keep it, and where a space ends none of them is in it
sound_without : (old new : Mappings) (t left : Threads) (victim space : ℕ) → Deletes victim t left
    → (HasEnded left space × EndsSpace space old new) ⊎ (¬ (HasEnded left space) × (new ≡ old)) → AreSound old.spaces t → AreSound new.spaces left
sound_without old new t left victim space d (inl ends) sound =
    let gone : new.spaces ≡ set.remove old.spaces space = ends.1.spaces in
    let at : (q : ℕ) → set.contains new.spaces q ≡ (not (eq_by_cmp nat_cmp q space) && set.contains old.spaces q) =
    λ q. ap (λ (v : set.FinSet nat_cmp). set.contains v q) gone ∙ set.contains-remove nat_cmp_total old.spaces space q in
    sound_left old.spaces new.spaces t left victim d
    (λ q there. and_right (not (eq_by_cmp nat_cmp q space)) (set.contains old.spaces q) (sym (at q) ∙ there))
    (λ m own is there. at own ∙ ap (λ b. not b && set.contains old.spaces own) (unsigned_tied own space ∙ differs own space (λ same. ends.0 m (is ∙ ap Some same))) ∙ there)
    sound
sound_without old new t left victim space d (inr stays) sound =
    subst (λ (s : Mappings). AreSound s.spaces left) (sym stays.1) (sound_left old.spaces old.spaces t left victim d (λ q there. there) (λ m own is there. there) sound)

-- A TRANSFER

-- a transfer begins and ends no space
moves_keep : (size : PageSize) → (old new : Mappings) («from» to : ℕ) (items : List Item) (window : Fpage) (outcome : Outcome) → Moves size old «from» to items window outcome new → new.spaces ≡ old.spaces
moves_keep size old new «from» to items window NoWindow h = ap (λ (s : Mappings). s.spaces) h.1
moves_keep size old new «from» to items window Entangled h = ap (λ (s : Mappings). s.spaces) h.2
moves_keep size old new «from» to items window NoMemory h = ap (λ (s : Mappings). s.spaces) h.3
moves_keep size old new «from» to items window Done h = h.2.cut.spaces ∙ h.2.moved.spaces
moves_keep size old new «from» to items window Started h = absurd h
moves_keep size old new «from» to items window Expired h = absurd h
moves_keep size old new «from» to items window Canceled h = absurd h

-- THE STEP

refused_keeps : (old new : Machine) → new ≡ old → IsSound old → IsSound new
refused_keeps old new same sound = subst IsSound (sym same) sound

start_keeps : (old : Machine) (n : ℕ) (call : Call) (answer : Answer) (new : Machine) → IsSound old → Steps old (Start n call) (Ok answer) new → IsSound new
start_keeps old n (Ipc call) answer new sound x =
    refused_keeps (record old { threads = enters old.threads n (ipc_next old.threads n call x.4.0 x.4.1) }) new x.4.4
    (sound_enters old.mappings.spaces old.threads n _ (faithful_ipc old.threads n call x.4.0 x.4.1 x.4.2.sends) sound)
start_keeps old n (Fault call) answer new sound x =
    refused_keeps (record old { threads = enters old.threads n (fault_next old.size old.threads old.mappings n x.0.space x.0.pager call) }) new x.4.1
    (sound_enters old.mappings.spaces old.threads n _ (faithful_fault old.size old.threads old.mappings n x.0.space x.0.pager call) sound)
start_keeps old n (Unmap call) answer new sound x =
    let spaces : set.FinSet nat_cmp = old.mappings.spaces in
    let after = sound_state spaces old.threads _ n (Running (Some Unmapped)) tt sound in
    subst (λ (v : set.FinSet nat_cmp). AreSound v new.threads) (sym x.4.4.spaces) (subst (AreSound spaces) (sym x.4.3) after)
start_keeps old n (Controls (SetPager c)) answer new sound x =
    let t : Threads = with_pager old.threads x.4.0 c.pager in
    refused_keeps (record old { threads = end_call t n Controlled }) new x.4.3
    (sound_state old.mappings.spaces t _ n (Running (Some Controlled)) tt (sound_pager old.mappings.spaces old.threads x.4.0 c.pager sound))
start_keeps old n (Controls (Delete id)) answer new sound x =
    let d = x.4.5 in
    let spaces : set.FinSet nat_cmp = new.mappings.spaces in
    subst (AreSound spaces) (sym d.threads) (sound_state spaces d.left _ n (Running (Some Controlled)) tt
    (sound_without old.mappings new.mappings old.threads d.left x.4.0 x.4.1.space d.deleted d.mappings sound))
start_keeps old n (Controls (Create c)) answer new sound x =
    let space : ℕ = x.4.0 in
    let asks : Bool = asks_new c.id c.space in
    let t : Threads = created old.threads c.id space c.pager in
    let made = sound_with_space old.mappings old.threads c.id space c.pager asks (space_is old.threads n c.id c.space space x.4.1) sound in
    refused_keeps (record old { threads = end_call t n Controlled; mappings = with_space old.mappings asks space }) new x.4.3
    (sound_state (with_space old.mappings asks space).spaces t _ n (Running (Some Controlled)) tt made)

transfer_keeps : (old : Machine) (sender receiver : ℕ) (answer : Answer) (new : Machine) → IsSound old → Steps old (Transfer sender receiver) (Ok answer) new → IsSound new
transfer_keeps old sender receiver answer new sound x =
    let kept = moves_keep old.size old.mappings new.mappings x.0.space x.1.space x.2.items.items x.3.window answer.outcome x.5 in
    let spaces : set.FinSet nat_cmp = old.mappings.spaces in
    let met = sound_state spaces old.threads _ receiver (Running (Some (receiver_reply (is_done answer.outcome) x.0 x.2 x.3))) tt sound in
    let after = sound_enters spaces _ sender (sender_next (is_done answer.outcome) old.threads x.2) (faithful_sender old.threads (is_done answer.outcome) x.2) met in
    subst (λ (v : set.FinSet nat_cmp). AreSound v new.threads) (sym kept) (subst (AreSound spaces) (sym x.7) after)

-- each step keeps it
pub sound_step : (old : Machine) (step : Step) (answer : Result Answer Refused) (new : Machine) → Steps old step answer new → IsSound old → IsSound new
sound_step old (Start n call) (Ok answer) new y sound = start_keeps old n call answer new sound y
sound_step old (Start n call) (Err e) new y sound = refused_keeps old new y.1 sound
sound_step old (Transfer s r) (Ok answer) new y sound = transfer_keeps old s r answer new sound y
sound_step old (Transfer s r) (Err e) new y sound = refused_keeps old new y.2 sound
sound_step old (Expire n) (Ok answer) new y sound =
    refused_keeps (record old { threads = end_call old.threads n (expiry y.0.state) }) new y.3
    (sound_state old.mappings.spaces old.threads _ n (Running (Some (expiry y.0.state))) tt sound)
sound_step old (Expire n) (Err e) new y sound = refused_keeps old new y.2 sound
sound_step old (Cancel n cause) (Ok answer) new y sound =
    refused_keeps (record old { threads = end_call old.threads n (cancellation cause y.0.state) }) new y.3
    (sound_state old.mappings.spaces old.threads _ n (Running (Some (cancellation cause y.0.state))) tt sound)
sound_step old (Cancel n cause) (Err e) new y sound = refused_keeps old new y.2 sound

-- BOOT

abbrev sigma0_thread : Thread
sigma0_thread = record { id = record { 0 = 0x4001 }; space = 0; pager = nilthread; state = Running None }

abbrev root_thread : Thread
root_thread = record { id = record { 0 = 0x8001 }; space = 1; pager = record { 0 = 0x4001 }; state = Running None }

abbrev no_thread : Threads
no_thread = record { threads = fin.empty; before = set.empty; next_space = 2 }

abbrev one_thread : Threads
one_thread = record { threads = fin.insert fin.empty 1 sigma0_thread; before = set.empty; next_space = 2 }

two : (n : ℕ) (thread : Thread) → thread_at first_threads n ≡ Some thread
    → ((n ≡ 2) × (thread.space ≡ 1) × (thread.state ≡ Running None)) ⊎ ((n ≡ 1) × (thread.space ≡ 0) × (thread.state ≡ Running None))
two n thread at =
    elim (put_at one_thread 2 root_thread n thread at) [
      | inl is ↦ inl (is.0, ap (λ (x : Thread). x.space) is.1, ap (λ (x : Thread). x.state) is.1)
      | inr was ↦
          elim (put_at no_thread 1 sigma0_thread n thread was.1) [
            | inl is ↦ inr (is.0, ap (λ (x : Thread). x.space) is.1, ap (λ (x : Thread). x.state) is.1)
            | inr none ↦ absurd (let k : ◌≡◌ {A = Option Thread} None (Some thread) = sym (fin.get-empty {X = Thread} nat_cmp n) ∙ none.1 in cc)
          ]
    ]

pub sound_boot : (size : PageSize) (frames : ℕ) (first : Mappings) → IsFirst frames first → IsSound (machine size first_threads (record first { spaces = set.insert first.spaces 1 }))
sound_boot size frames first is = record {
  have_spaces = λ n thread at.
      elim (two n thread at) [
        | inl root ↦ subst (λ (k : ℕ). IsTrue (set.contains (set.insert first.spaces 1) k)) (sym root.1) (in_new first.spaces 1)
        | inr sigma0 ↦ subst (λ (k : ℕ). IsTrue (set.contains (set.insert first.spaces 1) k)) (sym sigma0.1)
            (in_old first.spaces 1 0 (subst (λ (v : set.FinSet nat_cmp). IsTrue (set.contains v 0)) (sym is.spaces) (in_new set.empty 0)))
      ];
  below = λ space there.
      elim (new_or_old first.spaces 1 space there) [
        | inl root ↦ omega (arith, root)
        | inr old ↦ elim (new_or_old set.empty 0 space (subst (λ (v : set.FinSet nat_cmp). IsTrue (set.contains v space)) is.spaces old)) [
          | inl sigma0 ↦ omega (arith, sigma0)
          | inr none ↦ absurd (false≢true (sym (set.contains-empty nat_cmp space) ∙ none))
        ]
      ];
  messages = λ n thread sends at sending.
      elim (two n thread at) [
        | inl root ↦ absurd (let k : Running None ≡ IsSender sends = sym root.2 ∙ sending in cc)
        | inr sigma0 ↦ absurd (let k : Running None ≡ IsSender sends = sym sigma0.2 ∙ sending in cc)
      ];
}
