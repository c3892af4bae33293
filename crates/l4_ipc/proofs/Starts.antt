-- Starts, as the machine says them.
use Rattle.std.proofs.Common.{◌≡◌, ◌≢◌, ℕ, ◌+◌, ◌-◌, ◌==◌, List, length, take, drop, arith, Bool, true, false, if◌then◌else◌, not, Option, Some, None, [], Result, Ok, Err, IfOk, IfErr, MatchOption, IsTrue, IsSome, refl, sym, ap, ◌∙◌, subst}
use Rattle.std.specs.Option.{option_map_or, option_map}
use Rattle.std.specs.List.{slice_range}
use Rattle.std.proofs.lemmas.Bool.{false≢true}
use Rattle.l4_fpage.specs.declared.fpages.Fpage.{Fpage}
use Rattle.l4_msg.specs.declared.items.Item.{Item}
use Rattle.l4_msg.specs.Messages.{HasGoodTag, tag_of, typed_words}
use Rattle.l4_msg.specs.Tags.{label_of, typed_of, untyped_of}
use Rattle.l4_msg.specs.Words.{ItemsRead}
use Rattle.l4_mapdb.specs.Mappings.{Mappings}
use Rattle.l4_threads.specs.declared.Later.{Later}
use Rattle.l4_threads.specs.declared.Receiving.{Receiving}
use Rattle.l4_threads.specs.declared.Reply.{Reply}
use Rattle.l4_threads.specs.declared.Sending.{Sending}
use Rattle.l4_threads.specs.declared.State.TheVariants.{Running, Sending as IsSender, Receiving as IsReceiver}
use Rattle.l4_threads.specs.declared.State.{State}
use Rattle.l4_threads.specs.declared.Thread.{Thread}
use Rattle.l4_threads.specs.declared.ThreadId.{ThreadId}
use Rattle.l4_threads.specs.Threads.{Threads, thread_at, state_of, runs, is_running, is_receiving, may_receive, named, number_of, failed, sending_of, out_of_queue, end_call}
use Rattle.l4_threads.specs.Control.{created, with_pager}
use Rattle.l4_threads.specs.Enabled.{CanExpire, expires}
use Rattle.l4_ipc.specs.declared.calls.Call.{Call}
use Rattle.l4_ipc.specs.declared.calls.Call.TheVariants.{Ipc}
use Rattle.l4_ipc.specs.declared.calls.IpcCall.{IpcCall}
use Rattle.l4_threads.specs.declared.Source.TheVariants.{Anyone, Thread as One}
use Rattle.l4_phases.specs.declared.turns.Next.{Next}
use Rattle.l4_phases.specs.declared.turns.Next.TheVariants.{Ends, Sends, Receives}
use Rattle.l4_phases.specs.declared.turns.Sent.{Sent}
use Rattle.l4_ipc.specs.declared.steps.Answer.{Answer}
use Rattle.l4_ipc.specs.declared.steps.Outcome.TheVariants.{Started}
use Rattle.l4_ipc.specs.declared.steps.Refused.{Refused}
use Rattle.l4_ipc.specs.declared.steps.Refused.TheVariants.{UnknownThread, NotEnabled}
use Rattle.l4_ipc.specs.declared.steps.Step.TheVariants.{Start, Expire, Cancel}
use Rattle.l4_ipc.specs.Machine.{Machine, machine}
use Rattle.l4_phases.specs.Phases.{partner, going_on, enters, ended_by}
use Rattle.l4_ipc.specs.Start.{has_send, send_timeout, counted_words, IsSent, IsAccepted, CallRefuses, RefusesIn, StartRefuses, later_of, ipc_next}
use Rattle.l4_ipc.specs.Inside.Answering.{written}
use Rattle.l4_phases.specs.Phases.{CanEnter}
use Rattle.l4_phases.specs.Waits.{IsWaiting, wait_reply, EndsWait}
use Rattle.l4_ipc.specs.Inside.Turns.{sent_of}
use Rattle.l4_ipc.specs.NextSteps.{canceled_if, expired_if}
use Rattle.l4_ipc.specs.Steps.{expiry, cause_error, Meets, sender_next, Steps}
use Rattle.l4_ipc.proofs.Threads.{running_thread, put_there, pager_there, has_state, state_other}
use Rattle.l4_fpage.specs.declared.sizes.PageSize.{PageSize}
use Rattle.l4_ipc.specs.declared.steps.CancelCause.{CancelCause}
use Rattle.l4_ipc.specs.declared.steps.CancelCause.TheVariants.{Timeout}

-- the Start of a running thread is refused where its call is
pub refuses : (m : Machine) (n : ℕ) (call : Call) (e : Refused) → IsTrue (runs m.threads n) → CallRefuses m n call e → StartRefuses m n call e
refuses m n call e h r =
    let there = running_thread m.threads n h in
    subst (λ (o : Option Thread). MatchOption (option_map (λ (x : Thread). x.state) o) (e ≡ UnknownThread) (λ state. RefusesIn (is_running state) m n call e)) (sym there.1.0)
    (subst (λ (b : Bool). RefusesIn b m n call e) (sym there.1.1) r)

-- a running thread's Ipc starts
pub started : (size : PageSize) (t new : Threads) (s : Mappings) (n : ℕ) (call : IpcCall) (sent : Sent) (window : Fpage) (next : Next) (answer : Answer)
    → IsTrue (runs t n) → IsAccepted call sent window
    → next ≡ ipc_next t n call sent window → answer.outcome ≡ Started → answer.ended.items ≡ ended_by n next → new ≡ enters t n next
    → Steps (machine size t s) (Start n (Ipc call)) (Ok answer) (machine size new s)
started size t new s n call sent window next answer h accepted is outcome ended after =
    let there = running_thread t n h in
    (there.0, there.1.0, there.1.1, outcome, (sent, window, accepted, ended ∙ ap (ended_by n) is, ap (λ (v : Threads). machine size v s) (after ∙ ap (enters t n) is)))

-- a thread that can expire waits
expiring_waits : (t : Threads) (n : ℕ) → CanExpire t n → IsWaiting t n
expiring_waits t n able = record { state = able.state; at = able.at; waiting = none_runs able.state able.zero } where
  none_runs : (state : State) → IsTrue (expires state) → is_running state ≡ false
  none_runs (Running reply) zero = absurd (false≢true zero)
  none_runs (IsSender s) zero = refl
  none_runs (IsReceiver r) zero = refl

-- the wait of a thread is canceled, or the thread does not wait
pub canceled : (size : PageSize) (t new : Threads) (s : Mappings) (n error : ℕ) (cause : CancelCause) (ends : Bool) → error ≡ cause_error cause → EndsWait t n error ends new
    → Steps (machine size t s) (Cancel n cause) (canceled_if n (if ends then Ok tt else Err NotEnabled)) (machine size new s)
canceled size t new s n error cause true is h =
    (h.0, refl, refl, ap (λ (v : Threads). machine size v s) (h.1 ∙ ap (λ e. end_call t n (wait_reply e h.0.state)) is))
canceled size t new s n error cause false is h = (h.0, refl, ap (λ (v : Threads). machine size v s) h.1)

-- a wait with a timeout of zero that takes part in no enabled transfer ends as one whose timeout passes by a clock outside the kernel
pub expired : (size : PageSize) (t new : Threads) (s : Mappings) (n : ℕ) (result : Result (Unit {0}) Refused) → CanExpire t n
    → Steps (machine size t s) (Cancel n Timeout) (canceled_if n result) (machine size new s) → Steps (machine size t s) (Expire n) (expired_if n result) (machine size new s)
expired size t new s n (Ok done) able h =
    let both : Some h.0.state ≡ Some able.state = sym h.0.at ∙ able.at in
    let same : h.0.state ≡ able.state = cc in
    (able, refl, refl, h.3 ∙ ap (λ (state : State). machine size (end_call t n (expiry state)) s) same)
expired size t new s n (Err e) able h = absurd (h.0 (expiring_waits t n able))

-- a thread that runs is there
running_there : (t : Threads) (n : ℕ) → IsTrue (runs t n) → thread_at t n ≢ None
running_there t n h none =
    let there = running_thread t n h in
    let k : ◌≡◌ {A = Option Thread} (Some there.0) None = sym there.1.0 ∙ none in
    cc

-- a thread that was there is there once another was created
pub still_there : (t new : Threads) (id : ThreadId) (space : ℕ) (pager : ThreadId) (n : ℕ) → IsTrue (runs t n) → new ≡ created t id space pager → IsSome (state_of new n)
still_there t new id space pager n h is =
    has_state new n (λ none. put_there t (number_of id) _ n (running_there t n h) (sym (ap (λ (v : Threads). thread_at v n) is) ∙ none))

-- a thread that was there is there once one got another pager
pub still_with_pager : (t new : Threads) (other : ℕ) (pager : ThreadId) (n : ℕ) → IsTrue (runs t n) → new ≡ with_pager t other pager → IsSome (state_of new n)
still_with_pager t new other pager n h is =
    has_state new n (λ none. pager_there t other pager n (running_there t n h) (sym (ap (λ (v : Threads). thread_at v n) is) ∙ none))

-- a thread that is there and doesn't receive can go on after it has sent
pub can_go_on : (t threads : Threads) (n : ℕ) (later : Option Later) (fault : Bool) → IsSome (state_of t n) → IsTrue (may_receive t n) → CanEnter t n (going_on threads later fault)
can_go_on t threads n None fault there may = there
can_go_on t threads n (Some later) fault there may =
    elim (later.«from».0 == 0xffff_ffff) as (λ b. CanEnter t n (if b then Receives (record { «from» = Anyone; window = later.window; expires = later.expires; fault = fault }) else
    option_map_or (λ k. Receives (record { «from» = One k; window = later.window; expires = later.expires; fault = fault })) (named threads later.«from») (Ends (failed fault 5)))) [
      | true ↦ may
      | false ↦ elim (named threads later.«from») as (λ o. CanEnter t n (option_map_or (λ k. Receives (record { «from» = One k; window = later.window; expires = later.expires; fault = fault })) o (Ends (failed fault 5)))) [
        | None ↦ there
        | Some k ↦ may
      ]
    ]

-- what the sender of a transfer does
pub sends_in_transfer : (t : Threads) (sender receiver : ℕ) («from» to : Thread) (sends : Sending) (takes : Receiving) → Meets t sender receiver «from» to sends takes → state_of t sender ≡ Some (IsSender sends)
sends_in_transfer t sender receiver «from» to sends takes meets = ap (option_map (λ (x : Thread). x.state)) meets.from_at ∙ ap Some meets.from_state

-- the sender of a transfer can do what comes next once the receiver's call has ended
pub can_enter_after : (t after : Threads) (sender receiver : ℕ) («from» to : Thread) (sends : Sending) (takes : Receiving) → Meets t sender receiver «from» to sends takes
    → (done : Bool) (reply : Reply) (next : Next) → after ≡ end_call t receiver reply → next ≡ sender_next done t sends → CanEnter after sender next
can_enter_after t after sender receiver «from» to sends takes meets done reply next ended is =
    let other : sender ≢ receiver = λ same.
    let both : ◌≡◌ {A = Option Thread} (Some «from») (Some to) = sym meets.from_at ∙ ap (thread_at t) same ∙ meets.to_at in
    let threads : «from» ≡ to = cc in
    let k : IsSender sends ≡ IsReceiver takes = sym meets.from_state ∙ ap (λ (x : Thread). x.state) threads ∙ meets.to_state in
    cc in
    let at : thread_at after sender ≡ Some «from» =
    ap (λ (v : Threads). thread_at v sender) ended ∙ state_other (out_of_queue t receiver) receiver (Running (Some reply)) sender other ∙ meets.from_at in
    let state : state_of after sender ≡ Some (IsSender sends) = ap (option_map (λ (x : Thread). x.state)) at ∙ ap Some meets.from_state in
    subst (CanEnter after sender) (sym is) (enters_next done
    (subst (λ (o : Option State). IsSome o) (sym state) refl) (subst (λ (o : Option State). IsTrue (option_map_or (λ x. not (is_receiving x)) o false)) (sym state) refl)) where
      enters_next : (done : Bool) → IsSome (state_of after sender) → IsTrue (may_receive after sender) → CanEnter after sender (sender_next done t sends)
      enters_next true there may = can_go_on after t sender sends.«then» sends.fault there may
      enters_next false there may = there

-- A CALL WITHOUT A SEND PHASE

-- what it sends
abbrev pub nothing : Sent
nothing = record { words = record { items = [] }; items = record { items = [] } }

pub sends_nothing : (call : IpcCall) → has_send call ≡ false → IsSent (has_send call) call.words.items nothing
sends_nothing call h = subst (λ b. IsSent b call.words.items nothing) (sym h) (refl, refl)

else_of : {A : Type 0} (b : Bool) (x y : A) → b ≡ false → (if b then x else y) ≡ y
else_of b x y h = ap (λ b. if b then x else y) h

pub receives_next : (t : Threads) (n : ℕ) (call : IpcCall) (window : Fpage) → has_send call ≡ false → ipc_next t n call nothing window ≡ going_on t (later_of call window) false
receives_next t n call window h = else_of (has_send call) _ (going_on t (later_of call window) false) h

-- a running thread can go on
pub can_receive : (t : Threads) (n : ℕ) (later : Option Later) (next : Next) → IsTrue (runs t n) → next ≡ going_on t later false → CanEnter t n next
can_receive t n later next runs is =
    let there = running_thread t n runs in
    subst (CanEnter t n) (sym is)
    (can_go_on t t n later false (has_state t n (running_there t n runs))
    (subst (λ (o : Option Thread). IsTrue (option_map_or (λ x. not (is_receiving x)) (option_map (λ (x : Thread). x.state) o) false)) (sym there.1.0) (quiet there.0.state there.1.1))) where
      quiet : (s : State) → IsTrue (is_running s) → IsTrue (not (is_receiving s))
      quiet (Running reply) h = refl
      quiet (IsSender sends) h = refl
      quiet (IsReceiver takes) h = absurd (false≢true h)

-- A CALL WITH A SEND PHASE

-- the registers that the tag counts and the items in them are what the message sends
pub sent_by : (words seen counted : List ℕ) (items taken : List Item) → HasGoodTag words → seen ≡ words → counted ≡ counted_words words → taken ≡ items → ItemsRead (typed_words seen) items
    → IsSent true words (sent_of counted taken)
sent_by words seen counted items taken good same all is read = (
  record { label = label_of (tag_of words); untyped = record { items = slice_range words 1 (1 + untyped_of (tag_of words)) }; items = record { items = items } },
  record { tag = good; label = refl; untyped = refl; items = subst (λ (l : List ℕ). ItemsRead (typed_words l) items) same read },
  all,
  λ i. record { items = is i },
)

none_typed : (words : List ℕ) → typed_of (tag_of words) ≡ 0 → ItemsRead (typed_words words) []
none_typed words h =
    let first : ℕ = 1 + untyped_of (tag_of words) in
    let none : (first + typed_of (tag_of words)) - first ≡ 0 = omega arith in
    record { count = ap (λ n. length (take n (drop first words))) none; each = λ k lt. absurd (omega (arith, lt)) }

-- and without typed words there is no item
pub sent_bare : (words counted : List ℕ) → HasGoodTag words → typed_of (tag_of words) ≡ 0 → counted ≡ counted_words words → IsSent true words (sent_of counted [])
sent_bare words counted good none all = sent_by words words counted [] [] good refl all refl (none_typed words none)

pub sends_some : (call : IpcCall) (sent : Sent) → has_send call ≡ true → IsSent true call.words.items sent → IsSent (has_send call) call.words.items sent
sends_some call sent h is = subst (λ b. IsSent b call.words.items sent) (sym h) is

then_of : {A : Type 0} (b : Bool) (x y : A) → b ≡ true → (if b then x else y) ≡ x
then_of b x y h = ap (λ b. if b then x else y) h

-- what the caller does next: it sends to its partner, where it is there
sends_next : (t : Threads) (n : ℕ) (call : IpcCall) (words : List ℕ) (items : List Item) (window : Fpage) → has_send call ≡ true
    → ipc_next t n call (sent_of words items) window
    ≡ option_map_or (λ to. Sends (sending_of words items (record { to = to; expires = send_timeout call == 0x400; «then» = later_of call window; fault = false }))) (partner t n call.to) (Ends (failed false 4))
sends_next t n call words items window h = then_of (has_send call) _ (going_on t (later_of call window) false) h

pub sends_nobody : (t : Threads) (n : ℕ) (call : IpcCall) (words : List ℕ) (items : List Item) (window : Fpage) → has_send call ≡ true → None ≡ partner t n call.to
    → Ends (failed false 4) ≡ ipc_next t n call (sent_of words items) window
sends_nobody t n call words items window h none =
    ap (λ o. option_map_or (λ to. Sends (sending_of words items (record { to = to; expires = send_timeout call == 0x400; «then» = later_of call window; fault = false }))) o (Ends (failed false 4))) none
    ∙ sym (sends_next t n call words items window h)

pub sends_to : (t : Threads) (n : ℕ) (call : IpcCall) (words : List ℕ) (items : List Item) (window : Fpage) (to : ℕ) (expires : Bool) (later : Option Later)
    → has_send call ≡ true → Some to ≡ partner t n call.to → expires ≡ (send_timeout call == 0x400) → later ≡ later_of call window
    → Sends (sending_of words items (record { to = to; expires = expires; «then» = later; fault = false })) ≡ ipc_next t n call (sent_of words items) window
sends_to t n call words items window to expires later h there e l =
    (λ i. Sends (sending_of words items (record { to = to; expires = e i; «then» = l i; fault = false })))
    ∙ ap (λ o. option_map_or (λ to. Sends (sending_of words items (record { to = to; expires = send_timeout call == 0x400; «then» = later_of call window; fault = false }))) o (Ends (failed false 4))) there
    ∙ sym (sends_next t n call words items window h)

-- A START THAT WRITES ITS ANSWER

pub written_ok : (old new : Machine) (n : ℕ) (call : Call) (given : Result (Unit {0}) Refused) (answer : Answer) → Steps old (Start n call) (written given answer) new
    → IfOk given (λ done. Steps old (Start n call) (Ok answer) new)
written_ok old new n call (Ok done) answer h = h
written_ok old new n call (Err e) answer h = tt

pub written_err : (old new : Machine) (n : ℕ) (call : Call) (given : Result (Unit {0}) Refused) (answer : Answer) → Steps old (Start n call) (written given answer) new
    → IfErr given (λ e. Steps old (Start n call) (Err e) new)
written_err old new n call (Ok done) answer h = tt
written_err old new n call (Err e) answer h = h
