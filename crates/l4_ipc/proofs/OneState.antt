-- A step with its answer leads to one state.
use Rattle.std.proofs.Common.{◌≡◌, ℕ, ◌&&◌, Bool, true, false, List, Some, Result, Ok, Err, sym, ap, ◌∙◌, subst, inl, inr, ◌⊎◌, get_or, length, arith}
use Rattle.std.specs.Option.{option_map_or, option_map}
use Rattle.std.specs.FinMap as fin
use Rattle.std.specs.FinMap.{nat_cmp-IsAntisymmetric}
use Rattle.std.specs.FinSet as set
use Rattle.std.specs.Cmp.{nat_cmp_total}
use Rattle.std.proofs.lemmas.List.{same_lists}
use Rattle.l4_fpage.specs.declared.fpages.Fpage.{Fpage}
use Rattle.l4_fpage.proofs.Same.{reads_same}
use Rattle.l4_msg.proofs.Reading.{reading_is_unique, window_is_unique}
use Rattle.l4_mapdb.specs.Mappings.{Mappings, shown}
use Rattle.l4_forest.specs.Losing.{EndsSpace, GoesWithSpace}
use Rattle.l4_mapdb.specs.Losing.{LosesRights}
use Rattle.l4_mapdb.specs.Transfer.{PageMove, Moved, Transfers, Becomes, IsCut}
use Rattle.l4_mapdb.proofs.Places.{same_option, same_mappings}
use Rattle.l4_mapdb.proofs.Unique.{loses_unique}
use Rattle.l4_unmap.specs.Unmap.{UnmapReads, with_own, Unmaps}
use Rattle.l4_unmap.proofs.UnmapKeeps.{unmaps_unique}
use Rattle.l4_threads.specs.declared.Receiving.{Receiving}
use Rattle.l4_threads.specs.declared.Reply.TheVariants.{Controlled}
use Rattle.l4_threads.specs.declared.Sending.{Sending}
use Rattle.l4_threads.specs.declared.State.TheVariants.{Sending as IsSender, Receiving as IsReceiver}
use Rattle.l4_threads.specs.declared.Thread.{Thread}
use Rattle.l4_threads.specs.Threads.{Threads, thread_at, sends, is_sending, end_call}
use Rattle.l4_threads.specs.Control.{created, asks_new, with_pager, Deletes, HasEnded}
use Rattle.l4_threads.proofs.QueuePairs.{pairs_total, exact_number_pairs}
use Rattle.l4_ipc.specs.declared.calls.Call.{Call}
use Rattle.l4_ipc.specs.declared.calls.Call.TheVariants.{Ipc, Fault, Unmap, Control as Controls}
use Rattle.l4_ipc.specs.declared.calls.Control.TheVariants.{Create, SetPager, Delete}
use Rattle.l4_phases.specs.declared.turns.Sent.{Sent}
use Rattle.l4_ipc.specs.declared.steps.Step.{Step}
use Rattle.l4_ipc.specs.declared.steps.Step.TheVariants.{Start, Transfer, Expire, Cancel}
use Rattle.l4_ipc.specs.declared.steps.Outcome.{Outcome}
use Rattle.l4_ipc.specs.declared.steps.Outcome.TheVariants.{Started, Done, NoWindow, Entangled, NoMemory, Expired, Canceled}
use Rattle.l4_ipc.specs.declared.steps.Answer.{Answer}
use Rattle.l4_ipc.specs.declared.steps.Refused.{Refused}
use Rattle.l4_ipc.specs.Machine.{Machine}
use Rattle.l4_ipc.specs.Moving.{IsUsedBy, Moves}
use Rattle.l4_phases.specs.Phases.{enters}
use Rattle.l4_ipc.specs.Start.{has_send, has_receive, ipc_next, IsSent, IsWindow}
use Rattle.l4_ipc.specs.Steps.{Steps, Starts, DeletesThread, Meets, expiry, after_transfer, is_done, with_space, cancellation}
use Rattle.l4_fpage.specs.declared.sizes.PageSize.{PageSize}

pub same_value : {X : Type 0} {x y : X} → Some x ≡ Some y → x ≡ y
same_value {x = x} {y = y} e = cc

same_machine : (a b : Machine) → a.size ≡ b.size → a.threads ≡ b.threads → a.mappings ≡ b.mappings → a ≡ b
same_machine a b e t m = λ i. record { size = e i; threads = t i; mappings = m i }

-- WHAT A CALL READS

-- registers are read as one list of fpages
pub unmap_reads_same : (control : ℕ) (words : List ℕ) (a b : List Fpage) → UnmapReads control words a → UnmapReads control words b → a ≡ b
unmap_reads_same control words a b x y =
    let count : length a ≡ length b = x.count ∙ sym y.count in
    same_lists a b count (λ k d lt. reads_same (get_or words k 0) (get_or a k d) (get_or b k d) (x.each k lt d) (y.each k (omega (arith, lt, count)) d))

one_sent : (some : Bool) (words : List ℕ) (a b : Sent) → IsSent some words a → IsSent some words b → a ≡ b
one_sent true words a b x y =
    let words_same : a.words.items ≡ b.words.items = x.2 ∙ sym y.2 in
    let items : a.items ≡ b.items = x.3 ∙ ap (λ m. m.items) (reading_is_unique words x.0 y.0 x.1 y.1) ∙ sym y.3 in
    λ i. record { words = record { items = words_same i }; items = items i }
one_sent false words a b x y =
    let words_same : a.words.items ≡ b.words.items = x.0 ∙ sym y.0 in
    let items : a.items.items ≡ b.items.items = x.1 ∙ sym y.1 in
    λ i. record { words = record { items = words_same i }; items = record { items = items i } }

one_window : (some : Bool) (word : ℕ) (a b : Fpage) → IsWindow some word a → IsWindow some word b → a ≡ b
one_window true word a b x y = window_is_unique word a b x y
one_window false word a b x y = x ∙ sym y

-- DELETE

same_threads : (a b : Threads) → ((n : ℕ) → thread_at a n ≡ thread_at b n) → ((p q : ℕ) → set.contains a.before (p, q) ≡ set.contains b.before (p, q)) → a.next_space ≡ b.next_space → a ≡ b
same_threads a b t q s =
    let one : a.threads ≡ b.threads = fin.same_map nat_cmp_total nat_cmp-IsAntisymmetric a.threads b.threads t in
    let two : a.before ≡ b.before = set.same_set pairs_total exact_number_pairs a.before b.before (λ p. q p.0 p.1) in
    λ i. record { threads = one i; before = two i; next_space = s i }

sends_same : (a b : Threads) → ((n : ℕ) → thread_at a n ≡ thread_at b n) → (n : ℕ) → sends a n ≡ sends b n
sends_same a b same n = ap (λ o. option_map_or is_sending (option_map (λ (t : Thread). t.state) o) false) (same n)

deletes_one : (n : ℕ) (old a b : Threads) → Deletes n old a → Deletes n old b → a ≡ b
deletes_one n old a b f g =
    let same : (other : ℕ) → thread_at a other ≡ thread_at b other = λ other. f.threads other ∙ sym (g.threads other) in
    same_threads a b same
    (λ p q. f.queue p q
    ∙ (λ i. set.contains old.before (p, q) && (sends_same a b same p i && sends_same a b same q i))
    ∙ sym (g.queue p q))
    (f.next_space ∙ sym g.next_space)

ends_one : (space : ℕ) (old a b : Mappings) → EndsSpace space old a → EndsSpace space old b → a ≡ b
ends_one space old a b f g =
    same_mappings a b (f.spaces ∙ sym g.spaces)
    (λ p. same_option (λ m. (shown old p ≡ Some m) × ¬ (GoesWithSpace old space p)) (shown a p) (shown b p) (f.places p) (g.places p))

one_delete : (old : Machine) (n victim space : ℕ) (a b : Machine) → DeletesThread n victim space old a → DeletesThread n victim space old b → a ≡ b
one_delete old n victim space a b x y =
    let left : x.left ≡ y.left = deletes_one victim old.threads x.left y.left x.deleted y.deleted in
    let threads : a.threads ≡ b.threads = x.threads ∙ ap (λ (t : Threads). end_call t n Controlled) left ∙ sym y.threads in
    let again : (HasEnded y.left space × EndsSpace space old.mappings a.mappings) ⊎ (¬ (HasEnded y.left space) × (a.mappings ≡ old.mappings)) =
    subst (λ (t : Threads). (HasEnded t space × EndsSpace space old.mappings a.mappings) ⊎ (¬ (HasEnded t space) × (a.mappings ≡ old.mappings))) left x.mappings in
    same_machine a b (x.size ∙ sym y.size) threads (elim again [
      | inl p ↦ elim y.mappings [ inl q ↦ ends_one space old.mappings a.mappings b.mappings p.1 q.1 | inr q ↦ absurd (q.0 p.0) ]
      | inr p ↦ elim y.mappings [ inl q ↦ absurd (p.0 q.0) | inr q ↦ p.1 ∙ sym q.1 ]
    ])

-- START

one_start : (old : Machine) (n : ℕ) (caller : Thread) (call : Call) (ended : List ℕ) (a b : Machine) → Starts old n caller call ended a → Starts old n caller call ended b → a ≡ b
one_start old n caller (Ipc call) ended a b x y =
    let sent : x.0 ≡ y.0 = one_sent (has_send call) call.words.items x.0 y.0 x.2.sends y.2.sends in
    let window : x.1 ≡ y.1 = one_window (has_receive call) call.acceptor x.1 y.1 x.2.receives y.2.receives in
    x.4 ∙ (λ i. record old { threads = enters old.threads n (ipc_next old.threads n call (sent i) (window i)) }) ∙ sym y.4
one_start old n caller (Fault call) ended a b x y = x.1 ∙ sym y.1
one_start old n caller (Unmap call) ended a b x y =
    let fpages : x.0 ≡ y.0 = unmap_reads_same call.control call.words.items x.0 y.0 x.1 y.1 in
    same_machine a b (x.5 ∙ sym y.5) (x.3 ∙ sym y.3)
    (unmaps_unique old.size caller.space (with_own call.control) y.0 old.mappings a.mappings b.mappings
    (subst (λ (f : List Fpage). Unmaps old.size caller.space (with_own call.control) f old.mappings a.mappings) fpages x.4) y.4)
one_start old n caller (Controls (Create c)) ended a b x y =
    let both : Ok x.0 ≡ Ok y.0 = sym x.1 ∙ y.1 in
    let space : x.0 ≡ y.0 = cc in
    x.3 ∙ (λ i. record old { threads = end_call (created old.threads c.id (space i) c.pager) n Controlled; mappings = with_space old.mappings (asks_new c.id c.space) (space i) }) ∙ sym y.3
one_start old n caller (Controls (SetPager c)) ended a b x y =
    let both : Ok x.0 ≡ Ok y.0 = sym x.1 ∙ y.1 in
    let other : x.0 ≡ y.0 = cc in
    x.3 ∙ (λ i. record old { threads = end_call (with_pager old.threads (other i) c.pager) n Controlled }) ∙ sym y.3
one_start old n caller (Controls (Delete id)) ended a b x y =
    let both : Ok x.0 ≡ Ok y.0 = sym x.2 ∙ y.2 in
    let victim : x.0 ≡ y.0 = cc in
    let thread : x.1 ≡ y.1 = same_value (sym x.3 ∙ ap (thread_at old.threads) victim ∙ y.3) in
    let d : DeletesThread n y.0 y.1.space old a =
    subst (λ (t : Thread). DeletesThread n y.0 t.space old a) thread (subst (λ (v : ℕ). DeletesThread n v x.1.space old a) victim x.5) in
    one_delete old n y.0 y.1.space a b d y.5

-- TRANSFER

moved_unique : (Used : PageMove → Type 0) (old a b : Mappings) → Moved Used old a → Moved Used old b → a ≡ b
moved_unique Used old a b f g =
    same_mappings a b (f.spaces ∙ sym g.spaces)
    (λ p. same_option (Becomes Used old p) (shown a p) (shown b p) (f.places p) (g.places p))

-- there is one state after a transfer
transfers_unique : (Used : PageMove → Type 0) (old a b : Mappings) → Transfers Used old a → Transfers Used old b → a ≡ b
transfers_unique Used old a b f g =
    let same : f.middle ≡ g.middle = moved_unique Used old f.middle g.middle f.moved g.moved in
    loses_unique (IsCut Used g.middle) g.middle a b
    (subst (λ (m : Mappings). LosesRights (IsCut Used m) m a) same f.cut) g.cut

-- the two threads of a transfer and what they do are one
pub record SameMeeting (a b : Thread) (c d : Thread) (s t : Sending) (p q : Receiving) : Type 0 where
  pub «from» : a ≡ b
  pub to : c ≡ d
  pub sends : s ≡ t
  pub takes : p ≡ q

pub one_meeting : (t : Threads) (s r : ℕ) (a b : Thread) (c d : Thread) (u v : Sending) (p q : Receiving) → Meets t s r a c u p → Meets t s r b d v q → SameMeeting a b c d u v p q
one_meeting t s r a b c d u v p q x y =
    let fe : a ≡ b = same_value (sym x.from_at ∙ y.from_at) in
    let te : c ≡ d = same_value (sym x.to_at ∙ y.to_at) in
    let sends_both : IsSender u ≡ IsSender v = sym x.from_state ∙ ap (λ (w : Thread). w.state) fe ∙ y.from_state in
    let takes_both : IsReceiver p ≡ IsReceiver q = sym x.to_state ∙ ap (λ (w : Thread). w.state) te ∙ y.to_state in
    record { «from» = fe; to = te; sends = cc; takes = cc }

one_moving : (size : PageSize) (old : Mappings) (a b : Mappings) (from to : Thread) (sends : Sending) (takes : Receiving) (o : Outcome)
    → Moves size old from.space to.space sends.items.items takes.window o a → Moves size old from.space to.space sends.items.items takes.window o b → a ≡ b
one_moving size old a b from to sends takes NoWindow x y = x.1 ∙ sym y.1
one_moving size old a b from to sends takes Entangled x y = x.2 ∙ sym y.2
one_moving size old a b from to sends takes NoMemory x y = x.3 ∙ sym y.3
one_moving size old a b from to sends takes Done x y = transfers_unique (IsUsedBy size old from.space to.space sends.items.items takes.window) old a b x.2 y.2
one_moving size old a b from to sends takes Started x y = absurd x
one_moving size old a b from to sends takes Expired x y = absurd x
one_moving size old a b from to sends takes Canceled x y = absurd x

-- what a transfer does
abbrev Carries : Machine → ℕ → ℕ → Answer → Machine → Thread → Thread → Sending → Receiving → Type 0
Carries old s r answer new from to sends takes =
    Moves old.size old.mappings from.space to.space sends.items.items takes.window answer.outcome new.mappings
    × (new.threads ≡ after_transfer (is_done answer.outcome) old.threads s r from sends takes)

one_transfer : (old : Machine) (s r : ℕ) (answer : Answer) (a b : Machine) → Steps old (Transfer s r) (Ok answer) a → Steps old (Transfer s r) (Ok answer) b → a ≡ b
one_transfer old s r answer a b x y =
    let m = one_meeting old.threads s r x.0 y.0 x.1 y.1 x.2 y.2 x.3 y.3 x.4 y.4 in
    let c : Carries old s r answer a y.0 y.1 y.2 y.3 =
    subst (λ (v : Receiving). Carries old s r answer a y.0 y.1 y.2 v) m.takes
    (subst (λ (v : Sending). Carries old s r answer a y.0 y.1 v x.3) m.sends
    (subst (λ (v : Thread). Carries old s r answer a y.0 v x.2 x.3) m.to
    (subst (λ (v : Thread). Carries old s r answer a v x.1 x.2 x.3) m.«from» (x.5, x.7)))) in
    same_machine a b (x.8 ∙ sym y.8) (c.1 ∙ sym y.7) (one_moving old.size old.mappings a.mappings b.mappings y.0 y.1 y.2 y.3 answer.outcome c.0 y.5)

-- THE STEP

-- a refused step leads to the state before it
pub refused_same : (old : Machine) (step : Step) (e : Refused) (new : Machine) → Steps old step (Err e) new → new ≡ old
refused_same old (Start n call) e new h = h.1
refused_same old (Transfer s r) e new h = h.2
refused_same old (Expire n) e new h = h.2
refused_same old (Cancel n cause) e new h = h.2

-- the state before, the step and its answer determine the state after: want of memory is the only choice, and the answer tells it
pub one_step : (old : Machine) (step : Step) (answer : Result Answer Refused) (a b : Machine) → Steps old step answer a → Steps old step answer b → a ≡ b
one_step old (Start n call) (Ok answer) a b x y =
    let caller : x.0 ≡ y.0 = same_value (sym x.1 ∙ y.1) in
    one_start old n y.0 call answer.ended.items a b (subst (λ (t : Thread). Starts old n t call answer.ended.items a) caller x.4) y.4
one_step old (Start n call) (Err e) a b x y = refused_same old (Start n call) e a x ∙ sym (refused_same old (Start n call) e b y)
one_step old (Transfer s r) (Ok answer) a b x y = one_transfer old s r answer a b x y
one_step old (Transfer s r) (Err e) a b x y = refused_same old (Transfer s r) e a x ∙ sym (refused_same old (Transfer s r) e b y)
one_step old (Expire n) (Ok answer) a b x y =
    let state : x.0.state ≡ y.0.state = same_value (sym x.0.at ∙ y.0.at) in
    x.3 ∙ (λ i. record old { threads = end_call old.threads n (expiry (state i)) }) ∙ sym y.3
one_step old (Cancel n cause) (Ok answer) a b x y =
    let state : x.0.state ≡ y.0.state = same_value (sym x.0.at ∙ y.0.at) in
    x.3 ∙ (λ i. record old { threads = end_call old.threads n (cancellation cause (state i)) }) ∙ sym y.3
one_step old (Cancel n cause) (Err e) a b x y = refused_same old (Cancel n cause) e a x ∙ sym (refused_same old (Cancel n cause) e b y)
one_step old (Expire n) (Err e) a b x y = refused_same old (Expire n) e a x ∙ sym (refused_same old (Expire n) e b y)
