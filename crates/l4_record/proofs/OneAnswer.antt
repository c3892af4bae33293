-- In one state, a step has one answer or refusal, unless memory runs out in it.
use Rattle.std.proofs.Common.{◌≡◌, ◌≢◌, ℕ, zero, suc, ◌<◌, ◌/◌, ◌*◌, ◌&&◌, ◌⊎◌, inl, inr, Bool, true, false, List, [], ◌∷◌, length, Some, Option, Result, Ok, Err, IsTrue, MatchOption, Contains, get_or, refl, sym, ap, ◌∙◌, subst, arith}
use Rattle.std.specs.FinMap as fin
use Rattle.std.specs.FinMap.{nat_cmp-IsAntisymmetric}
use Rattle.std.specs.FinSet as set
use Rattle.std.specs.Cmp.{nat_cmp_total}
use Rattle.std.specs.Ordering.{nat_cmp}
use Rattle.std.specs.List.Sorted.{IsStrictlySortedBy}
use Rattle.std.specs.Option.{option_map_or, option_map}
use Rattle.std.proofs.lemmas.Bool.{false≢true}
use Rattle.std.proofs.lemmas.Map.Keys.{sorted_from_strictly_increasing, below_from_sorted, sorted_tail}
use Rattle.l4_fpage.specs.declared.fpages.Fpage.{Fpage}
use Rattle.l4_fpage.specs.declared.sizes.PageSize.{PageSize}
use Rattle.l4_fpage.proofs.Same.{malformed_reads_none}
use Rattle.l4_msg.specs.declared.items.Item.{Item}
use Rattle.l4_msg.proofs.Reading.{reading_is_unique, reading_excludes_failing, window_is_unique}
use Rattle.l4_mapdb.specs.Mappings.{Mappings}
use Rattle.l4_unmap.proofs.Registers.{reads_not_fails}
use Rattle.l4_threads.specs.declared.Receiving.{Receiving}
use Rattle.l4_threads.specs.declared.Reply.TheVariants.{Controlled}
use Rattle.l4_threads.specs.declared.Sending.{Sending}
use Rattle.l4_threads.specs.declared.Thread.{Thread}
use Rattle.l4_threads.specs.Control.{Deletes, IsEndedList}
use Rattle.l4_threads.specs.Threads.{Threads, thread_at, sends, is_sending, is_running, end_call}
use Rattle.l4_threads.proofs.QueuePairs.{pairs_total, exact_number_pairs}
use Rattle.l4_ipc.specs.declared.calls.Call.{Call}
use Rattle.l4_ipc.specs.declared.calls.Call.TheVariants.{Ipc, Fault, Unmap, Control as Controls}
use Rattle.l4_ipc.specs.declared.calls.Control.TheVariants.{Create, SetPager, Delete}
use Rattle.l4_ipc.specs.declared.steps.Answer.{Answer}
use Rattle.l4_ipc.specs.declared.steps.Outcome.{Outcome}
use Rattle.l4_ipc.specs.declared.steps.Outcome.TheVariants.{Started, Done, NoWindow, Entangled, NoMemory, Expired, Canceled}
use Rattle.l4_ipc.specs.declared.steps.Refused.{Refused}
use Rattle.l4_ipc.specs.declared.steps.Refused.TheVariants.{UnknownThread}
use Rattle.l4_ipc.specs.declared.steps.Step.{Step}
use Rattle.l4_ipc.specs.declared.steps.Step.TheVariants.{Start, Transfer, Expire, Cancel}
use Rattle.l4_phases.specs.declared.turns.Sent.{Sent}
use Rattle.l4_ipc.specs.Machine.{Machine}
use Rattle.l4_ipc.specs.Moving.{Moves}
use Rattle.l4_phases.specs.Phases.{ended_by}
use Rattle.l4_ipc.specs.Start.{has_send, has_receive, ipc_next, IsSent, IsWindow, CallRefuses, RefusesIn, StartRefuses}
use Rattle.l4_ipc.specs.Steps.{Steps, Starts, DeletesThread, is_done, ended_in_transfer}
use Rattle.l4_ipc.proofs.OneState.{same_value, one_meeting}
use Rattle.l4_record.specs.Replays.{RanOut}

-- RISING LISTS

head_or_rest : (k x : ℕ) (xs : List ℕ) (z : ℕ) → k < length (x ∷ xs) → get_or (x ∷ xs) k z ≡ z → (x ≡ z) ⊎ Contains xs z
head_or_rest zero x xs z within is = inl is
head_or_rest (suc k) x xs z within is = inr (k, omega (arith, within), is)

above_first : (x : ℕ) (xs : List ℕ) (z : ℕ) → IsStrictlySortedBy nat_cmp (x ∷ xs) → Contains xs z → x < z
above_first x xs z rising c =
    let within : c.0 < length xs = c.1 in
    let below : x < get_or xs c.0 z = below_from_sorted (x ∷ xs) 0 (suc c.0) z rising (omega arith) (omega (arith, within)) in
    let is : get_or xs c.0 z ≡ z = c.2 in
    omega (arith, below, is)

-- two rising lists with the same members are equal
one_rising : (xs ys : List ℕ) → IsStrictlySortedBy nat_cmp xs → IsStrictlySortedBy nat_cmp ys → ((z : ℕ) → Contains xs z → Contains ys z) → ((z : ℕ) → Contains ys z → Contains xs z) → xs ≡ ys
one_rising [] [] r s f g = refl
one_rising [] (y ∷ ys) r s f g = let c = g y (0, omega arith, refl) in let none : c.0 < length {A = ℕ} [] = c.1 in absurd (omega (arith, none))
one_rising (x ∷ xs) [] r s f g = let c = f x (0, omega arith, refl) in let none : c.0 < length {A = ℕ} [] = c.1 in absurd (omega (arith, none))
one_rising (x ∷ xs) (y ∷ ys) r s f g =
    let a = f x (0, omega arith, refl) in
    let b = g y (0, omega arith, refl) in
    let same : x ≡ y = elim (head_or_rest a.0 y ys x a.1 a.2) [
      | inl is ↦ sym is
      | inr c ↦ elim (head_or_rest b.0 x xs y b.1 b.2) [
        | inl is ↦ is
        | inr d ↦
            let over : y < x = above_first y ys x s c in
            let under : x < y = above_first x xs y r d in
            absurd (omega (arith, over, under))
      ]
    ] in
    let tail : xs ≡ ys = one_rising xs ys (sorted_tail nat_cmp x xs r) (sorted_tail nat_cmp y ys s)
    (λ z c.
    let there = f z (suc c.0, (let within : c.0 < length xs = c.1 in omega (arith, within)), c.2) in
    elim (head_or_rest there.0 y ys z there.1 there.2) [
      | inl is ↦ let under : x < z = above_first x xs z r c in absurd (omega (arith, under, is, same))
      | inr d ↦ d
    ])
    (λ z c.
    let there = g z (suc c.0, (let within : c.0 < length ys = c.1 in omega (arith, within)), c.2) in
    elim (head_or_rest there.0 x xs z there.1 there.2) [
      | inl is ↦ let under : y < z = above_first y ys z s c in absurd (omega (arith, under, is, same))
      | inr d ↦ d
    ]) in
    λ i. same i ∷ tail i

-- DELETE

sends_same : (a b : Threads) → ((n : ℕ) → thread_at a n ≡ thread_at b n) → (n : ℕ) → sends a n ≡ sends b n
sends_same a b same n = ap (λ o. option_map_or is_sending (option_map (λ (t : Thread). t.state) o) false) (same n)

one_left : (n : ℕ) (old a b : Threads) → Deletes n old a → Deletes n old b → a ≡ b
one_left n old a b f g =
    let same : (other : ℕ) → thread_at a other ≡ thread_at b other = λ other. f.threads other ∙ sym (g.threads other) in
    let threads : a.threads ≡ b.threads = fin.same_map nat_cmp_total nat_cmp-IsAntisymmetric a.threads b.threads same in
    let before : a.before ≡ b.before = set.same_set pairs_total exact_number_pairs a.before b.before
    (λ p. f.queue p.0 p.1 ∙ (λ i. set.contains old.before (p.0, p.1) && (sends_same a b same p.0 i && sends_same a b same p.1 i)) ∙ sym (g.queue p.0 p.1)) in
    let next : a.next_space ≡ b.next_space = f.next_space ∙ sym g.next_space in
    λ i. record { threads = threads i; before = before i; next_space = next i }

-- the calls that end beside the caller's
abbrev Others : Machine → Machine → ℕ → List ℕ → Type 0
Others old new n ended = (others : List ℕ) × (ended ≡ n ∷ others) × IsEndedList old.threads new.threads others

one_delete_list : (old a b : Machine) (n victim s t : ℕ) (xs ys : List ℕ) → DeletesThread n victim s old a → DeletesThread n victim t old b → Others old a n xs → Others old b n ys → xs ≡ ys
one_delete_list old a b n victim s t xs ys x y u v =
    let left : x.left ≡ y.left = one_left victim old.threads x.left y.left x.deleted y.deleted in
    let threads : a.threads ≡ b.threads = x.threads ∙ ap (λ (l : Threads). end_call l n Controlled) left ∙ sym y.threads in
    let again : IsEndedList old.threads b.threads u.0 = subst (λ (l : Threads). IsEndedList old.threads l u.0) threads u.2 in
    let others : u.0 ≡ v.0 = one_rising u.0 v.0 (sorted_from_strictly_increasing u.0 again.rising) (sorted_from_strictly_increasing v.0 v.2.rising)
    (λ z c. (v.2.each z).1 ((again.each z).0 c))
    (λ z c. (again.each z).1 ((v.2.each z).0 c)) in
    u.1 ∙ ap (λ (ns : List ℕ). n ∷ ns) others ∙ sym v.1

-- START

one_sent : (some : Bool) (words : List ℕ) (a b : Sent) → IsSent some words a → IsSent some words b → a ≡ b
one_sent true words a b x y =
    let counted : a.words.items ≡ b.words.items = x.2 ∙ sym y.2 in
    let items : a.items ≡ b.items = x.3 ∙ ap (λ m. m.items) (reading_is_unique words x.0 y.0 x.1 y.1) ∙ sym y.3 in
    λ i. record { words = record { items = counted i }; items = items i }
one_sent false words a b x y =
    let counted : a.words.items ≡ b.words.items = x.0 ∙ sym y.0 in
    let items : a.items.items ≡ b.items.items = x.1 ∙ sym y.1 in
    λ i. record { words = record { items = counted i }; items = record { items = items i } }

one_window : (some : Bool) (word : ℕ) (a b : Fpage) → IsWindow some word a → IsWindow some word b → a ≡ b
one_window true word a b x y = window_is_unique word a b x y
one_window false word a b x y = x ∙ sym y

one_ended : (old : Machine) (n : ℕ) (caller : Thread) (call : Call) (xs ys : List ℕ) (a b : Machine) → Starts old n caller call xs a → Starts old n caller call ys b → xs ≡ ys
one_ended old n caller (Ipc call) xs ys a b x y =
    let sent : x.0 ≡ y.0 = one_sent (has_send call) call.words.items x.0 y.0 x.2.sends y.2.sends in
    let window : x.1 ≡ y.1 = one_window (has_receive call) call.acceptor x.1 y.1 x.2.receives y.2.receives in
    x.3 ∙ (λ i. ended_by n (ipc_next old.threads n call (sent i) (window i))) ∙ sym y.3
one_ended old n caller (Fault call) xs ys a b x y = x.0 ∙ sym y.0
one_ended old n caller (Unmap call) xs ys a b x y = x.2 ∙ sym y.2
one_ended old n caller (Controls (Create c)) xs ys a b x y = x.2 ∙ sym y.2
one_ended old n caller (Controls (SetPager c)) xs ys a b x y = x.2 ∙ sym y.2
one_ended old n caller (Controls (Delete id)) xs ys a b x y =
    let both : Ok x.0 ≡ Ok y.0 = sym x.2 ∙ y.2 in
    let victim : x.0 ≡ y.0 = cc in
    one_delete_list old a b n y.0 x.1.space y.1.space xs ys (subst (λ (v : ℕ). DeletesThread n v x.1.space old a) victim x.5) y.5 x.4 y.4

-- a call that is accepted is not refused
not_refused : (old : Machine) (n : ℕ) (caller : Thread) (call : Call) (ended : List ℕ) (new : Machine) (e : Refused) → Starts old n caller call ended new → ¬ (CallRefuses old n call e)
not_refused old n caller (Ipc call) ended new e x h =
    elim h [
      | inl p ↦ false≢true (sym x.2.timeouts ∙ p.0)
      | inr p ↦ elim p.1.1 [
        | inl q ↦
            let reads = subst (λ (b : Bool). IsSent b call.words.items x.0) q.0 x.2.sends in
            reading_excludes_failing call.words.items reads.0 p.1.0 reads.1 q.1
        | inr q ↦
            let reads = subst (λ (b : Bool). IsWindow b call.acceptor x.1) q.2 x.2.receives in
            malformed_reads_none (call.acceptor / 16 * 16) x.1 q.3 reads
      ]
    ]
not_refused old n caller (Fault call) ended new e x h = h
not_refused old n caller (Unmap call) ended new e x h = reads_not_fails call.control call.words.items x.0 h.0 x.1 h.1
not_refused old n caller (Controls (Create c)) ended new e x h = let k : Ok x.0 ≡ Err h.0 = sym x.1 ∙ h.1 in cc
not_refused old n caller (Controls (SetPager c)) ended new e x h = let k : Ok x.0 ≡ Err h.0 = sym x.1 ∙ h.1 in cc
not_refused old n caller (Controls (Delete id)) ended new e x h = let k : Ok x.0 ≡ Err h.0 = sym x.2 ∙ h.1 in cc

refused_running : (old : Machine) (n : ℕ) (call : Call) (e : Refused) (caller : Thread) → thread_at old.threads n ≡ Some caller → IsTrue (is_running caller.state) → StartRefuses old n call e → CallRefuses old n call e
refused_running old n call e caller at running h =
    let there : RefusesIn (is_running caller.state) old n call e =
    subst (λ (o : Option Thread). MatchOption (option_map (λ (t : Thread). t.state) o) (e ≡ UnknownThread) (λ state. RefusesIn (is_running state) old n call e)) at h in
    subst (λ (b : Bool). RefusesIn b old n call e) running there

-- TRANSFER

module _ (size : PageSize) (old : Mappings) (from to : ℕ) (items : List Item) (window : Fpage) where
  one_outcome : (p q : Outcome) (a b : Mappings) → Moves size old from to items window p a → Moves size old from to items window q b → p ≢ NoMemory → q ≢ NoMemory → p ≡ q
  one_outcome NoWindow NoWindow a b x y np nq = refl
  one_outcome NoWindow Entangled a b x y np nq = absurd (y.0 x.0)
  one_outcome NoWindow NoMemory a b x y np nq = absurd (nq refl)
  one_outcome NoWindow Done a b x y np nq = absurd (y.0 x.0)
  one_outcome NoWindow Started a b x y np nq = absurd y
  one_outcome NoWindow Expired a b x y np nq = absurd y
  one_outcome NoWindow Canceled a b x y np nq = absurd y
  one_outcome Entangled NoWindow a b x y np nq = absurd (x.0 y.0)
  one_outcome Entangled Entangled a b x y np nq = refl
  one_outcome Entangled NoMemory a b x y np nq = absurd (nq refl)
  one_outcome Entangled Done a b x y np nq = absurd (y.1 x.1)
  one_outcome Entangled Started a b x y np nq = absurd y
  one_outcome Entangled Expired a b x y np nq = absurd y
  one_outcome Entangled Canceled a b x y np nq = absurd y
  one_outcome Done NoWindow a b x y np nq = absurd (x.0 y.0)
  one_outcome Done Entangled a b x y np nq = absurd (x.1 y.1)
  one_outcome Done NoMemory a b x y np nq = absurd (nq refl)
  one_outcome Done Done a b x y np nq = refl
  one_outcome Done Started a b x y np nq = absurd y
  one_outcome Done Expired a b x y np nq = absurd y
  one_outcome Done Canceled a b x y np nq = absurd y
  one_outcome NoMemory q a b x y np nq = absurd (np refl)
  one_outcome Started q a b x y np nq = absurd x
  one_outcome Expired q a b x y np nq = absurd x
  one_outcome Canceled q a b x y np nq = absurd x

-- the outcome, and the threads whose calls ended
abbrev Ends : Machine → ℕ → ℕ → Answer → Machine → Thread → Thread → Sending → Receiving → Type 0
Ends old s r answer new from to sends takes =
    Moves old.size old.mappings from.space to.space sends.items.items takes.window answer.outcome new.mappings
    × (answer.ended.items ≡ ended_in_transfer (is_done answer.outcome) old.threads s r sends)

-- THE STEP

same_parts : (a b : Answer) → a.outcome ≡ b.outcome → a.ended.items ≡ b.ended.items → a ≡ b
same_parts a b outcome ended = λ i. record { outcome = outcome i; ended = record { items = ended i } }

one_carried : (old : Machine) (s r : ℕ) (a b : Answer) (m n : Machine) → Steps old (Transfer s r) (Ok a) m → Steps old (Transfer s r) (Ok b) n → a.outcome ≢ NoMemory → b.outcome ≢ NoMemory → b ≡ a
one_carried old s r a b m n x y p q =
    let meet = one_meeting old.threads s r x.0 y.0 x.1 y.1 x.2 y.2 x.3 y.3 x.4 y.4 in
    let c : Ends old s r a m y.0 y.1 y.2 y.3 =
    subst (λ (v : Receiving). Ends old s r a m y.0 y.1 y.2 v) meet.takes
    (subst (λ (v : Sending). Ends old s r a m y.0 y.1 v x.3) meet.sends
    (subst (λ (v : Thread). Ends old s r a m y.0 v x.2 x.3) meet.to
    (subst (λ (v : Thread). Ends old s r a m v x.1 x.2 x.3) meet.«from» (x.5, x.6)))) in
    let outcome : b.outcome ≡ a.outcome = one_outcome old.size old.mappings y.0.space y.1.space y.2.items.items y.3.window b.outcome a.outcome n.mappings m.mappings y.5 c.0 q p in
    same_parts b a outcome (y.6 ∙ ap (λ (o : Outcome). ended_in_transfer (is_done o) old.threads s r y.2) outcome ∙ sym c.1)

pub one_answer : (old : Machine) (step : Step) (a : Answer) (given : Result Answer Refused) (m n : Machine) → Steps old step (Ok a) m → Steps old step given n → ¬ (RanOut (Ok a)) → ¬ (RanOut given) → given ≡ Ok a
one_answer old (Start k call) a (Ok b) m n x y p q =
    let caller : x.0 ≡ y.0 = same_value (sym x.1 ∙ y.1) in
    ap Ok (same_parts b a (y.3 ∙ sym x.3)
    (one_ended old k y.0 call b.ended.items a.ended.items n m y.4 (subst (λ (t : Thread). Starts old k t call a.ended.items m) caller x.4)))
one_answer old (Start k call) a (Err e) m n x y p q =
    elim y.0 [
      | inl h ↦ absurd (not_refused old k x.0 call a.ended.items m e x.4 (refused_running old k call e x.0 x.1 x.2 h))
      | inr h ↦ absurd (q h.1)
    ]
one_answer old (Transfer s r) a (Ok b) m n x y p q = ap Ok (one_carried old s r a b m n x y p q)
one_answer old (Transfer s r) a (Err e) m n x y p q = absurd (y.0 x.4.enabled)
one_answer old (Expire k) a (Ok b) m n x y p q = ap Ok (same_parts b a (y.1 ∙ sym x.1) (y.2 ∙ sym x.2))
one_answer old (Expire k) a (Err e) m n x y p q = absurd (y.0 x.0)
one_answer old (Cancel k cause) a (Ok b) m n x y p q = ap Ok (same_parts b a (y.1 ∙ sym x.1) (y.2 ∙ sym x.2))
one_answer old (Cancel k cause) a (Err e) m n x y p q = absurd (y.0 x.0)

pub ran_out_or_not : (a : Answer) → RanOut (Ok a) ⊎ ¬ (RanOut (Ok a))
ran_out_or_not a = which a.outcome where
  which : (o : Outcome) → (o ≡ NoMemory) ⊎ (o ≢ NoMemory)
  which NoMemory = inl refl
  which Started = inr (λ e. let k : Started ≡ NoMemory = e in cc)
  which Done = inr (λ e. let k : Done ≡ NoMemory = e in cc)
  which NoWindow = inr (λ e. let k : NoWindow ≡ NoMemory = e in cc)
  which Entangled = inr (λ e. let k : Entangled ≡ NoMemory = e in cc)
  which Expired = inr (λ e. let k : Expired ≡ NoMemory = e in cc)
  which Canceled = inr (λ e. let k : Canceled ≡ NoMemory = e in cc)
