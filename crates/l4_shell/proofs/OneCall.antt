-- A call and the acts that follow it lead to one state, unless memory runs out or the history is full.
use Rattle.std.proofs.Common.{◌≡◌, ℕ, ◌+◌, ◌<◌, ◌≤◌, false, List, [], ◌∷◌, ◌++◌, length, flat_map, Result, Ok, refl, sym, ap, ◌∙◌, subst, inl, inr, arith, append_assoc}
use Rattle.l4_ipc.specs.declared.calls.Call.{Call}
use Rattle.l4_ipc.specs.declared.steps.Answer.{Answer}
use Rattle.l4_ipc.specs.declared.steps.Refused.{Refused}
use Rattle.l4_ipc.specs.declared.steps.Step.{Step}
use Rattle.l4_ipc.specs.declared.steps.CancelCause.{CancelCause}
use Rattle.l4_ipc.specs.declared.steps.Step.TheVariants.{Start, Cancel}
use Rattle.l4_ipc.specs.Following.{Done, AreNext}
use Rattle.l4_ipc.specs.Machine.{Machine}
use Rattle.l4_ipc.specs.Steps.{Steps}
use Rattle.l4_ipc.proofs.OneState.{one_step}
use Rattle.l4_answers.specs.Reports.{Report}
use Rattle.l4_record.specs.Replays.{RanOut}
use Rattle.l4_record.specs.Seated.{is_among, Refuses as RefusesCall, RefusesCancel}
use Rattle.l4_record.specs.declared.refusals.RecordRefusal.{RecordRefusal}
use Rattle.l4_record.proofs.OneAnswer.{one_answer}
use Rattle.l4_servers.specs.Servers.{Servers}
use Rattle.l4_servers.specs.Acting.{NoneReady, ActsNext}
use Rattle.l4_shell.specs.Refusals.{call_refusal}
use Rattle.l4_shell.specs.Sessions.{Session, kept_in, done_reports, steps_in, Act, IsEntered, after_act, AreActs, most_acts, StopsActing, Follows, after_cancel, WaitEnds}
use Rattle.l4_determined.specs.Inside.InOrder.{IsInOrder}
use Rattle.l4_determined.proofs.InOrder.{step_in_order}
use Rattle.l4_determined.proofs.OneNext.{one_end, next_in_order}
use Rattle.l4_determined.specs.Memory.{NoneRanOut}
use Rattle.l4_determined.proofs.OneAct.{one_act}
use Rattle.l4_shell.specs.Lacking.{lacks_by_code, LacksNothing}
use Rattle.l4_shell.specs.Alike.{AreAlike}
use Rattle.l4_shell.proofs.Quiet.{nothing_parts, nothing_both, quiet_step, quiet_steps, not_entered, not_canceled}

-- ONE CALL

-- an act whose reports lack nothing
abbrev IsQuiet : Act → Type 0
IsQuiet act = LacksNothing (flat_map done_reports (act.start ∷ act.steps))

started : (s : Session) (a : Act) → IsEntered s a → Steps s.machine (Start a.thread a.call) (Ok a.start.answer) a.start.after
started s a e = subst (λ (step : Step). Steps s.machine step (Ok a.start.answer) a.start.after) e.start_is e.starts

quiet_start : (s : Session) (a : Act) → IsEntered s a → IsQuiet a → ¬ (RanOut (Ok a.start.answer))
quiet_start s a e q = quiet_step s.machine a.start e.starts (nothing_parts (done_reports a.start) (flat_map done_reports a.steps) q).0

quiet_rest : (s : Session) (a : Act) → IsEntered s a → IsQuiet a → NoneRanOut a.steps
quiet_rest s a e q = quiet_steps a.start.after a.after a.steps e.next (nothing_parts (done_reports a.start) (flat_map done_reports a.steps) q).1

-- two sessions of one state that enter one call come to one machine
one_entered : (s t : Session) (a b : Act) → s.machine ≡ t.machine → IsInOrder s.machine.threads → IsEntered s a → IsEntered t b → a.thread ≡ b.thread → a.call ≡ b.call → IsQuiet a → IsQuiet b → a.after ≡ b.after
one_entered s t a b same so x y thread call p q =
    let mine = started s a x in
    let theirs = subst (λ (m : Machine). Steps m (Start a.thread a.call) (Ok b.start.answer) b.start.after) (sym same)
    (subst (λ (c : ℕ × Call). Steps t.machine (Start c.0 c.1) (Ok b.start.answer) b.start.after) (λ i. (sym thread i, sym call i)) (started t b y)) in
    let given : ◌≡◌ {A = Result Answer Refused} (Ok b.start.answer) (Ok a.start.answer) = one_answer s.machine (Start a.thread a.call) a.start.answer (Ok b.start.answer) a.start.after b.start.after mine theirs (quiet_start s a x p) (quiet_start t b y q) in
    let answer : b.start.answer ≡ a.start.answer = cc in
    let begun : b.start.after ≡ a.start.after = one_step s.machine (Start a.thread a.call) (Ok a.start.answer) b.start.after a.start.after
    (subst (λ (r : Answer). Steps s.machine (Start a.thread a.call) (Ok r) b.start.after) answer theirs) mine in
    one_end a.start.after a.after b.after a.steps b.steps (step_in_order s.machine (Start a.thread a.call) (Ok a.start.answer) a.start.after mine so) x.next
    (subst (λ (m : Machine). AreNext m b.steps b.after) begun y.next) x.idle y.idle (quiet_rest s a x p) (quiet_rest t b y q)

pub entered_in_order : (s : Session) (a : Act) → IsInOrder s.machine.threads → IsEntered s a → IsInOrder a.after.threads
entered_in_order s a so x = next_in_order a.start.after a.after a.steps (step_in_order s.machine (Start a.thread a.call) (Ok a.start.answer) a.start.after (started s a x) so) x.next

-- a call that is entered is not refused in the same state, but for want of memory or room
pub entered_or_refused : (s t : Session) (a : Act) (thread : ℕ) (call : Call) (refusal : RecordRefusal) → AreAlike s t → IsEntered s a → IsQuiet a → a.thread ≡ thread → a.call ≡ call
    → RefusesCall t.machine (kept_in t) t.numbers thread call refusal → lacks_by_code (call_refusal refusal).name ≡ false → ⊥
entered_or_refused s t a thread call refusal alike x q is also refused lacks =
    not_entered t.machine a.start.after (kept_in t) t.numbers thread call refusal a.start.answer refused lacks
    (ap (λ (l : List ℕ). is_among thread l) (sym alike.numbers) ∙ ap (λ (n : ℕ). is_among n s.numbers) (sym is) ∙ x.can.0)
    (subst (λ (m : Machine). Steps m (Start thread call) (Ok a.start.answer) a.start.after) alike.machine
    (subst (λ (c : ℕ × Call). Steps s.machine (Start c.0 c.1) (Ok a.start.answer) a.start.after) (λ i. (is i, also i)) (started s a x)))
    (quiet_start s a x q)

-- ACTS

acts_alike : (s t : Session) (thread : ℕ) (call : Call) (servers : Servers) → AreAlike s t → ActsNext t.machine.threads t.servers thread call servers → ActsNext s.machine.threads s.servers thread call servers
acts_alike s t thread call servers alike x =
    subst (λ (p : Machine × Servers). ActsNext p.0.threads p.1 thread call servers) (λ i. (sym alike.machine i, sym alike.servers i)) x

none_acts : (s t : Session) (thread : ℕ) (call : Call) (servers : Servers) → AreAlike s t → NoneReady s.machine.threads s.servers → ActsNext t.machine.threads t.servers thread call servers → ⊥
none_acts s t thread call servers alike none x = none thread (acts_alike s t thread call servers alike x).first.ready

flip : (s t : Session) → AreAlike s t → AreAlike t s
flip s t a = record { machine = sym a.machine; servers = sym a.servers; numbers = sym a.numbers }

steps_apart : (act : Act) (acts : List Act) (last : List Report) → LacksNothing (flat_map done_reports (steps_in (act ∷ acts)) ++ last) → IsQuiet act × LacksNothing (flat_map done_reports (steps_in acts) ++ last)
steps_apart act acts last h =
    let all = nothing_parts (flat_map done_reports (steps_in (act ∷ acts))) last h in
    let split = nothing_parts (flat_map done_reports (act.start ∷ act.steps)) (flat_map done_reports (steps_in acts)) (subst LacksNothing (maps (act.start ∷ act.steps) (steps_in acts)) all.0) in
    (split.0, nothing_both (flat_map done_reports (steps_in acts)) last split.1 all.1) where
      maps : (xs ys : List Done) → flat_map done_reports (xs ++ ys) ≡ flat_map done_reports xs ++ flat_map done_reports ys
      maps [] ys = refl
      maps (x ∷ xs) ys = ap (λ (l : List Report). done_reports x ++ l) (maps xs ys) ∙ sym (append_assoc (done_reports x) (flat_map done_reports xs) (flat_map done_reports ys))

-- no act follows where none can, and no refused act lacks nothing where one is entered
stop_or_act : (s t : Session) (count : ℕ) (last : List Report) (new : Session) (act : Act) → AreAlike s t → StopsActing s count last new → LacksNothing last → count < most_acts
    → ActsNext t.machine.threads t.servers act.thread act.call act.servers → IsEntered t act → IsQuiet act → ⊥
stop_or_act s t count last new act alike (inl x) lacks few next entered quiet =
    elim x.0 [
      | inl none ↦ none_acts s t act.thread act.call act.servers alike none next
      | inr full ↦ omega (arith, full, few)
    ]
stop_or_act s t count last new act alike (inr x) lacks few next entered quiet =
    let same = one_act t.machine.threads t.servers act.thread x.thread act.call x.call act.servers new.servers next (acts_alike t s x.thread x.call new.servers (flip s t alike) x.acts) in
    entered_or_refused t s act x.thread x.call x.refusal (flip s t alike) entered quiet same.thread same.call x.refused
    (subst LacksNothing x.told_is lacks).0

one_stop : (s t : Session) (count : ℕ) (last other : List Report) (new also : Session) → AreAlike s t → StopsActing s count last new → StopsActing t count other also → LacksNothing last → LacksNothing other → AreAlike new also
one_stop s t count last other new also alike (inl x) (inl y) p q =
    record {
      machine = ap (λ (v : Session). v.machine) x.2 ∙ alike.machine ∙ ap (λ (v : Session). v.machine) (sym y.2);
      servers = ap (λ (v : Session). v.servers) x.2 ∙ alike.servers ∙ ap (λ (v : Session). v.servers) (sym y.2);
      numbers = ap (λ (v : Session). v.numbers) x.2 ∙ alike.numbers ∙ ap (λ (v : Session). v.numbers) (sym y.2);
    }
one_stop s t count last other new also alike (inl x) (inr y) p q =
    absurd (elim x.0 [
      | inl none ↦ none_acts s t y.thread y.call also.servers alike none y.acts
      | inr full ↦ (let few = y.few in omega (arith, full, few))
    ])
one_stop s t count last other new also alike (inr x) (inl y) p q =
    absurd (elim y.0 [
      | inl none ↦ none_acts t s x.thread x.call new.servers (flip s t alike) none x.acts
      | inr full ↦ (let few = x.few in omega (arith, full, few))
    ])
one_stop s t count last other new also alike (inr x) (inr y) p q =
    let same = one_act s.machine.threads s.servers x.thread y.thread x.call y.call new.servers also.servers x.acts (acts_alike s t y.thread y.call also.servers alike y.acts) in
    record {
      machine = ap (λ (v : Session). v.machine) x.same ∙ alike.machine ∙ ap (λ (v : Session). v.machine) (sym y.same);
      servers = same.servers;
      numbers = ap (λ (v : Session). v.numbers) x.same ∙ alike.numbers ∙ ap (λ (v : Session). v.numbers) (sym y.same);
    }

after_alike : (s t : Session) (a b : Act) → AreAlike s t → a.after ≡ b.after → a.servers ≡ b.servers → AreAlike (after_act s a) (after_act t b)
after_alike s t a b alike after servers = record { machine = after; servers = servers; numbers = alike.numbers }

one_acting : (s t m u new also : Session) (xs ys : List Act) (count : ℕ) (last other : List Report) → AreAlike s t → IsInOrder s.machine.threads → AreActs s xs m → AreActs t ys u
    → StopsActing m (count + length xs) last new → StopsActing u (count + length ys) other also → count + length xs ≤ most_acts → count + length ys ≤ most_acts
    → LacksNothing (flat_map done_reports (steps_in xs) ++ last) → LacksNothing (flat_map done_reports (steps_in ys) ++ other) → AreAlike new also
one_acting s t m u new also [] [] count last other alike so x y i j few less p q =
    one_stop s t (count + 0) last other new also alike (subst (λ (v : Session). StopsActing v (count + 0) last new) x i) (subst (λ (v : Session). StopsActing v (count + 0) other also) y j) p q
one_acting s t m u new also [] (b ∷ ys) count last other alike so x y i j few less p q =
    absurd (stop_or_act s t (count + 0) last new b alike (subst (λ (v : Session). StopsActing v (count + 0) last new) x i) p (omega (arith, less)) y.0 y.1 (steps_apart b ys other q).0)
one_acting s t m u new also (a ∷ xs) [] count last other alike so x y i j few less p q =
    absurd (stop_or_act t s (count + 0) other also a (flip s t alike) (subst (λ (v : Session). StopsActing v (count + 0) other also) y j) q (omega (arith, few)) x.0 x.1 (steps_apart a xs last p).0)
one_acting s t m u new also (a ∷ xs) (b ∷ ys) count last other alike so x y i j few less p q =
    let mine = steps_apart a xs last p in
    let theirs = steps_apart b ys other q in
    let same = one_act s.machine.threads s.servers a.thread b.thread a.call b.call a.servers b.servers x.0 (acts_alike s t b.thread b.call b.servers alike y.0) in
    let after = one_entered s t a b alike.machine so x.1 y.1 same.thread same.call mine.0 theirs.0 in
    one_acting (after_act s a) (after_act t b) m u new also xs ys (count + 1) last other (after_alike s t a b alike after same.servers) (entered_in_order s a so x.1) x.2 y.2
    (subst (λ (n : ℕ). StopsActing m n last new) (omega arith) i) (subst (λ (n : ℕ). StopsActing u n other also) (omega arith) j) (omega (arith, few)) (omega (arith, less)) mine.1 theirs.1

-- ONE LINE

-- a call that is entered, and the acts that follow it, lead to one state
pub one_follow : (s t : Session) (thread : ℕ) (call : Call) (u v : Servers) (told other : List Report) (new also : Session) → AreAlike s t → u ≡ v → IsInOrder s.machine.threads
    → Follows s thread call u told new → Follows t thread call v other also → LacksNothing told → LacksNothing other → AreAlike new also
one_follow s t thread call u v told other new also alike servers so x y p q =
    let a = apart x p in
    let b = apart y q in
    let after = one_entered s t x.own y.own alike.machine so x.entered y.entered (x.own_is.0 ∙ sym y.own_is.0) (x.own_is.1 ∙ sym y.own_is.1) a.0 b.0 in
    one_acting (after_act s x.own) (after_act t y.own) x.between y.between new also x.acts y.acts 0 x.last y.last
    (after_alike s t x.own y.own alike after (x.own_is.2 ∙ servers ∙ sym y.own_is.2)) (entered_in_order s x.own so x.entered) x.are y.are
    (subst (λ (n : ℕ). StopsActing x.between n x.last new) (omega arith) x.stops) (subst (λ (n : ℕ). StopsActing y.between n y.last also) (omega arith) y.stops) (omega (arith, x.few)) (omega (arith, y.few)) a.1 b.1 where
      apart : {old after : Session} {w : Servers} {reports : List Report} → (f : Follows old thread call w reports after) → LacksNothing reports → IsQuiet f.own × LacksNothing (flat_map done_reports (steps_in f.acts) ++ f.last)
      apart f h = steps_apart f.own f.acts f.last (nothing_parts (flat_map done_reports (steps_in (f.own ∷ f.acts)) ++ f.last) _ (subst LacksNothing f.told_is h)).0

-- where a call is entered, it is not refused
pub follow_or_refuse : (s t : Session) (thread : ℕ) (call : Call) (u : Servers) (told : List Report) (new : Session) (refusal : RecordRefusal) → AreAlike s t → Follows s thread call u told new → LacksNothing told
    → RefusesCall t.machine (kept_in t) t.numbers thread call refusal → lacks_by_code (call_refusal refusal).name ≡ false → ⊥
follow_or_refuse s t thread call u told new refusal alike f h refused lacks =
    entered_or_refused s t f.own thread call refusal alike f.entered
    (steps_apart f.own f.acts f.last (nothing_parts (flat_map done_reports (steps_in (f.own ∷ f.acts)) ++ f.last) _ (subst LacksNothing f.told_is h)).0).0 f.own_is.0 f.own_is.1 refused lacks

-- A CANCELED WAIT

wait_apart : (old : Session) (thread : ℕ) (cause : CancelCause) (told : List Report) (new : Session) → (w : WaitEnds old thread cause told new) → LacksNothing told
    → LacksNothing (done_reports w.own) × LacksNothing (flat_map done_reports (steps_in w.acts) ++ w.last)
wait_apart old thread cause told new w h =
    let acts : List Report = flat_map done_reports (steps_in w.acts) in
    let all = nothing_parts (done_reports w.own ++ acts) w.last (subst LacksNothing w.told_is h) in
    let split = nothing_parts (done_reports w.own) acts all.0 in
    (split.0, nothing_both acts w.last split.1 all.1)

canceled_by : (s : Session) (thread : ℕ) (cause : CancelCause) (told : List Report) (new : Session) → (w : WaitEnds s thread cause told new) → Steps s.machine (Cancel thread cause) (Ok w.own.answer) w.own.after
canceled_by s thread cause told new w = subst (λ (step : Step). Steps s.machine step (Ok w.own.answer) w.own.after) w.own_is w.steps

-- a wait that is canceled, and the acts that follow, lead to one state
pub one_wait : (s t : Session) (thread : ℕ) (cause : CancelCause) (told other : List Report) (new also : Session) → AreAlike s t → IsInOrder s.machine.threads
    → WaitEnds s thread cause told new → WaitEnds t thread cause other also → LacksNothing told → LacksNothing other → AreAlike new also
one_wait s t thread cause told other new also alike so x y p q =
    let a = wait_apart s thread cause told new x p in
    let b = wait_apart t thread cause other also y q in
    let mine = canceled_by s thread cause told new x in
    let theirs = subst (λ (m : Machine). Steps m (Cancel thread cause) (Ok y.own.answer) y.own.after) (sym alike.machine) (canceled_by t thread cause other also y) in
    let given : ◌≡◌ {A = Result Answer Refused} (Ok y.own.answer) (Ok x.own.answer) = one_answer s.machine (Cancel thread cause) x.own.answer (Ok y.own.answer) x.own.after y.own.after mine theirs (quiet_step s.machine x.own x.steps a.0) (quiet_step t.machine y.own y.steps b.0) in
    let answer : y.own.answer ≡ x.own.answer = cc in
    let after : y.own.after ≡ x.own.after = one_step s.machine (Cancel thread cause) (Ok x.own.answer) y.own.after x.own.after
    (subst (λ (r : Answer). Steps s.machine (Cancel thread cause) (Ok r) y.own.after) answer theirs) mine in
    one_acting (after_cancel s x.own) (after_cancel t y.own) x.between y.between new also x.acts y.acts 0 x.last y.last
    (record { machine = sym after; servers = alike.servers; numbers = alike.numbers }) (step_in_order s.machine (Cancel thread cause) (Ok x.own.answer) x.own.after mine so) x.are y.are
    (subst (λ (n : ℕ). StopsActing x.between n x.last new) (omega arith) x.stops) (subst (λ (n : ℕ). StopsActing y.between n y.last also) (omega arith) y.stops) (omega (arith, x.few)) (omega (arith, y.few)) a.1 b.1

-- where a wait is canceled, that is not refused
pub wait_or_refuse : (s t : Session) (thread : ℕ) (cause : CancelCause) (told : List Report) (new : Session) (refusal : RecordRefusal) → AreAlike s t → WaitEnds s thread cause told new
    → RefusesCancel t.machine (kept_in t) thread cause refusal → lacks_by_code (call_refusal refusal).name ≡ false → ⊥
wait_or_refuse s t thread cause told new refusal alike w refused lacks =
    not_canceled t.machine w.own.after (kept_in t) thread cause refusal w.own.answer refused lacks
    (subst (λ (m : Machine). Steps m (Cancel thread cause) (Ok w.own.answer) w.own.after) alike.machine (canceled_by s thread cause told new w))
