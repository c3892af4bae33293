-- A wait that was canceled, and the acts that follow it, told one after another.
use Rattle.std.proofs.Common.{◌≡◌, ℕ, true, false, ◌||◌, List, [], ◌∷◌, ◌++◌, Ok, inl, inr, refl, sym, ap, ◌∙◌, subst, eq-eqb}
use Rattle.std.specs.List.{flat_map}
use Rattle.std.proofs.lemmas.List.{append-nil}
use mathlib.Core.List.{append_assoc}
use Rattle.l4_ipc.specs.declared.steps.CancelCause.{CancelCause}
use Rattle.l4_ipc.specs.declared.steps.Step.TheVariants.{Cancel}
use Rattle.l4_ipc.specs.Following.{Done}
use Rattle.l4_ipc.specs.Machine.{Machine}
use Rattle.l4_ipc.specs.NextSteps.{cancel_answer}
use Rattle.l4_record.specs.declared.refusals.RecordRefusal.{RecordRefusal}
use Rattle.l4_record.specs.Entering.{Cancels}
use Rattle.l4_record.specs.Seated.{Seated, is_among, RefusesCancel}
use Rattle.l4_record.specs.Segments.{kept_count}
use Rattle.l4_answers.specs.Reports.{Report, RefusedLine, AddsAll}
use Rattle.l4_answers.proofs.Adding.{adds_more, adds_is}
use Rattle.l4_servers.specs.Servers.{Servers}
use Rattle.l4_shell.specs.Refusals.{call_refusal}
use Rattle.l4_shell.specs.Sessions.{Session, session, done_reports, ended_in, waiting_reports, steps_in, AreActs, after_cancel, WaitEnds, CancelsWait}
use Rattle.l4_shell.specs.Inside.Telling.{step_reports, GoesOn}

abbrev own_done : ℕ → CancelCause → Machine → Done
own_done thread cause after = record { step = Cancel thread cause; answer = cancel_answer thread; after = after }

-- the session once the wait was canceled
went : (old new : Seated) (sv : Servers) (thread : ℕ) (cause : CancelCause) → Cancels old new thread cause → session new sv ≡ after_cancel (session old sv) (own_done thread cause new.machine)
went old new sv thread cause e =
    λ i. record { machine = new.machine; servers = sv; history = e.history i; numbers = e.same.0 i; seen = e.same.1 i; kept_from = e.same.2 i }

pub wait_ends : {T : Type 0} (has_told : T → T → List Report → Type 0) (old new : Seated) (sv : Servers) (last : Session) (line thread : ℕ) (cause : CancelCause) (read : Machine) (before s t : T) → Cancels old new thread cause
    → read ≡ new.machine → AddsAll has_told before s (step_reports (Cancel thread cause) (cancel_answer thread) read)
    → ((had : List ℕ) → true ≡ is_among thread had → (told : List Report) × GoesOn (session new sv) thread had told last × AddsAll has_told s t told)
    → (told : List Report) × CancelsWait (session old sv) line thread cause told last × AddsAll has_told before t told
wait_ends has_told old new sv last line thread cause read before s t e same told next =
    let own : Done = own_done thread cause new.machine in
    let here : is_among thread (thread ∷ []) ≡ true = ap (λ b. b || false) (eq-eqb thread thread refl) in
    let rest = next (thread ∷ []) (sym here) in
    let g = rest.1 in
    let acts : List Report = flat_map done_reports (steps_in g.acts) in
    let none : waiting_reports thread (is_among thread ((thread ∷ []) ++ ended_in (steps_in g.acts))) ≡ [] =
    ap (λ b. waiting_reports thread (b || is_among thread (ended_in (steps_in g.acts)))) (eq-eqb thread thread refl) in (
      done_reports own ++ rest.0,
      inl (record {
        room = e.room;
        own = own;
        own_is = refl;
        steps = e.steps;
        idle = e.idle;
        acts = g.acts;
        between = g.between;
        are = subst (λ (x : Session). AreActs x g.acts g.between) (went old new sv thread cause e) g.are;
        few = g.few;
        last = g.last;
        stops = g.stops;
        told_is =
            ap (λ (l : List Report). done_reports own ++ l) (g.told_is ∙ ap (λ (l : List Report). (acts ++ g.last) ++ l) none ∙ append-nil (acts ++ g.last))
            ∙ sym (append_assoc (done_reports own) acts g.last);
      }),
      adds_more has_told before s t _ _ (adds_is has_told before s _ _ (ap (λ (m : Machine). step_reports (Cancel thread cause) (cancel_answer thread) m) same) told) rest.2,
    )

pub wait_goes_on : {T : Type 0} (has_told : T → T → List Report → Type 0) (old new : Seated) (sv : Servers) (line thread : ℕ) (cause : CancelCause) (refusal : RecordRefusal) (told : List Report) (before t : T)
    → RefusesCancel old.machine (kept_count old.kept_from old.history) thread cause refusal × (new ≡ old) → told ≡ RefusedLine line (call_refusal refusal) ∷ [] → AddsAll has_told before t told
    → (told : List Report) × CancelsWait (session old sv) line thread cause told (session new sv) × AddsAll has_told before t told
wait_goes_on has_told old new sv line thread cause refusal told before t refused is tells =
    (told, inr (refusal, refused.0, (is, ap (λ (k : Seated). session k sv) refused.1)), tells)
