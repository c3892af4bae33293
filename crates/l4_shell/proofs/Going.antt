-- The entries of calls and the acts of served threads, told one after another.
use Rattle.std.proofs.Common.{◌≡◌, ℕ, suc, ◌+◌, ◌<◌, ◌≤◌, Bool, true, false, ◌||◌, length, length-append, map, Contains, arith, List, [], ◌∷◌, ◌++◌, Option, Some, None, inl, inr, sym, ap, subst, ◌∙◌, refl, nat_eq}
use Rattle.std.specs.Prelude.{MatchOption}
use Rattle.std.specs.Option.{is_some}
use Rattle.std.proofs.lemmas.Bool.{false≢true}
use Rattle.std.proofs.lemmas.List.{append-nil}
use Rattle.std.proofs.lemmas.List.Folds.{list_any-append}
use Rattle.std.proofs.lemmas.Grind.{flat_map-append}
use mathlib.Core.List.{append_assoc}
use Rattle.l4_ipc.specs.declared.steps.Step.TheVariants.{Start}
use Rattle.l4_ipc.specs.declared.calls.Call.{Call}
use Rattle.l4_fpage.specs.declared.sizes.PageSize.{PageSize}
use Rattle.l4_ipc.specs.Machine.{Machine}
use Rattle.l4_ipc.specs.Reading.{reply_of}
use Rattle.l4_answers.specs.Reports.{Report, RefusedLine, RefusedAct, Ended, AddsAll}
use Rattle.l4_ipc.specs.Following.{Done}
use Rattle.l4_ipc.specs.Following.{AreNext}
use Rattle.l4_ipc.specs.NextSteps.{step_of, answer_of}
use Rattle.l4_ipc.specs.declared.steps.NextStep.{NextStep}
use Rattle.l4_record.specs.declared.appended.Appended.{Appended}
use Rattle.l4_record.specs.declared.entries.Entry.{Entry}
use Rattle.l4_record.specs.declared.refusals.RecordRefusal.{RecordRefusal}
use Rattle.l4_record.specs.Following.{ComeNext, start_entry, next_entry}
use Rattle.l4_record.specs.Segments.{kept_count}
use Rattle.l4_record.specs.Seated.{Seated, is_among, IsNew, Refuses as RefusesCall, with_number}
use Rattle.l4_record.specs.Entering.{Enters as EntersCall}
use Rattle.l4_shell.specs.Inside.Entering.{Entered}
use Rattle.l4_servers.specs.Servers.{Servers}
use Rattle.l4_threads.specs.declared.Reply.{Reply}
use Rattle.l4_threads.specs.Threads.{Threads}
use Rattle.l4_servers.specs.Acting.{NoneReady, IsFirstReady, Follows as FollowsReply, ActsNext}
use Rattle.l4_shell.specs.Refusals.{call_refusal, lacks_memory}
use Rattle.l4_shell.specs.Sessions.{Session, session, done_entry, done_reports, own_report, ended_reports, ended_in, waiting_reports, Act, IsEntered, after_act, steps_in, AreActs, Follows, Refuses, Enters, Creates}
use Rattle.l4_commands.specs.Calls.{root}
use Rattle.l4_shell.specs.Inside.Scripts.{HasFirstSeats}
use Rattle.l4_shell.specs.Inside.Telling.{next_reports, ended_later, TellsAppended, TellsCall, TellsRefusal, TellsActs, GoesOn}
use Rattle.std.specs.List.{flat_map}
use Rattle.l4_answers.proofs.Adding.{adds_none, adds_more, adds_is}

-- WHAT A CALL APPENDED

-- what ended in a step is told at the end as it was right after it
told_later : (now after : Machine) (ended : List ℕ) → ((k : ℕ) → Contains ended k → reply_of now.threads k ≡ reply_of after.threads k) → ended_reports now ended ≡ ended_reports after ended
told_later now after [] lasts = refl
told_later now after (n ∷ ended) lasts =
    (λ i. Ended n (lasts n (0, omega arith, refl) i) ∷ told_later now after ended (λ k c. lasts k (suc c.0, (let lt = c.1 in omega (arith, lt)), c.2)) i)

-- the steps that came next, each with the machine right after it
record Walked (m : Machine) (steps : List NextStep) (new : Machine) : Type 0 where
  pub done : List Done
  pub next : AreNext m done new
  pub count : length done ≡ length steps
  pub entries : (n : ℕ) → map (next_entry n) steps ≡ map (done_entry n) done
  pub texts : flat_map (next_reports new) steps ≡ flat_map done_reports done
  pub ended : ended_later steps ≡ ended_in done

walked : (m : Machine) (steps : List NextStep) (new : Machine) → ComeNext m steps new → Walked m steps new
walked m [] new g = record { done = []; next = g; count = refl; entries = λ n. refl; texts = refl; ended = refl }
walked m (s ∷ steps) new g =
    let w : Walked g.1.0 steps new = walked g.1.0 steps new g.1.3 in
    record {
      done = record { step = step_of s; answer = answer_of s; after = g.1.0 } ∷ w.done;
      next = (g.0, g.1.1, w.next);
      count = ap (λ (k : ℕ). suc k) w.count;
      entries = λ n. ap (λ (l : List Entry). next_entry n s ∷ l) (w.entries n);
      texts = λ i. (own_report (step_of s) (answer_of s).outcome ++ told_later new g.1.0 (answer_of s).ended.items g.1.2 i) ++ w.texts i;
      ended = ap (λ (l : List ℕ). (answer_of s).ended.items ++ l) w.ended;
    }

pub calls_on : {T : Type 0} (has_told : T → T → List Report → Type 0) (old new : Seated) (caller : ℕ) (call : Call) (appended : Appended) (read : Machine) (thread : ℕ) (ended : Bool) (before t : T) → EntersCall old new caller call appended
    → read ≡ new.machine → TellsAppended read appended thread ended has_told before t → TellsCall old caller call thread ended new has_told before t
calls_on has_told old new caller call appended read thread ended before t e same told =
    let w : Walked e.started appended.next.items new.machine = walked e.started appended.next.items new.machine e.next in
    record {
      enters = record {
        can = e.can;
        answer = appended.start;
        started = e.started;
        starts = e.starts;
        steps = w.done;
        next = w.next;
        few = (let l = w.count in let few = e.few in omega (arith, l, few));
        idle = e.idle;
        history = e.history ∙ ap (λ (l : List Entry). old.history ++ start_entry caller call appended.start ∷ l) (w.entries caller);
        same = e.same;
      };
      ended_is = told.ended_is ∙ ap (λ (l : List ℕ). is_among thread (appended.start.ended.items ++ l)) w.ended;
      tells = adds_is has_told before t _ _
          (ap (λ (m : Machine). ended_reports m appended.start.ended.items ++ flat_map (next_reports m) appended.next.items) same
          ∙ (λ i. told_later new.machine e.started appended.start.ended.items e.lasts i ++ w.texts i))
          told.tells;
    }

-- an entered call
abbrev act_of : (old new : Seated) (later : Servers) (caller : ℕ) (call : Call) → Entered old new caller call → Act
act_of old new later caller call e = record {
  thread = caller;
  call = call;
  servers = later;
  start = record { step = Start caller call; answer = e.answer; after = e.started };
  steps = e.steps;
  after = new.machine;
}

entered : (old new : Seated) (sv later : Servers) (caller : ℕ) (call : Call) → (e : Entered old new caller call) → IsEntered (session old sv) (act_of old new later caller call e)
entered old new sv later caller call e = record { can = e.can; start_is = refl; starts = e.starts; next = e.next; few = e.few; idle = e.idle }

-- the session once a call was entered
went : (old new : Seated) (sv later : Servers) (caller : ℕ) (call : Call) → (e : Entered old new caller call) → session new later ≡ after_act (session old sv) (act_of old new later caller call e)
went old new sv later caller call e =
    λ i. record { machine = new.machine; servers = later; history = e.history i; numbers = e.same.0 i; seen = e.same.1 i; kept_from = e.same.2 i }

-- ACTS

-- one act after those that were done
acts_more : (old between new : Session) (acts : List Act) (act : Act) → AreActs old acts between → ActsNext between.machine.threads between.servers act.thread act.call act.servers → IsEntered between act → new ≡ after_act between act
    → AreActs old (acts ++ act ∷ []) new
acts_more old between new [] act are acts is then_is =
    subst (λ (m : Session). ActsNext m.machine.threads m.servers act.thread act.call act.servers → IsEntered m act → new ≡ after_act m act → AreActs old (act ∷ []) new) (sym are) (λ acts' is' new'. (acts', is', new')) acts is then_is
acts_more old between new (first ∷ rest) act are acts is then_is = (are.0, are.1, acts_more (after_act old first) between new rest act are.2 acts is then_is)

-- their steps
steps_more : (acts : List Act) (act : Act) → steps_in (acts ++ act ∷ []) ≡ steps_in acts ++ (act.start ∷ act.steps)
steps_more acts act = flat_map-append (λ (x : Act). x.start ∷ x.steps) acts (act ∷ []) ∙ ap (λ l. steps_in acts ++ l) (append-nil (act.start ∷ act.steps))

reports_more : (a b : List Done) → flat_map done_reports (a ++ b) ≡ flat_map done_reports a ++ flat_map done_reports b
reports_more a b = flat_map-append done_reports a b

ended_more : (a b : List Done) → ended_in (a ++ b) ≡ ended_in a ++ ended_in b
ended_more a b = flat_map-append (λ (done : Done). done.answer.ended.items) a b

among_more : (thread : ℕ) (a b : List ℕ) → is_among thread (a ++ b) ≡ (is_among thread a || is_among thread b)
among_more thread a b = list_any-append (λ n. nat_eq n thread) a b

-- so far these acts were done and told, and the thread's call has ended in one or not
pub record Acting {T : Type 0} (old : Session) (thread count : ℕ) (m : Session) (has : Bool) (has_told : T → T → List Report → Type 0) (before after : T) : Type 0 where
  pub acts : List Act
  pub are : AreActs old acts m
  pub number : length acts ≡ count
  pub has_is : has ≡ is_among thread (ended_in (steps_in acts))
  pub tells : AddsAll has_told before after (flat_map done_reports (steps_in acts))

pub acting_none : {T : Type 0} (has_told : T → T → List Report → Type 0) (m : Session) (thread : ℕ) (before : T) → Acting m thread 0 m false has_told before before
acting_none has_told m thread before = record { acts = []; are = refl; number = refl; has_is = refl; tells = adds_none has_told before }

-- the first of the served threads that run, whose reply was found, acts next
replied : (t : Threads) (sv later : Servers) (server : ℕ) (old call : Call) (o : Option Reply) → reply_of t server ≡ o → IsFirstReady t sv server
    → MatchOption o ((later ≡ sv) × (call ≡ old)) (λ reply. FollowsReply t sv server reply call later) → ActsNext t sv server call later
replied t sv later server old call None is first follows = absurd (false≢true (sym (ap is_some is) ∙ first.ready.1))
replied t sv later server old call (Some reply) is first follows = record { first = first; reply = reply; reply_is = is; follows = follows }

pub next_act : (m read : Machine) (sv later : Servers) (server : ℕ) (old call : Call) → read ≡ m → IsFirstReady m.threads sv server
    → MatchOption (reply_of read.threads server) ((later ≡ sv) × (call ≡ old)) (λ reply. FollowsReply read.threads sv server reply call later) → ActsNext m.threads sv server call later
next_act m read sv later server old call same first follows =
    replied m.threads sv later server old call _ refl first
    (subst (λ (x : Machine). MatchOption (reply_of x.threads server) ((later ≡ sv) × (call ≡ old)) (λ reply. FollowsReply x.threads sv server reply call later)) same follows)

pub acting_more : {T : Type 0} (has_told : T → T → List Report → Type 0) (old : Session) (thread count : ℕ) (m new : Seated) (sv later : Servers) (has : Bool) (before s t : T) (server : ℕ) (call : Call) (own : Bool) → Acting old thread count (session m sv) has has_told before s
    → ActsNext m.machine.threads sv server call later → TellsCall m server call thread own new has_told s t
    → Acting old thread (count + 1) (session new later) (has || own) has_told before t
acting_more has_told old thread count m new sv later has before s t server call own g acts told =
    let e = told.enters in
    let act : Act = act_of m new later server call e in
    let more : steps_in (g.acts ++ act ∷ []) ≡ steps_in g.acts ++ (act.start ∷ act.steps) = steps_more g.acts act in
    record {
      acts = g.acts ++ act ∷ [];
      are = acts_more old (session m sv) (session new later) g.acts act g.are acts (entered m new sv later server call e) (went m new sv later server call e);
      number = length-append g.acts (act ∷ []) ∙ ap (λ n. n + 1) g.number;
      has_is =
          ap (λ v. v || own) g.has_is
          ∙ ap (λ v. is_among thread (ended_in (steps_in g.acts)) || v) told.ended_is
          ∙ sym (among_more thread (ended_in (steps_in g.acts)) (ended_in (act.start ∷ act.steps)))
          ∙ ap (is_among thread) (sym (ap ended_in more ∙ ended_more (steps_in g.acts) (act.start ∷ act.steps)));
      tells = adds_is has_told before t _ _ (sym (ap (flat_map done_reports) more ∙ reports_more (steps_in g.acts) (act.start ∷ act.steps)))
          (adds_more has_told before s t _ _ g.tells told.tells);
    }

-- no served thread runs
pub acting_quiet : {T : Type 0} (has_told : T → T → List Report → Type 0) (old : Session) (thread count : ℕ) (m : Seated) (sv : Servers) (read : Machine) (has : Bool) (before s : T) → count ≤ 256
    → Acting old thread count (session m sv) has has_told before s → read ≡ m.machine → NoneReady read.threads sv → TellsActs old thread has (session m sv) has_told before s
acting_quiet has_told old thread count m sv read has before s le g same none = record {
  acts = g.acts;
  between = session m sv;
  are = g.are;
  few = omega (arith, g.number, le);
  last = [];
  stops = inl (inl (subst (λ (x : Machine). NoneReady x.threads sv) same none), refl, refl);
  ended_is = g.has_is;
  tells = adds_is has_told before s _ _ (sym (append-nil (flat_map done_reports (steps_in g.acts)))) g.tells;
}

-- the line has had all its acts
pub acting_spent : {T : Type 0} (has_told : T → T → List Report → Type 0) (old : Session) (thread count : ℕ) (m : Session) (has : Bool) (before s : T) → count ≡ 256
    → Acting old thread count m has has_told before s → TellsActs old thread has m has_told before s
acting_spent has_told old thread count m has before s all g = record {
  acts = g.acts;
  between = m;
  are = g.are;
  few = omega (arith, g.number, all);
  last = [];
  stops = inl (inr (g.number ∙ all), refl, refl);
  ended_is = g.has_is;
  tells = adds_is has_told before s _ _ (sym (append-nil (flat_map done_reports (steps_in g.acts)))) g.tells;
}

-- an act was refused
pub acting_refused : {T : Type 0} (has_told : T → T → List Report → Type 0) (old : Session) (thread count : ℕ) (m new : Seated) (sv later : Servers) (has : Bool) (before s t : T) (server : ℕ) (call : Call) (refusal : RecordRefusal) (told : List Report) → count < 256 → Acting old thread count (session m sv) has has_told before s → ActsNext m.machine.threads sv server call later
    → RefusesCall m.machine (kept_count m.kept_from m.history) m.numbers server call refusal × (new ≡ m) → told ≡ RefusedAct server (call_refusal refusal) ∷ [] → AddsAll has_told s t told
    → TellsActs old thread has (session new later) has_told before t
acting_refused has_told old thread count m new sv later has before s t server call refusal told lt g acts refused is tells =
    record {
      acts = g.acts;
      between = session m sv;
      are = g.are;
      few = omega (arith, g.number, lt);
      last = told;
      stops = inr (record {
        few = omega (arith, g.number, lt);
        thread = server;
        call = call;
        acts = acts;
        refusal = refusal;
        refused = refused.0;
        same = ap (λ (k : Seated). session k later) refused.1;
        told_is = is;
      });
      ended_is = g.has_is;
      tells = adds_more has_told before s t _ _ g.tells tells;
    }

-- ONE CALL

pub goes_on : {T : Type 0} (has_told : T → T → List Report → Type 0) (old new : Session) (thread : ℕ) (had : List ℕ) (has acted : Bool) (before s t : T)
    → has ≡ is_among thread had → TellsActs old thread acted new has_told before s
    → AddsAll has_told s t (waiting_reports thread (has || acted))
    → (told : List Report) × GoesOn old thread had told new × AddsAll has_told before t told
goes_on has_told old new thread had has acted before s t has_is acts waiting =
    let all : (has || acted) ≡ is_among thread (had ++ ended_in (steps_in acts.acts)) =
    ap (λ v. v || acted) has_is
    ∙ ap (λ v. is_among thread had || v) acts.ended_is
    ∙ sym (among_more thread had (ended_in (steps_in acts.acts))) in (
      (flat_map done_reports (steps_in acts.acts) ++ acts.last) ++ waiting_reports thread (is_among thread (had ++ ended_in (steps_in acts.acts))),
      record {
        acts = acts.acts;
        between = acts.between;
        are = acts.are;
        few = acts.few;
        last = acts.last;
        stops = acts.stops;
        told_is = refl;
      },
      adds_is has_told before t _ _ (ap (λ v. (flat_map done_reports (steps_in acts.acts) ++ acts.last) ++ waiting_reports thread v) all)
          (adds_more has_told before s t _ _ acts.tells waiting),
    )

-- the reports of a call's steps before those of the acts after it
told_in_all : (own acts : List Done) (last waits : List Report) → flat_map done_reports own ++ ((flat_map done_reports acts ++ last) ++ waits) ≡ (flat_map done_reports (own ++ acts) ++ last) ++ waits
told_in_all own acts last waits =
    sym (append_assoc (flat_map done_reports own) (flat_map done_reports acts ++ last) waits)
    ∙ ap (λ l. l ++ waits) (sym (append_assoc (flat_map done_reports own) (flat_map done_reports acts) last) ∙ ap (λ l. l ++ last) (sym (reports_more own acts)))

-- the call was started
pub follows_on : {T : Type 0} (has_told : T → T → List Report → Type 0) (old new : Seated) (sv later wanted : Servers) (last : Session) (thread : ℕ) (call asked : Call) (ended : Bool) (before s t : T)
    → call ≡ asked → later ≡ wanted → TellsCall old thread call thread ended new has_told before s
    → ((had : List ℕ) → ended ≡ is_among thread had → (told : List Report) × GoesOn (session new later) thread had told last × AddsAll has_told s t told)
    → (told : List Report) × Follows (session old sv) thread asked wanted told last × AddsAll has_told before t told
follows_on has_told old new sv later wanted last thread call asked ended before s t is is' told next =
    let e = told.enters in
    let own : Act = act_of old new later thread call e in
    let steps : List Done = own.start ∷ own.steps in
    let rest = next (ended_in steps) told.ended_is in
    let g = rest.1 in (
      flat_map done_reports steps ++ rest.0,
      record {
        own = own;
        own_is = (refl, is, is');
        entered = entered old new sv later thread call e;
        acts = g.acts;
        between = g.between;
        are = subst (λ (x : Session). AreActs x g.acts g.between) (went old new sv later thread call e) g.are;
        few = g.few;
        last = g.last;
        stops = g.stops;
        told_is =
            ap (λ l. flat_map done_reports steps ++ l) g.told_is
            ∙ told_in_all steps (steps_in g.acts) g.last (waiting_reports thread (is_among thread (ended_in steps ++ ended_in (steps_in g.acts))))
            ∙ ap (λ l. (flat_map done_reports (steps ++ steps_in g.acts) ++ g.last) ++ waiting_reports thread (is_among thread l)) (sym (ended_more steps (steps_in g.acts)));
      },
      adds_more has_told before s t _ _ told.tells rest.2,
    )

-- the call was refused
pub refuses_on : {T : Type 0} (has_told : T → T → List Report → Type 0) (old new : Seated) (sv later : Servers) (line thread : ℕ) (call asked : Call) (before t : T)
    → call ≡ asked → later ≡ sv → TellsRefusal old line thread call new has_told before t
    → (told : List Report) × Refuses (session old sv) line thread asked told (session new later) × AddsAll has_told before t told
refuses_on has_told old new sv later line thread call asked before t is same r = (
  RefusedLine line (call_refusal r.refusal) ∷ [],
  (r.refusal, subst (λ (c : Call). RefusesCall old.machine (kept_count old.kept_from old.history) old.numbers thread c r.refusal) is r.refused, (refl, λ i. session (r.same i) (same i))),
  r.tells,
)

pub refusal_told : {T : Type 0} (has_told : T → T → List Report → Type 0) (old new : Seated) (line thread : ℕ) (call : Call) (refusal : RecordRefusal) (told : List Report) (before t : T)
    → RefusesCall old.machine (kept_count old.kept_from old.history) old.numbers thread call refusal × (new ≡ old) → told ≡ RefusedLine line (call_refusal refusal) ∷ [] → AddsAll has_told before t told
    → TellsRefusal old line thread call new has_told before t
refusal_told has_told old new line thread call refusal told before t refused is tells =
    record { refusal = refusal; refused = refused.0; same = refused.1; tells = adds_is has_told before t _ _ is tells }

-- SEATS

-- root creates a thread, whose number has its seat
pub creates_on : {T : Type 0} (has_told : T → T → List Report → Type 0) (old between : Seated) (sv : Servers) (last : Session) (line number : ℕ) (call : Call) (before t : T)
    → between ≡ record old { numbers = with_number old.numbers number }
    → (told : List Report) × Enters (session between sv) line root call sv told last × AddsAll has_told before t told
    → (told : List Report) × Creates (session old sv) line number call told last × AddsAll has_told before t told
creates_on has_told old between sv last line number call before t is e = (e.0, inl (subst (λ (k : Seated). Enters (session k sv) line root call sv e.0 last) is e.1), e.2)

pub creates_not : {T : Type 0} (has_told : T → T → List Report → Type 0) (old between : Seated) (sv : Servers) (line number : ℕ) (call : Call) (told : List Report) (before t : T)
    → (between ≡ old) × (is_among number old.numbers ≡ false) → told ≡ RefusedLine line lacks_memory ∷ [] → AddsAll has_told before t told
    → (told : List Report) × Creates (session old sv) line number call told (session between sv) × AddsAll has_told before t told
creates_not has_told old between sv line number call told before t lacks is tells = (told, inr (lacks.1, (is, ap (λ (k : Seated). session k sv) lacks.0)), tells)

pub first_seats : (frames : ℕ) (size : PageSize) (k k' last : Seated) → IsNew frames size k → k' ≡ record k { numbers = with_number k.numbers 1 } → last ≡ record k' { numbers = with_number k'.numbers 2 } → HasFirstSeats frames size last
first_seats frames size k k' last new one two =
    subst (λ (x : Seated). HasFirstSeats frames size x) (sym two)
    (subst (λ (x : Seated). HasFirstSeats frames size (record x { numbers = with_number x.numbers 2 })) (sym one) (new.0, new.1, ap (λ (l : List ℕ). with_number (with_number l 1) 2) new.2, new.3, new.4, new.5))

or_false : (b : Bool) → (b || false) ≡ b
or_false true = refl
or_false false = refl

-- no served thread runs, so nothing follows
pub quiet_on : {T : Type 0} (has_told : T → T → List Report → Type 0) (kernel : Seated) (sv : Servers) (read : Machine) (thread : ℕ) (had : List ℕ) (has : Bool) (before s : T)
    → has ≡ is_among thread had → read ≡ kernel.machine → NoneReady read.threads sv → AddsAll has_told before s (waiting_reports thread has)
    → (told : List Report) × GoesOn (session kernel sv) thread had told (session kernel sv) × AddsAll has_told before s told
quiet_on has_told kernel sv read thread had has before s has_is same none told =
    goes_on has_told (session kernel sv) (session kernel sv) thread had has false before before s has_is
    (acting_quiet has_told (session kernel sv) thread 0 kernel sv read false before before (omega arith) (acting_none has_told (session kernel sv) thread before) same none)
    (adds_is has_told before s _ _ (ap (waiting_reports thread) (sym (or_false has))) told)
