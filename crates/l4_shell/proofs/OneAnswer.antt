-- A line is answered by one refusal of it, or by answers of which none is a line's refusal.
use Rattle.std.proofs.Common.{◌≡◌, ℕ, Bool, true, false, cond, ◌||◌, ◌⊎◌, List, [], ◌∷◌, ◌++◌, length, Option, Some, None, is_some, Result, Ok, Err, inl, inr, refl, ap, ◌∙◌}
use Rattle.std.specs.Prelude.{MatchOption}
use Rattle.std.specs.List.{flat_map}
use Rattle.std.specs.Option.{option_map_or}
use Rattle.l4_mapdb.specs.Mappings.{shown}
use Rattle.l4_mapdb.specs.declared.Mapping.{Mapping}
use Rattle.l4_threads.specs.Threads.{space_of, runs}
use Rattle.l4_threads.specs.declared.Reply.{Reply}
use Rattle.l4_pager.specs.declared.regions.Entry.{Entry}
use Rattle.l4_ipc.specs.declared.calls.Call.{Call}
use Rattle.l4_ipc.specs.declared.steps.Step.{Step}
use Rattle.l4_ipc.specs.declared.steps.Step.TheVariants.{Start, Transfer, Expire, Cancel}
use Rattle.l4_ipc.specs.declared.steps.Outcome.{Outcome}
use Rattle.l4_ipc.specs.declared.steps.Refused.TheVariants.{UnknownThread}
use Rattle.l4_ipc.specs.Machine.{Machine}
use Rattle.l4_ipc.specs.Reading.{reply_of}
use Rattle.l4_ipc.specs.Following.{Done}
use Rattle.l4_answers.specs.Refusals.{Refusal, kernel_refusal}
use Rattle.l4_answers.specs.Reports.{Report, RefusedLine, UnreadLine, Named, Ended, Page, Shown, Parent, Waits, refused_line, has_refusal}
use Rattle.l4_names.specs.Names.{Names, given}
use Rattle.l4_record.specs.Seated.{is_among, with_number}
use Rattle.l4_servers.specs.Servers.{Servers, RegionFails}
use Rattle.l4_commands.specs.declared.requests.Request.{Request}
use Rattle.l4_commands.specs.declared.requests.Request.TheVariants.{Enter, CreateThread, EndThread, SendPlan, ListPages, TellParent, AddRegion, ServeThread, GiveName, TellReply, CancelWait, TellSteps, BeginUnordered, BeginFinally, StateRule}
use Rattle.l4_shell.specs.Refusals.{script_refusal, plan_refusal, too_many_names, lacks_memory, call_refusal, region_refusal}
use Rattle.l4_commands.specs.Requests.{Unread}
use Rattle.l4_shell.specs.Scripts.{IsOneAnswer}
use Rattle.l4_ipc.specs.declared.steps.CancelCause.{CancelCause}
use Rattle.l4_shell.specs.Sessions.{Session, State, own_report, ended_reports, done_reports, ended_in, waiting_reports, steps_in, StopsActing, Follows, RefusesLine, RefusesFor, Enters, WaitEnds, RegionAdded, place_in, place_reports, ListsPages, ended_answer, CarriesOut, AnswersLine}

or_none : (a b c : Bool) → (a || b) ≡ false → (b ≡ false → c ≡ false) → (a || c) ≡ false
or_none true b c h f = h
or_none false b c h f = f h

pub none_more : (a b : List Report) → has_refusal a ≡ false → has_refusal b ≡ false → has_refusal (a ++ b) ≡ false
none_more [] b p q = q
none_more (report ∷ a) b p q = or_none (is_some (refused_line report)) (has_refusal a) (has_refusal (a ++ b)) p (λ e. none_more a b e q)

none_in : {A : Type 0} (f : A → List Report) (xs : List A) → ((x : A) → has_refusal (f x) ≡ false) → has_refusal (flat_map f xs) ≡ false
none_in f [] h = refl
none_in f (x ∷ xs) h = none_more (f x) (flat_map f xs) (h x) (none_in f xs h)

-- STEPS

own_none : (step : Step) (outcome : Outcome) → has_refusal (own_report step outcome) ≡ false
own_none (Start n call) outcome = refl
own_none (Transfer sender receiver) outcome = refl
own_none (Expire n) outcome = refl
own_none (Cancel n cause) outcome = refl

done_none : (done : Done) → has_refusal (done_reports done) ≡ false
done_none done =
    none_more (own_report done.step done.answer.outcome) (ended_reports done.after done.answer.ended.items) (own_none done.step done.answer.outcome)
    (none_in (λ n. Ended n (reply_of done.after.threads n) ∷ []) done.answer.ended.items (λ n. refl))

waiting_none : (thread : ℕ) (ended : Bool) → has_refusal (waiting_reports thread ended) ≡ false
waiting_none thread true = refl
waiting_none thread false = refl

-- CALLS

stops_none : (old : Session) (count : ℕ) (told : List Report) (new : Session) → StopsActing old count told new → has_refusal told ≡ false
stops_none old count told new stops = elim stops [
  | inl ended ↦ ap has_refusal ended.1
  | inr refuses ↦ ap has_refusal refuses.told_is
]

follows_one : (old : Session) (line thread : ℕ) (call : Call) (sv : Servers) (told : List Report) (new : Session) → Follows old thread call sv told new → IsOneAnswer line told
follows_one old line thread call sv told new f =
    inl (ap has_refusal f.told_is
    ∙ none_more (flat_map done_reports (steps_in (f.own ∷ f.acts)) ++ f.last) (waiting_reports thread (is_among thread (ended_in (steps_in (f.own ∷ f.acts)))))
    (none_more (flat_map done_reports (steps_in (f.own ∷ f.acts))) f.last (none_in done_reports (steps_in (f.own ∷ f.acts)) done_none) (stops_none f.between (length f.acts) f.last new f.stops))
    (waiting_none thread (is_among thread (ended_in (steps_in (f.own ∷ f.acts))))))

-- a line that is refused
line_one : (old : Session) (line : ℕ) (refusal : Refusal) (told : List Report) (new : Session) → RefusesLine old line refusal told new → IsOneAnswer line told
line_one old line refusal told new r = inr (RefusedLine line refusal, refl, r.0)

for_one : {R : Type 0} (Applies : R → Type 0) (code : R → Refusal) (old : Session) (line : ℕ) (told : List Report) (new : Session) → RefusesFor Applies code old line told new → IsOneAnswer line told
for_one Applies code old line told new r = line_one old line (code r.0) told new r.2

enters_one : (old : Session) (line thread : ℕ) (call : Call) (sv : Servers) (told : List Report) (new : Session) → Enters old line thread call sv told new → IsOneAnswer line told
enters_one old line thread call sv told new e = elim e [
  | inl f ↦ follows_one old line thread call sv told new f
  | inr r ↦ for_one _ call_refusal old line told new r
]

wait_one : (old : Session) (line thread : ℕ) (cause : CancelCause) (told : List Report) (new : Session) → WaitEnds old thread cause told new → IsOneAnswer line told
wait_one old line thread cause told new w =
    inl (ap has_refusal w.told_is
    ∙ none_more (flat_map done_reports (w.own ∷ steps_in w.acts)) w.last (none_in done_reports (w.own ∷ steps_in w.acts) done_none) (stops_none w.between (length w.acts) w.last new w.stops))

-- PAGES

place_none : (o : Option Mapping) (page : ℕ) → has_refusal (option_map_or (λ mapping. Page page mapping ∷ []) o []) ≡ false
place_none None page = refl
place_none (Some mapping) page = refl

shows_one : (o : Option ℕ) (m : Machine) (line first count : ℕ) (told : List Report) → MatchOption o (told ≡ RefusedLine line (kernel_refusal UnknownThread) ∷ []) (λ space. ListsPages m space first count told) → IsOneAnswer line told
shows_one None m line first count told s = inr (RefusedLine line (kernel_refusal UnknownThread), refl, s)
shows_one (Some space) m line first count told s =
    inl (ap has_refusal s.told_is
    ∙ none_more (flat_map (place_reports m space) s.pages) (Shown (length s.pages) ∷ [])
    (none_in (place_reports m space) s.pages (λ page. place_none (shown m.mappings (place_in space page)) page)) refl)

parent_one : (o : Option ℕ) (m : Machine) (line page : ℕ) (told : List Report)
    → told ≡ option_map_or (λ space. Parent (shown m.mappings (place_in space page))) o (RefusedLine line (kernel_refusal UnknownThread)) ∷ [] → IsOneAnswer line told
parent_one None m line page told s = inr (RefusedLine line (kernel_refusal UnknownThread), refl, s)
parent_one (Some space) m line page told s = inl (ap has_refusal s)

ended_none : (thread : ℕ) (reply : Option Reply) → has_refusal (ended_answer thread reply ∷ []) ≡ false
ended_none thread None = refl
ended_none thread (Some reply) = refl

running_none : (running : Bool) (thread : ℕ) (reply : Option Reply) → has_refusal (cond running (ended_answer thread reply) (Waits thread) ∷ []) ≡ false
running_none true thread reply = ended_none thread reply
running_none false thread reply = refl

reply_one : (o : Option ℕ) (m : Machine) (line thread : ℕ) (told : List Report)
    → told ≡ option_map_or (λ space. cond (runs m.threads thread) (ended_answer thread (reply_of m.threads thread)) (Waits thread)) o (RefusedLine line (kernel_refusal UnknownThread)) ∷ [] → IsOneAnswer line told
reply_one None m line thread told s = inr (RefusedLine line (kernel_refusal UnknownThread), refl, s)
reply_one (Some space) m line thread told s = inl (ap has_refusal s ∙ running_none (runs m.threads thread) thread (reply_of m.threads thread))

-- LINES

adds_one : (o : Option ℕ) (old : Session) (line thread : ℕ) (entry : Entry) (told : List Report) (new : Session)
    → MatchOption o (RefusesLine old line (kernel_refusal UnknownThread) told new) (λ space. RegionAdded old thread entry told new ⊎ RefusesFor (RegionFails old.servers thread entry) region_refusal old line told new) → IsOneAnswer line told
adds_one None old line thread entry told new a = line_one old line (kernel_refusal UnknownThread) told new a
adds_one (Some space) old line thread entry told new a = elim a [
  | inl added ↦ inl (ap has_refusal added.1)
  | inr r ↦ for_one _ region_refusal old line told new r
]

naming_one : (b : Bool) (line thread : ℕ) (told : List Report) → told ≡ cond b (Named thread) (RefusedLine line too_many_names) ∷ [] → IsOneAnswer line told
naming_one true line thread told c = inl (ap has_refusal c)
naming_one false line thread told c = inr (RefusedLine line too_many_names, refl, c)

carries_one : (names : Names) (old : Session) (line : ℕ) (request : Request) (told : List Report) (new : Session) → CarriesOut names old line request told new → IsOneAnswer line told
carries_one names old line (Enter thread call) told new c = enters_one old line thread call old.servers told new c
carries_one names old line (CreateThread number call) told new c = elim c [
  | inl e ↦ enters_one (record old { numbers = with_number old.numbers number }) line _ call old.servers told new e
  | inr lacks ↦ line_one old line lacks_memory told new lacks.1
]
carries_one names old line (EndThread thread) told new c = enters_one old line _ _ _ told new c
carries_one names old line (SendPlan thread to which region) told new c = elim c [
  | inl sends ↦ enters_one old line thread _ old.servers told new sends.2
  | inr r ↦ for_one _ plan_refusal old line told new r
]
carries_one names old line (ListPages thread first count) told new c = shows_one (space_of old.machine.threads thread) old.machine line first count told c.0
carries_one names old line (TellParent thread page) told new c = parent_one (space_of old.machine.threads thread) old.machine line page told c.0
carries_one names old line (AddRegion thread entry) told new c = adds_one (space_of old.machine.threads thread) old line thread entry told new c
carries_one names old line (ServeThread thread) told new c = elim c [
  | inl f ↦ follows_one old line _ _ _ told new f
  | inr more ↦ elim more [ inl r ↦ for_one _ call_refusal old line told new r | inr lacks ↦ line_one old line lacks_memory told new lacks.lacks ]
]
carries_one names old line (GiveName name thread) told new c = naming_one (is_some (given names name thread)) line thread told c.0
carries_one names old line (TellReply thread) told new c = reply_one (space_of old.machine.threads thread) old.machine line thread told c.0
carries_one names old line (CancelWait thread cause) told new c = elim c [
  | inl w ↦ wait_one old line thread cause told new w
  | inr r ↦ for_one _ call_refusal old line told new r
]
carries_one names old line TellSteps told new c = inl (ap has_refusal c.3)
carries_one names old line BeginUnordered told new c = inl (ap has_refusal c.0)
carries_one names old line BeginFinally told new c = inl (ap has_refusal c.0)
carries_one names old line StateRule told new c = inl (ap has_refusal c.0)

pub one_answer : (old : State) (line : ℕ) (asked : Result (Option Request) Unread) (told : List Report) (new : State) → AnswersLine old line asked told new → IsOneAnswer line told
one_answer old line (Ok None) told new a = inl (ap has_refusal a.0)
one_answer old line (Ok (Some request)) told new a = carries_one old.names old.session line request told new.session a.0
one_answer old line (Err unread) told new a = inr (UnreadLine old.session.machine.size old.names line (script_refusal unread.fault) unread.bytes, refl, a.0)
