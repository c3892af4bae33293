-- A script whose history is handed out never fills it up, and is else answered as any other.
use Rattle.std.proofs.Common.{◌≡◌, ℕ, ◌+◌, ◌-◌, ◌*◌, ◌<◌, ◌≤◌, Bool, true, false, cond, ◌||◌, nat_lt, ◌⊎◌, List, [], ◌∷◌, ◌++◌, length, map, Option, Some, None, Result, Ok, Err, inl, inr, refl, sym, ap, subst, ◌∙◌, arith}
use Rattle.std.specs.Prelude.{MatchOption}
use Rattle.std.specs.List.{flat_map}
use Rattle.std.specs.Option.{option_map_or, is_some}
use Rattle.std.proofs.lemmas.Bool.{false≢true}
use Rattle.std.proofs.lemmas.Bool.Decides.{nat_tests}
use Rattle.std.proofs.lemmas.List.{length-append, length-map}
use Rattle.std.proofs.lemmas.List.Folds.{list_any-append}
use Rattle.l4_fpage.specs.declared.sizes.PageSize.{PageSize}
use Rattle.l4_mapdb.specs.Mappings.{shown}
use Rattle.l4_mapdb.specs.declared.Mapping.{Mapping}
use Rattle.l4_threads.specs.Threads.{runs, space_of}
use Rattle.l4_threads.specs.declared.Reply.{Reply}
use Rattle.l4_threads.specs.declared.ThreadFault.{ThreadFault}
use Rattle.l4_threads.specs.declared.ThreadFault.TheVariants.{NoPrivilege, BadId, Taken, Unknown, Full, Kept}
use Rattle.l4_msg.specs.declared.messages.MsgFault.{MsgFault}
use Rattle.l4_msg.specs.declared.messages.MsgFault.TheVariants.{TooManyWords, OddTyped, BadItem, Unsupported, Flags, BadWindow, Short}
use Rattle.l4_unmap.specs.declared.UnmapFault.{UnmapFault}
use Rattle.l4_unmap.specs.declared.UnmapFault.TheVariants.{BadFpage, TooFew}
use Rattle.l4_ipc.specs.declared.calls.Call.{Call}
use Rattle.l4_ipc.specs.declared.steps.Step.{Step}
use Rattle.l4_ipc.specs.declared.steps.Step.TheVariants.{Start, Transfer, Expire, Cancel}
use Rattle.l4_ipc.specs.declared.steps.Outcome.{Outcome}
use Rattle.l4_ipc.specs.declared.steps.Refused.{Refused}
use Rattle.l4_ipc.specs.declared.steps.Refused.TheVariants.{NotEnabled, UnknownThread, Busy, BadTimeout, Lower as Below, BadFrames}
use Rattle.l4_ipc.specs.declared.steps.Lower.TheVariants.{Message, Unmap, Thread, NoMemory as LacksMemory}
use Rattle.l4_ipc.specs.Machine.{Machine}
use Rattle.l4_ipc.specs.Reading.{reply_of}
use Rattle.l4_ipc.specs.Following.{Done}
use Rattle.l4_pager.specs.Serving.{waiting}
use Rattle.l4_pager.specs.declared.regions.Entry.{Entry}
use Rattle.l4_pager.specs.declared.regions.PagerRefusal.TheVariants.{Overlap, NoRegion, Full as FullTable, BadRegion}
use Rattle.l4_servers.specs.Servers.{Servers, with_served, without, RegionFails}
use Rattle.l4_servers.specs.declared.servers.RegionRefusal.{RegionRefusal}
use Rattle.l4_servers.specs.declared.servers.RegionRefusal.TheVariants.{Pager, NoMemory as LacksRoomFor}
use Rattle.l4_plan.specs.declared.plans.PlanRefusal.{PlanRefusal}
use Rattle.l4_plan.specs.declared.plans.PlanRefusal.TheVariants.{Empty, OutOfSpace, NoRights, TooLong, Several, NoPart}
use Rattle.l4_record.specs.declared.refusals.RecordRefusal.{RecordRefusal}
use Rattle.l4_record.specs.declared.refusals.RecordRefusal.TheVariants.{HistoryFull, NoMemory, Kernel as ByKernel}
use Rattle.l4_record.specs.Seated.{is_among, with_number, Refuses as RefusesCall, RefusesCancel}
use Rattle.l4_record.specs.Sizes.{last_start}
use Rattle.l4_answers.specs.Refusals.{Refusal, message_refusal, thread_refusal, unmap_refusal, kernel_refusal}
use Rattle.l4_answers.specs.Reports.{Report, RefusedLine, Waits, Named, Ended, Page, Shown, Parent}
use Rattle.l4_names.specs.Names.{Names, given}
use Rattle.l4_text.specs.Grammar.{TextLine}
use Rattle.l4_commands.specs.declared.commands.ScriptFault.{ScriptFault}
use Rattle.l4_commands.specs.declared.commands.ScriptFault.TheVariants.{UnknownCommand, BadTokens, LineTooLong, CutLine}
use Rattle.l4_commands.specs.declared.requests.Request.{Request}
use Rattle.l4_commands.specs.declared.requests.Request.TheVariants.{Enter, CreateThread, EndThread, SendPlan, ListPages, TellParent, AddRegion, ServeThread, GiveName, TellReply, CancelWait, TellSteps, BeginUnordered, BeginFinally, StateRule}
use Rattle.l4_commands.specs.Requests.{Unread, asked_of}
use Rattle.l4_commands.specs.Calls.{root, delete_call}
use Rattle.l4_shell.specs.Refusals.{script_refusal, plan_refusal, too_many_names, lacks_memory, call_refusal, region_refusal}
use Rattle.l4_shell.specs.Room.{is_full, says_full, any_full}
use Rattle.l4_ipc.specs.declared.steps.CancelCause.{CancelCause}
use Rattle.l4_shell.specs.Sessions.{Session, State, first_state, kept_in, segment_entries, without_kept, between_lines, own_report, ended_reports, done_reports, done_entry, ended_in, waiting_reports, steps_in, Act, IsEntered, after_act, AreActs, StopsActing, Follows, RefusesLine, RefusesFor, Refuses, Enters, after_cancel, WaitEnds, RegionAdded, ended_answer, place_in, place_reports, ListsPages, CarriesOut, AnswersLine, AnswersLines, IsAnswered}
use Rattle.l4_shell.proofs.Lengthened.{are_acts_longer, line_longer}

-- CODES

message_not : (e : MsgFault) → is_full (message_refusal e) ≡ false
message_not TooManyWords = refl
message_not OddTyped = refl
message_not (BadItem item) = refl
message_not (Unsupported item) = refl
message_not Flags = refl
message_not BadWindow = refl
message_not Short = refl

thread_not : (e : ThreadFault) → is_full (thread_refusal e) ≡ false
thread_not NoPrivilege = refl
thread_not BadId = refl
thread_not Taken = refl
thread_not Unknown = refl
thread_not Full = refl
thread_not Kept = refl

unmap_not : (e : UnmapFault) → is_full (unmap_refusal e) ≡ false
unmap_not (BadFpage word) = refl
unmap_not TooFew = refl

kernel_not : (e : Refused) → is_full (kernel_refusal e) ≡ false
kernel_not NotEnabled = refl
kernel_not UnknownThread = refl
kernel_not Busy = refl
kernel_not BadTimeout = refl
kernel_not (Below (Message fault)) = message_not fault
kernel_not (Below (Unmap fault)) = unmap_not fault
kernel_not (Below (Thread fault)) = thread_not fault
kernel_not (Below LacksMemory) = refl
kernel_not BadFrames = refl

script_not : (e : ScriptFault) → is_full (script_refusal e) ≡ false
script_not UnknownCommand = refl
script_not BadTokens = refl
script_not LineTooLong = refl
script_not CutLine = refl

plan_not : (e : PlanRefusal) → is_full (plan_refusal e) ≡ false
plan_not Empty = refl
plan_not OutOfSpace = refl
plan_not NoRights = refl
plan_not (TooLong pages) = refl
plan_not (Several messages) = refl
plan_not (NoPart messages) = refl

region_not : (e : RegionRefusal) → is_full (region_refusal e) ≡ false
region_not (Pager Overlap) = refl
region_not (Pager NoRegion) = refl
region_not (Pager FullTable) = refl
region_not (Pager BadRegion) = refl
region_not LacksRoomFor = refl

call_not : (m : Machine) (entries : ℕ) (numbers : List ℕ) (n : ℕ) (call : Call) (r : RecordRefusal) → entries ≤ last_start → RefusesCall m entries numbers n call r → is_full (call_refusal r) ≡ false
call_not m entries numbers n call HistoryFull few h = let full = h.1 in absurd (omega (arith, few, full))
call_not m entries numbers n call NoMemory few h = refl
call_not m entries numbers n call (ByKernel e) few h = kernel_not e

cancel_not : (m : Machine) (entries n : ℕ) (cause : CancelCause) (r : RecordRefusal) → entries ≤ last_start → RefusesCancel m entries n cause r → is_full (call_refusal r) ≡ false
cancel_not m entries n cause HistoryFull few h = absurd (omega (arith, few, h))
cancel_not m entries n cause NoMemory few h = refl
cancel_not m entries n cause (ByKernel e) few h = kernel_not e

-- LISTS OF ANSWERS

or_false : (a b : Bool) → a ≡ false → b ≡ false → (a || b) ≡ false
or_false true b p q = p
or_false false b p q = q

or_left : (a b : Bool) → (a || b) ≡ false → a ≡ false
or_left true b h = h
or_left false b h = refl

or_right : (a b : Bool) → (a || b) ≡ false → b ≡ false
or_right true b h = absurd (false≢true (sym h))
or_right false b h = h

none_more : (a b : List Report) → any_full a ≡ false → any_full b ≡ false → any_full (a ++ b) ≡ false
none_more a b p q = list_any-append says_full a b ∙ or_false (any_full a) (any_full b) p q

none_first : (a b : List Report) → any_full (a ++ b) ≡ false → any_full a ≡ false
none_first a b h = or_left (any_full a) (any_full b) (sym (list_any-append says_full a b) ∙ h)

none_last : (a b : List Report) → any_full (a ++ b) ≡ false → any_full b ≡ false
none_last a b h = or_right (any_full a) (any_full b) (sym (list_any-append says_full a b) ∙ h)

none_in : {A : Type 0} (f : A → List Report) (xs : List A) → ((x : A) → any_full (f x) ≡ false) → any_full (flat_map f xs) ≡ false
none_in f [] h = refl
none_in f (x ∷ xs) h = none_more (f x) (flat_map f xs) (h x) (none_in f xs h)

one_not : (b : Bool) → b ≡ false → (b || false) ≡ false
one_not b h = or_false b false h refl

own_none : (step : Step) (outcome : Outcome) → any_full (own_report step outcome) ≡ false
own_none (Start n call) outcome = refl
own_none (Transfer sender receiver) outcome = refl
own_none (Expire n) outcome = refl
own_none (Cancel n cause) outcome = refl

done_none : (done : Done) → any_full (done_reports done) ≡ false
done_none done =
    none_more (own_report done.step done.answer.outcome) (ended_reports done.after done.answer.ended.items) (own_none done.step done.answer.outcome)
    (none_in (λ n. Ended n (reply_of done.after.threads n) ∷ []) done.answer.ended.items (λ n. refl))

waiting_none : (thread : ℕ) (ended : Bool) → any_full (waiting_reports thread ended) ≡ false
waiting_none thread true = refl
waiting_none thread false = refl

-- ENTRIES OF A LINE

act_few : (old : Session) (act : Act) → IsEntered old act → kept_in (after_act old act) ≤ kept_in old + 129
act_few old act e =
    let few = e.few in
    omega (arith, few, length-append old.history (map (done_entry act.thread) (act.start ∷ act.steps)), length-map (act.start ∷ act.steps) (done_entry act.thread))

acts_few : (old : Session) (acts : List Act) (new : Session) → AreActs old acts new → kept_in new ≤ kept_in old + 129 * length acts
acts_few old [] new are = let same = ap kept_in are in omega (arith, same)
acts_few old (act ∷ acts) new are =
    let one = act_few old act are.1 in
    let more = acts_few (after_act old act) acts new are.2 in
    omega (arith, one, more)

-- LINES, WHERE FEW ENTRIES ARE KEPT

line_not : (old : Session) (line : ℕ) (refusal : Refusal) (told : List Report) (new : Session) → RefusesLine old line refusal told new → is_full refusal ≡ false → any_full told ≡ false
line_not old line refusal told new r h = ap any_full r.0 ∙ one_not (is_full refusal) h

stops_none : (old : Session) (count : ℕ) (told : List Report) (new : Session) → kept_in old ≤ last_start → StopsActing old count told new → any_full told ≡ false
stops_none old count told new few stops = elim stops [
  | inl ended ↦ ap any_full ended.1
  | inr r ↦ ap any_full r.told_is ∙ one_not (is_full (call_refusal r.refusal)) (call_not old.machine (kept_in old) old.numbers r.thread r.call r.refusal few r.refused)
]

follows_none : (old : Session) (thread : ℕ) (call : Call) (sv : Servers) (told : List Report) (new : Session) → kept_in old < 100000 → Follows old thread call sv told new → any_full told ≡ false
follows_none old thread call sv told new few f =
    let between : kept_in f.between ≤ last_start =
    (let own = act_few old f.own f.entered in
    let more = acts_few (after_act old f.own) f.acts f.between f.are in
    let acts = f.few in
    omega (arith, few, own, more, acts)) in
    ap any_full f.told_is
    ∙ none_more (flat_map done_reports (steps_in (f.own ∷ f.acts)) ++ f.last) (waiting_reports thread (is_among thread (ended_in (steps_in (f.own ∷ f.acts)))))
    (none_more (flat_map done_reports (steps_in (f.own ∷ f.acts))) f.last (none_in done_reports (steps_in (f.own ∷ f.acts)) done_none) (stops_none f.between (length f.acts) f.last new between f.stops))
    (waiting_none thread (is_among thread (ended_in (steps_in (f.own ∷ f.acts)))))

refuses_none : (old : Session) (line thread : ℕ) (call : Call) (told : List Report) (new : Session) → kept_in old < 100000 → Refuses old line thread call told new → any_full told ≡ false
refuses_none old line thread call told new few r =
    line_not old line (call_refusal r.0) told new r.2 (call_not old.machine (kept_in old) old.numbers thread call r.0 (omega (arith, few)) r.1)

enters_none : (old : Session) (line thread : ℕ) (call : Call) (sv : Servers) (told : List Report) (new : Session) → kept_in old < 100000 → Enters old line thread call sv told new → any_full told ≡ false
enters_none old line thread call sv told new few e = elim e [ inl f ↦ follows_none old thread call sv told new few f | inr r ↦ refuses_none old line thread call told new few r ]

wait_none : (old : Session) (thread : ℕ) (cause : CancelCause) (told : List Report) (new : Session) → kept_in old < 100000 → WaitEnds old thread cause told new → any_full told ≡ false
wait_none old thread cause told new few w =
    let between : kept_in w.between ≤ last_start =
    (let more = acts_few (after_cancel old w.own) w.acts w.between w.are in
    let acts = w.few in
    omega (arith, few, more, acts, length-append old.history (done_entry 0 w.own ∷ []))) in
    ap any_full w.told_is
    ∙ none_more (flat_map done_reports (w.own ∷ steps_in w.acts)) w.last (none_in done_reports (w.own ∷ steps_in w.acts) done_none) (stops_none w.between (length w.acts) w.last new between w.stops)

place_none : (o : Option Mapping) (page : ℕ) → any_full (option_map_or (λ mapping. Page page mapping ∷ []) o []) ≡ false
place_none None page = refl
place_none (Some mapping) page = refl

shows_none : (o : Option ℕ) (m : Machine) (line first count : ℕ) (told : List Report) → MatchOption o (told ≡ RefusedLine line (kernel_refusal UnknownThread) ∷ []) (λ space. ListsPages m space first count told) → any_full told ≡ false
shows_none None m line first count told s = ap any_full s
shows_none (Some space) m line first count told s =
    ap any_full s.told_is
    ∙ none_more (flat_map (place_reports m space) s.pages) (Shown (length s.pages) ∷ [])
    (none_in (place_reports m space) s.pages (λ page. place_none (shown m.mappings (place_in space page)) page)) refl

parent_none : (o : Option ℕ) (m : Machine) (line page : ℕ) (told : List Report)
    → told ≡ option_map_or (λ space. Parent (shown m.mappings (place_in space page))) o (RefusedLine line (kernel_refusal UnknownThread)) ∷ [] → any_full told ≡ false
parent_none None m line page told s = ap any_full s
parent_none (Some space) m line page told s = ap any_full s

ended_none : (thread : ℕ) (reply : Option Reply) → any_full (ended_answer thread reply ∷ []) ≡ false
ended_none thread None = refl
ended_none thread (Some reply) = refl

running_none : (running : Bool) (thread : ℕ) (reply : Option Reply) → any_full (cond running (ended_answer thread reply) (Waits thread) ∷ []) ≡ false
running_none true thread reply = ended_none thread reply
running_none false thread reply = refl

reply_none : (o : Option ℕ) (m : Machine) (line thread : ℕ) (told : List Report)
    → told ≡ option_map_or (λ space. cond (runs m.threads thread) (ended_answer thread (reply_of m.threads thread)) (Waits thread)) o (RefusedLine line (kernel_refusal UnknownThread)) ∷ [] → any_full told ≡ false
reply_none None m line thread told s = ap any_full s
reply_none (Some space) m line thread told s = ap any_full s ∙ running_none (runs m.threads thread) thread (reply_of m.threads thread)

adds_none : (o : Option ℕ) (old : Session) (line thread : ℕ) (entry : Entry) (told : List Report) (new : Session)
    → MatchOption o (RefusesLine old line (kernel_refusal UnknownThread) told new) (λ space. RegionAdded old thread entry told new ⊎ RefusesFor (RegionFails old.servers thread entry) region_refusal old line told new) → any_full told ≡ false
adds_none None old line thread entry told new a = line_not old line (kernel_refusal UnknownThread) told new a refl
adds_none (Some space) old line thread entry told new a = elim a [
  | inl added ↦ ap any_full added.1
  | inr r ↦ line_not old line (region_refusal r.0) told new r.2 (region_not r.0)
]

naming_none : (b : Bool) (line thread : ℕ) (told : List Report) → told ≡ cond b (Named thread) (RefusedLine line too_many_names) ∷ [] → any_full told ≡ false
naming_none true line thread told c = ap any_full c
naming_none false line thread told c = ap any_full c

carries_none : (names : Names) (old : Session) (line : ℕ) (request : Request) (told : List Report) (new : Session) → kept_in old < 100000 → CarriesOut names old line request told new → any_full told ≡ false
carries_none names old line (Enter thread call) told new few c = enters_none old line thread call old.servers told new few c
carries_none names old line (CreateThread number call) told new few c = elim c [
  | inl e ↦ enters_none (record old { numbers = with_number old.numbers number }) line root call old.servers told new few e
  | inr lacks ↦ line_not old line lacks_memory told new lacks.1 refl
]
carries_none names old line (EndThread thread) told new few c = enters_none old line root (delete_call thread) (without old.servers thread) told new few c
carries_none names old line (SendPlan thread to which region) told new few c = elim c [
  | inl sends ↦ enters_none old line thread _ old.servers told new few sends.2
  | inr r ↦ line_not old line (plan_refusal r.0) told new r.2 (plan_not r.0)
]
carries_none names old line (ListPages thread first count) told new few c = shows_none (space_of old.machine.threads thread) old.machine line first count told c.0
carries_none names old line (TellParent thread page) told new few c = parent_none (space_of old.machine.threads thread) old.machine line page told c.0
carries_none names old line (AddRegion thread entry) told new few c = adds_none (space_of old.machine.threads thread) old line thread entry told new c
carries_none names old line (ServeThread thread) told new few c = elim c [
  | inl f ↦ follows_none old thread waiting (with_served old.servers thread) told new few f
  | inr more ↦ elim more [ inl r ↦ refuses_none old line thread waiting told new few r | inr lacks ↦ line_not old line lacks_memory told new lacks.lacks refl ]
]
carries_none names old line (GiveName name thread) told new few c = naming_none (is_some (given names name thread)) line thread told c.0
carries_none names old line (TellReply thread) told new few c = reply_none (space_of old.machine.threads thread) old.machine line thread told c.0
carries_none names old line (CancelWait thread cause) told new few c = elim c [
  | inl w ↦ wait_none old thread cause told new few w
  | inr r ↦ line_not old line (call_refusal r.0) told new r.2 (cancel_not old.machine (kept_in old) thread cause r.0 (omega (arith, few)) r.1)
]
carries_none names old line TellSteps told new few c = ap any_full c.3
carries_none names old line BeginUnordered told new few c = ap any_full c.0
carries_none names old line BeginFinally told new few c = ap any_full c.0
carries_none names old line StateRule told new few c = ap any_full c.0

line_none : (old : State) (line : ℕ) (asked : Result (Option Request) Unread) (told : List Report) (new : State) → kept_in old.session < 100000 → AnswersLine old line asked told new → any_full told ≡ false
line_none old line (Ok None) told new few a = ap any_full a.0
line_none old line (Ok (Some request)) told new few a = carries_none old.names old.session line request told new.session few a.0
line_none old line (Err unread) told new few a = ap any_full a.0 ∙ one_not (is_full (script_refusal unread.fault)) (script_not unread.fault)

between_few : (c : Bool) (s : State) → nat_lt (kept_in s.session) segment_entries ≡ c → kept_in (cond c s (without_kept s)).session < 100000
between_few true s less = grind (arith, nat_tests)
between_few false s less = omega arith

lines_none : (old : State) (number : ℕ) (lines : List TextLine) (told : List Report) (new : State) → kept_in old.session < 100000 → AnswersLines true old number lines told new → any_full told ≡ false
lines_none old number [] told new few a = ap any_full a.0
lines_none old number (line ∷ lines) told new few a =
    ap any_full a.5
    ∙ none_more a.0 a.1 (line_none old number (asked_of old.session.machine.size old.names line) a.0 a.2 few a.3)
    (lines_none (between_lines true a.2) (number + 1) lines a.1 new (between_few (nat_lt (kept_in a.2.session) segment_entries) a.2 refl) a.4)

pub never_full : (frames : ℕ) (size : PageSize) (lines : List TextLine) (told : List Report) → IsAnswered true frames size lines told → any_full told ≡ false
never_full frames size lines told a = lines_none (first_state frames a.boot) 1 lines told a.last (omega arith) a.answers

-- THE SAME ANSWERS, WHERE MORE WAS HANDED OUT

abbrev moved : ℕ → Session → Session
moved k s = record s { kept_from = k }

abbrev moved_state : ℕ → State → State
moved_state k s = record s { session = moved k s.session }

still : (k : ℕ) (old new : Session) → new ≡ old → moved k new ≡ moved k old
still k old new is = ap (moved k) is

refused_too : (m : Machine) (entries fewer : ℕ) (numbers : List ℕ) (n : ℕ) (call : Call) (r : RecordRefusal) → fewer ≤ entries → is_full (call_refusal r) ≡ false → RefusesCall m entries numbers n call r → RefusesCall m fewer numbers n call r
refused_too m entries fewer numbers n call HistoryFull le none h = absurd (false≢true (sym none))
refused_too m entries fewer numbers n call NoMemory le none h = (h.0, (let can = h.1 in omega (arith, le, can)))
refused_too m entries fewer numbers n call (ByKernel e) le none h = elim h [
  | inl no_seat ↦ inl no_seat
  | inr refused ↦ inr ((refused.0.0, (let can = refused.0.1 in omega (arith, le, can))), refused.1)
]

line_too : (k : ℕ) (old : Session) (line : ℕ) (refusal : Refusal) (told : List Report) (new : Session) → RefusesLine old line refusal told new → RefusesLine (moved k old) line refusal told (moved k new)
line_too k old line refusal told new r = (r.0, still k old new r.1)

entered_too : (k : ℕ) (old : Session) (act : Act) → old.kept_from ≤ k → IsEntered old act → IsEntered (moved k old) act
entered_too k old act le e = record {
  can = (e.can.0, (let can = e.can.1 in omega (arith, le, can)));
  start_is = e.start_is;
  starts = e.starts;
  next = e.next;
  few = e.few;
  idle = e.idle;
}

acts_too : (k : ℕ) (old : Session) (acts : List Act) (new : Session) → old.kept_from ≤ k → AreActs old acts new → AreActs (moved k old) acts (moved k new)
acts_too k old [] new le are = still k old new are
acts_too k old (act ∷ acts) new le are = (are.0, entered_too k old act le are.1, acts_too k (after_act old act) acts new le are.2)

stops_too : (k : ℕ) (old : Session) (count : ℕ) (told : List Report) (new : Session) → old.kept_from ≤ k → any_full told ≡ false → StopsActing old count told new → StopsActing (moved k old) count told (moved k new)
stops_too k old count told new le none stops = elim stops [
  | inl ended ↦ inl (ended.0, ended.1, still k old new ended.2)
  | inr r ↦ inr (record {
    few = r.few;
    thread = r.thread;
    call = r.call;
    acts = r.acts;
    refusal = r.refusal;
    refused = refused_too old.machine (kept_in old) (kept_in (moved k old)) old.numbers r.thread r.call r.refusal (omega (arith, le))
        (or_left (is_full (call_refusal r.refusal)) false (sym (ap any_full r.told_is) ∙ none)) r.refused;
    same = ap (moved k) r.same;
    told_is = r.told_is;
  })
]

follows_too : (k : ℕ) (old : Session) (thread : ℕ) (call : Call) (sv : Servers) (told : List Report) (new : Session) → old.kept_from ≤ k → any_full told ≡ false → Follows old thread call sv told new → Follows (moved k old) thread call sv told (moved k new)
follows_too k old thread call sv told new le none f =
    let same = (are_acts_longer (after_act old f.own) f.acts f.between f.are).kept_from in
    let steps : List Report = flat_map done_reports (steps_in (f.own ∷ f.acts)) in
    let waits : List Report = waiting_reports thread (is_among thread (ended_in (steps_in (f.own ∷ f.acts)))) in
    record {
      own = f.own;
      own_is = f.own_is;
      entered = entered_too k old f.own le f.entered;
      acts = f.acts;
      between = moved k f.between;
      are = acts_too k (after_act old f.own) f.acts f.between le f.are;
      few = f.few;
      last = f.last;
      stops = stops_too k f.between (length f.acts) f.last new (omega (arith, le, same)) (none_last steps f.last (none_first (steps ++ f.last) waits (sym (ap any_full f.told_is) ∙ none))) f.stops;
      told_is = f.told_is;
    }

cancel_refused_too : (m : Machine) (entries fewer n : ℕ) (cause : CancelCause) (r : RecordRefusal) → fewer ≤ entries → is_full (call_refusal r) ≡ false → RefusesCancel m entries n cause r → RefusesCancel m fewer n cause r
cancel_refused_too m entries fewer n cause HistoryFull le none h = absurd (false≢true (sym none))
cancel_refused_too m entries fewer n cause NoMemory le none h = omega (arith, le, h)
cancel_refused_too m entries fewer n cause (ByKernel e) le none h = ((let few = h.0 in omega (arith, le, few)), h.1)

wait_too : (k : ℕ) (old : Session) (thread : ℕ) (cause : CancelCause) (told : List Report) (new : Session) → old.kept_from ≤ k → any_full told ≡ false → WaitEnds old thread cause told new → WaitEnds (moved k old) thread cause told (moved k new)
wait_too k old thread cause told new le none w =
    let same = (are_acts_longer (after_cancel old w.own) w.acts w.between w.are).kept_from in
    let steps : List Report = flat_map done_reports (w.own ∷ steps_in w.acts) in
    record {
      room = (let room = w.room in omega (arith, le, room));
      own = w.own;
      own_is = w.own_is;
      steps = w.steps;
      idle = w.idle;
      acts = w.acts;
      between = moved k w.between;
      are = acts_too k (after_cancel old w.own) w.acts w.between le w.are;
      few = w.few;
      last = w.last;
      stops = stops_too k w.between (length w.acts) w.last new (omega (arith, le, same)) (none_last steps w.last (sym (ap any_full w.told_is) ∙ none)) w.stops;
      told_is = w.told_is;
    }

refuses_too : (k : ℕ) (old : Session) (line thread : ℕ) (call : Call) (told : List Report) (new : Session) → old.kept_from ≤ k → any_full told ≡ false → Refuses old line thread call told new → Refuses (moved k old) line thread call told (moved k new)
refuses_too k old line thread call told new le none r = (
  r.0,
  refused_too old.machine (kept_in old) (kept_in (moved k old)) old.numbers thread call r.0 (omega (arith, le))
      (or_left (is_full (call_refusal r.0)) false (sym (ap any_full r.2.0) ∙ none)) r.1,
  line_too k old line (call_refusal r.0) told new r.2,
)

enters_too : (k : ℕ) (old : Session) (line thread : ℕ) (call : Call) (sv : Servers) (told : List Report) (new : Session) → old.kept_from ≤ k → any_full told ≡ false → Enters old line thread call sv told new → Enters (moved k old) line thread call sv told (moved k new)
enters_too k old line thread call sv told new le none e = elim e [
  | inl f ↦ inl (follows_too k old thread call sv told new le none f)
  | inr r ↦ inr (refuses_too k old line thread call told new le none r)
]

adds_too : (k : ℕ) (o : Option ℕ) (old : Session) (line thread : ℕ) (entry : Entry) (told : List Report) (new : Session)
    → MatchOption o (RefusesLine old line (kernel_refusal UnknownThread) told new) (λ space. RegionAdded old thread entry told new ⊎ RefusesFor (RegionFails old.servers thread entry) region_refusal old line told new)
    → MatchOption o (RefusesLine (moved k old) line (kernel_refusal UnknownThread) told (moved k new))
    (λ space. RegionAdded (moved k old) thread entry told (moved k new) ⊎ RefusesFor (RegionFails old.servers thread entry) region_refusal (moved k old) line told (moved k new))
adds_too k None old line thread entry told new a = line_too k old line (kernel_refusal UnknownThread) told new a
adds_too k (Some space) old line thread entry told new a = elim a [
  | inl added ↦ inl (added.0, added.1, ap (moved k) added.2)
  | inr r ↦ inr (r.0, r.1, line_too k old line (region_refusal r.0) told new r.2)
]

carries_too : (k : ℕ) (names : Names) (old : Session) (line : ℕ) (request : Request) (told : List Report) (new : Session) → old.kept_from ≤ k → any_full told ≡ false → CarriesOut names old line request told new → CarriesOut names (moved k old) line request told (moved k new)
carries_too k names old line (Enter thread call) told new le none c = enters_too k old line thread call old.servers told new le none c
carries_too k names old line (CreateThread number call) told new le none c = elim c [
  | inl e ↦ inl (enters_too k (record old { numbers = with_number old.numbers number }) line root call old.servers told new le none e)
  | inr lacks ↦ inr (lacks.0, line_too k old line lacks_memory told new lacks.1)
]
carries_too k names old line (EndThread thread) told new le none c = enters_too k old line root (delete_call thread) (without old.servers thread) told new le none c
carries_too k names old line (SendPlan thread to which region) told new le none c = elim c [
  | inl sends ↦ inl (sends.0, sends.1, enters_too k old line thread _ old.servers told new le none sends.2)
  | inr r ↦ inr (r.0, r.1, line_too k old line (plan_refusal r.0) told new r.2)
]
carries_too k names old line (ListPages thread first count) told new le none c = (c.0, still k old new c.1)
carries_too k names old line (TellParent thread page) told new le none c = (c.0, still k old new c.1)
carries_too k names old line (AddRegion thread entry) told new le none c = adds_too k (space_of old.machine.threads thread) old line thread entry told new c
carries_too k names old line (ServeThread thread) told new le none c = elim c [
  | inl f ↦ inl (follows_too k old thread waiting (with_served old.servers thread) told new le none f)
  | inr more ↦ elim more [
    | inl r ↦ inr (inl (refuses_too k old line thread waiting told new le none r))
    | inr lacks ↦ inr (inr (record {
      first = lacks.first;
      may = ((lacks.may.0.0, (let can = lacks.may.0.1 in omega (arith, le, can))), lacks.may.1);
      lacks = line_too k old line lacks_memory told new lacks.lacks;
    }))
  ]
]
carries_too k names old line (GiveName name thread) told new le none c = (c.0, still k old new c.1)
carries_too k names old line (TellReply thread) told new le none c = (c.0, still k old new c.1)
carries_too k names old line (CancelWait thread cause) told new le none c = elim c [
  | inl w ↦ inl (wait_too k old thread cause told new le none w)
  | inr r ↦ inr (
    r.0,
    cancel_refused_too old.machine (kept_in old) (kept_in (moved k old)) thread cause r.0 (omega (arith, le)) (or_left (is_full (call_refusal r.0)) false (sym (ap any_full r.2.0) ∙ none)) r.1,
    line_too k old line (call_refusal r.0) told new r.2,
  )
]
carries_too k names old line TellSteps told new le none c = (c.0, c.1, c.2, c.3, ap (moved k) c.4)
carries_too k names old line BeginUnordered told new le none c = (c.0, still k old new c.1)
carries_too k names old line BeginFinally told new le none c = (c.0, still k old new c.1)
carries_too k names old line StateRule told new le none c = (c.0, still k old new c.1)

answers_too : (k : ℕ) (old : State) (line : ℕ) (asked : Result (Option Request) Unread) (told : List Report) (new : State) → old.session.kept_from ≤ k → any_full told ≡ false → AnswersLine old line asked told new → AnswersLine (moved_state k old) line asked told (moved_state k new)
answers_too k old line (Ok None) told new le none a = (a.0, ap (moved_state k) a.1)
answers_too k old line (Ok (Some request)) told new le none a = (carries_too k old.names old.session line request told new.session le none a.0, a.1)
answers_too k old line (Err unread) told new le none a = (a.0, ap (moved_state k) a.1)

-- what was handed out before the next line
next_is : (k : ℕ) (c : Bool) (s : State) → nat_lt (kept_in (moved k s.session)) segment_entries ≡ c → s.session.kept_from ≤ k
    → (k' : ℕ) × (cond c (moved_state k s) (without_kept (moved_state k s)) ≡ moved_state k' s) × (s.session.kept_from ≤ k')
next_is k true s is le = (k, refl, le)
next_is k false s is le =
    let not_less : segment_entries ≤ kept_in (moved k s.session) = grind (arith, nat_tests) in
    (length s.session.history, refl, omega (arith, le, not_less))

lines_too : (k : ℕ) (old : State) (number : ℕ) (lines : List TextLine) (told : List Report) (new : State) → old.session.kept_from ≤ k → any_full told ≡ false → AnswersLines false old number lines told new
    → (last : State) × AnswersLines true (moved_state k old) number lines told last
lines_too k old number [] told new le none a = (moved_state k old, (a.0, refl))
lines_too k old number (line ∷ lines) told new le none a =
    let both : any_full (a.0 ++ a.1) ≡ false = sym (ap any_full a.5) ∙ none in
    let same = (line_longer old number (asked_of old.session.machine.size old.names line) a.0 a.2 a.3).kept_from in
    let n = next_is k (nat_lt (kept_in (moved k a.2.session)) segment_entries) a.2 refl (omega (arith, le, same)) in
    let rest = lines_too n.0 a.2 (number + 1) lines a.1 new n.2 (none_last a.0 a.1 both) a.4 in (
      rest.0,
      (
        a.0,
        a.1,
        moved_state k a.2,
        answers_too k old number (asked_of old.session.machine.size old.names line) a.0 a.2 le (none_first a.0 a.1 both) a.3,
        subst (λ (s : State). AnswersLines true s (number + 1) lines a.1 rest.0) (sym n.1) rest.1,
        a.5,
      ),
    )

pub as_kept : (frames : ℕ) (size : PageSize) (lines : List TextLine) (told : List Report) → IsAnswered false frames size lines told → any_full told ≡ false → IsAnswered true frames size lines told
as_kept frames size lines told a none =
    let all = lines_too 0 (first_state frames a.boot) 1 lines told a.last (omega arith) none a.answers in
    record { boot = a.boot; boots = a.boots; sized = a.sized; last = all.0; answers = all.1 }
