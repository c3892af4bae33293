-- The answers to a line's call and to the steps that follow it, and to the lines of a script, as reports (this profile's own).
use Rattle.std.specs.Prelude.{◌≡◌, ℕ, ◌+◌, ◌^◌, ◌<◌, ◌≤◌, ◌⊎◌, ◌↔◌, Bool, false, List, [], ◌∷◌, ◌++◌, length, nat_lt, map, Contains, Option, Some, None, is_some, Result, Ok, Err, MatchOption, if◌then◌else◌}
use Rattle.std.specs.Option.{option_map_or}
use Rattle.std.specs.List.{flat_map, AllPairs}
use Rattle.l4_fpage.specs.Pages.{space_pages}
use Rattle.l4_fpage.specs.declared.sizes.PageSize.{PageSize}
use Rattle.l4_mapdb.specs.Mappings.{shown, IsPresent}
use Rattle.l4_mapdb.specs.declared.Place.{Place}
use Rattle.l4_threads.specs.Threads.{space_of, runs}
use Rattle.l4_threads.specs.declared.Reply.{Reply}
use Rattle.l4_ipc.specs.declared.calls.Call.{Call}
use Rattle.l4_ipc.specs.declared.steps.Step.{Step}
use Rattle.l4_ipc.specs.declared.steps.Step.TheVariants.{Start, Transfer, Expire, Cancel}
use Rattle.l4_ipc.specs.declared.steps.CancelCause.{CancelCause}
use Rattle.l4_ipc.specs.declared.steps.Outcome.{Outcome}
use Rattle.l4_ipc.specs.declared.steps.Refused.TheVariants.{UnknownThread}
use Rattle.l4_ipc.specs.Machine.{Machine, IsBoot}
use Rattle.l4_ipc.specs.Reading.{reply_of}
use Rattle.l4_ipc.specs.Steps.{Steps, IsIdle}
use Rattle.l4_ipc.specs.Following.{Done, AreNext}
use Rattle.l4_record.specs.declared.entries.Entry.{Entry as HistoryEntry}
use Rattle.l4_record.specs.declared.refusals.RecordRefusal.{RecordRefusal}
use Rattle.l4_record.specs.Segments.{kept_count}
use Rattle.l4_record.specs.Sizes.{max_steps, last_start}
use Rattle.l4_record.specs.Seated.{Seated, is_among, with_number, CanEnter, MayEnter, Refuses as RefusesCall, RefusesCancel}
use Rattle.l4_commands.specs.declared.requests.Request.{Request}
use Rattle.l4_commands.specs.declared.requests.Request.TheVariants.{Enter, CreateThread, EndThread, SendPlan, ListPages, TellParent, AddRegion, ServeThread, GiveName, TellReply, CancelWait, TellSteps, BeginUnordered, BeginFinally, StateRule}
use Rattle.l4_answers.specs.Reports.{Report, RefusedLine, UnreadLine, RefusedAct, Transferred, TimedOut, Canceled, Waits, Ended, NoneEnded, Page, Shown, Parent, AddedRegion, Named, StepCount, AddsAll}
use Rattle.l4_answers.specs.Refusals.{Refusal, kernel_refusal}
use Rattle.l4_shell.specs.Refusals.{script_refusal, plan_refusal, too_many_names, lacks_memory, call_refusal, region_refusal}
use Rattle.l4_names.specs.Names.{Names, given}
use Rattle.l4_text.specs.Grammar.{TextLine}
use Rattle.l4_commands.specs.Requests.{Unread, asked_of, names_after}
use Rattle.l4_commands.specs.Calls.{root, send_call, delete_call}
use Rattle.l4_shell.specs.Delegations.{ArePlanWords, HasNoPlan}
use Rattle.l4_commands.specs.declared.requests.Which.{Which}
use Rattle.l4_commands.specs.declared.partners.Partner.{Partner}
use Rattle.l4_msg.specs.declared.regions.Region.{Region}
use Rattle.l4_pager.specs.Regions.{CanAdd}
use Rattle.l4_pager.specs.Serving.{waiting}
use Rattle.l4_pager.specs.declared.regions.Entry.{Entry}
use Rattle.l4_servers.specs.Servers.{Servers, no_servers, regions_of, is_served, with_region, with_served, without, RegionFails}
use Rattle.l4_servers.specs.Acting.{NoneReady, ActsNext}

-- STEPS

-- the report of a step itself
abbrev pub own_report : Step → Outcome → List Report
own_report (Start n call) outcome = []
own_report (Transfer sender receiver) outcome = Transferred sender receiver outcome ∷ []
own_report (Expire n) outcome = TimedOut n ∷ []
own_report (Cancel n cause) outcome = Canceled n cause ∷ []

-- how the calls of these threads ended, in the machine right after the step
abbrev pub ended_reports : Machine → List ℕ → List Report
ended_reports m numbers = flat_map (λ n. Ended n (reply_of m.threads n) ∷ []) numbers

-- the reports of a step: its own, and then those of the calls that ended in it
abbrev pub done_reports : Done → List Report
done_reports done = own_report done.step done.answer.outcome ++ ended_reports done.after done.answer.ended.items

-- the threads whose calls ended in these steps
abbrev pub ended_in : List Done → List ℕ
ended_in steps = flat_map (λ done. done.answer.ended.items) steps

-- the report that a thread's call has not ended, unless it has
abbrev pub waiting_reports : ℕ → Bool → List Report
waiting_reports thread ended = if ended then [] else (Waits thread ∷ [])

-- SESSIONS

-- The state of a script: the kernel, the servers, the history, the numbers that have their seats, the count that was reported last, and the
-- number of the first entry of the history that is kept. An entry is the start of a call, or a step that followed one.
pub record Session : Type 0 where
  pub machine : Machine
  pub servers : Servers
  pub history : List HistoryEntry
  pub numbers : List ℕ
  pub seen : ℕ
  pub kept_from : ℕ

-- the session with this kernel, its seats and these servers
abbrev pub session : Seated → Servers → Session
session kernel servers =
    record { machine = kernel.machine; servers = servers; history = kernel.history; numbers = kernel.numbers; seen = kernel.seen; kept_from = kernel.kept_from }

-- at the start, sigma0 and root have their seats, and the servers use the page size of the machine
abbrev pub first_session : ℕ → Machine → Session
first_session frames boot = record { machine = boot; servers = no_servers boot.size frames; history = []; numbers = 1 ∷ 2 ∷ []; seen = 0; kept_from = 0 }

-- CALLS

-- a call that a thread entered: its start, the steps that followed, the machine after them, and the servers from then on
pub record Act : Type 0 where
  pub thread : ℕ
  pub call : Call
  pub servers : Servers
  pub start : Done
  pub steps : List Done
  pub after : Machine

-- the number of entries that are kept
abbrev pub kept_in : Session → ℕ
kept_in s = kept_count s.kept_from s.history

-- the thread entered the call, and then the next step was executed until no step was enabled, at most 128 times
pub record IsEntered (old : Session) (act : Act) : Type 0 where
  pub can : CanEnter (kept_in old) old.numbers act.thread
  pub start_is : act.start.step ≡ Start act.thread act.call
  pub starts : Steps old.machine act.start.step (Ok act.start.answer) act.start.after
  pub next : AreNext act.start.after act.steps act.after
  pub few : length act.steps ≤ max_steps
  pub idle : IsIdle act.after

-- the entry of a step that belongs to a call of this thread
abbrev pub done_entry : ℕ → Done → HistoryEntry
done_entry n done = record { seat = n; step = done.step; answer = done.answer }

-- the session after a call: the history has an entry for each of its steps
abbrev pub after_act : Session → Act → Session
after_act old act = record old { machine = act.after; servers = act.servers; history = old.history ++ map (done_entry act.thread) (act.start ∷ act.steps) }

-- the steps of these calls
abbrev pub steps_in : List Act → List Done
steps_in acts = flat_map (λ act. act.start ∷ act.steps) acts

-- SERVED THREADS

-- served threads entered these calls, one after another; each was the one that acts next
abbrev pub AreActs : Session → List Act → Session → Type 0
AreActs old [] new = new ≡ old
AreActs old (act ∷ acts) new =
    ActsNext old.machine.threads old.servers act.thread act.call act.servers × IsEntered old act × AreActs (after_act old act) acts new

-- the greatest number of acts on a line
abbrev pub most_acts : ℕ
most_acts = 256

-- the call of the served thread that acts next was refused, and the only report is the refusal
pub record RefusesAct (old : Session) (count : ℕ) (told : List Report) (new : Session) : Type 0 where
  pub few : count < most_acts
  pub thread : ℕ
  pub call : Call
  pub acts : ActsNext old.machine.threads old.servers thread call new.servers
  pub refusal : RecordRefusal
  pub refused : RefusesCall old.machine (kept_in old) old.numbers thread call refusal
  pub same : new ≡ record old { servers = new.servers }
  pub told_is : told ≡ RefusedAct thread (call_refusal refusal) ∷ []

-- The reason why no served thread acts any more on a line that has had this number of acts: none is running, or the line has had as many
-- as it can have; or a call is refused.
abbrev pub StopsActing : Session → ℕ → List Report → Session → Type 0
StopsActing old count told new =
    ((NoneReady old.machine.threads old.servers ⊎ (count ≡ most_acts)) × (told ≡ []) × (new ≡ old)) ⊎ RefusesAct old count told new

-- ONE CALL

-- The thread entered the call, and the servers are these from then on. Then the served threads acted, one after another. The reports are
-- those of all steps, and of a refused act if there is one. The last report says that the caller waits, if its call has not ended.
pub record Follows (old : Session) (thread : ℕ) (call : Call) (servers : Servers) (told : List Report) (new : Session) : Type 0 where
  pub own : Act
  pub own_is : (own.thread ≡ thread) × (own.call ≡ call) × (own.servers ≡ servers)
  pub entered : IsEntered old own
  pub acts : List Act
  pub between : Session
  pub are : AreActs (after_act old own) acts between
  pub few : length acts ≤ most_acts
  pub last : List Report
  pub stops : StopsActing between (length acts) last new
  pub told_is : told ≡ (flat_map done_reports (steps_in (own ∷ acts)) ++ last) ++ waiting_reports thread (is_among thread (ended_in (steps_in (own ∷ acts))))

-- the line with this number is refused with this code, which is the only report, and nothing has changed
abbrev pub RefusesLine : Session → ℕ → Refusal → List Report → Session → Type 0
RefusesLine old line refusal told new = (told ≡ RefusedLine line refusal ∷ []) × (new ≡ old)

-- the line is refused for one of these reasons, with the code of the reason
abbrev pub RefusesFor : {R : Type 0} → (R → Type 0) → (R → Refusal) → Session → ℕ → List Report → Session → Type 0
RefusesFor Applies code old line told new = (reason : _) × Applies reason × RefusesLine old line (code reason) told new

-- the call of this line is refused
abbrev pub Refuses : Session → ℕ → ℕ → Call → List Report → Session → Type 0
Refuses old line thread call told new = RefusesFor (RefusesCall old.machine (kept_in old) old.numbers thread call) call_refusal old line told new

-- the call of this line is entered, and the servers are these from then on; or it is refused
abbrev pub Enters : Session → ℕ → ℕ → Call → Servers → List Report → Session → Type 0
Enters old line thread call servers told new = Follows old thread call servers told new ⊎ Refuses old line thread call told new

-- CANCELED WAITS

-- the session after a step that only the environment takes, whose entry has seat 0
abbrev pub after_cancel : Session → Done → Session
after_cancel old done = record old { machine = done.after; history = old.history ++ done_entry 0 done ∷ [] }

-- The wait of the thread was canceled, which leaves no step enabled. Then the served threads acted, one after another. The reports are those
-- of all steps, and of a refused act if there is one.
pub record WaitEnds (old : Session) (thread : ℕ) (cause : CancelCause) (told : List Report) (new : Session) : Type 0 where
  pub room : kept_in old ≤ last_start
  pub own : Done
  pub own_is : own.step ≡ Cancel thread cause
  pub steps : Steps old.machine own.step (Ok own.answer) own.after
  pub idle : IsIdle own.after
  pub acts : List Act
  pub between : Session
  pub are : AreActs (after_cancel old own) acts between
  pub few : length acts ≤ most_acts
  pub last : List Report
  pub stops : StopsActing between (length acts) last new
  pub told_is : told ≡ flat_map done_reports (own ∷ steps_in acts) ++ last

-- the wait of a thread is canceled, or the line is refused
abbrev pub CancelsWait : Session → ℕ → ℕ → CancelCause → List Report → Session → Type 0
CancelsWait old line thread cause told new =
    WaitEnds old thread cause told new ⊎ RefusesFor (RefusesCancel old.machine (kept_in old) thread cause) call_refusal old line told new

-- Root creates a thread, whose number has its seat from then on, even if the call is refused. NoMemory is possible only if the number had
-- no seat.
abbrev pub Creates : Session → ℕ → ℕ → Call → List Report → Session → Type 0
Creates old line number call told new =
    Enters (record old { numbers = with_number old.numbers number }) line root call old.servers told new
    ⊎ ((is_among number old.numbers ≡ false) × RefusesLine old line lacks_memory told new)

-- PAGERS

-- An allocation for one more served thread failed. The thread's call would otherwise have been entered, so every other refusal comes before
-- this one.
pub record LacksRoom (old : Session) (line thread : ℕ) (told : List Report) (new : Session) : Type 0 where
  pub first : is_served old.servers thread ≡ false
  pub may : MayEnter old.machine (kept_in old) old.numbers thread
  pub lacks : RefusesLine old line lacks_memory told new

-- a thread receives from any thread, and is served from then on
abbrev pub ServesThread : Session → ℕ → ℕ → List Report → Session → Type 0
ServesThread old line thread told new =
    Follows old thread waiting (with_served old.servers thread) told new ⊎ (Refuses old line thread waiting told new ⊎ LacksRoom old line thread told new)

-- the region was added
abbrev pub RegionAdded : Session → ℕ → Entry → List Report → Session → Type 0
RegionAdded old thread entry told new =
    CanAdd (regions_of old.servers thread) entry × (told ≡ AddedRegion ∷ []) × (new ≡ record old { servers = with_region old.servers thread entry })

-- a region is added to a thread's table; a thread that does not exist is refused
abbrev pub AddsRegion : Session → ℕ → ℕ → Entry → List Report → Session → Type 0
AddsRegion old line thread entry told new =
    MatchOption (space_of old.machine.threads thread) (RefusesLine old line (kernel_refusal UnknownThread) told new)
    (λ space. RegionAdded old thread entry told new ⊎ RefusesFor (RegionFails old.servers thread entry) region_refusal old line told new)

-- DELEGATIONS

-- The only message of the region's shortest plan is sent, or the message with this number. If the region has no plan, or the plan no such
-- message, the line is refused. Whether the call would be refused is not tested then.
abbrev pub Delegates : Session → ℕ → ℕ → Partner → Which → Region → List Report → Session → Type 0
Delegates old line thread to which r told new =
    ((words : List ℕ) × ArePlanWords old.machine.size r which words × Enters old line thread (send_call to words) old.servers told new)
    ⊎ RefusesFor (HasNoPlan old.machine.size r which) plan_refusal old line told new

-- PAGES

abbrev pub place_in : ℕ → ℕ → Place
place_in space page = record { space = space; page = page }

-- the report of a page, if it is present
abbrev pub place_reports : Machine → ℕ → ℕ → List Report
place_reports m space page = option_map_or (λ mapping. Page page mapping ∷ []) (shown m.mappings (place_in space page)) []

-- the present pages of the space from the first one to below the end were reported, and this is their number
pub record ListsBelow {T : Type 0} (m : Machine) (space first end shown : ℕ) (has_told : T → T → List Report → Type 0) (before after : T) : Type 0 where
  pub pages : List ℕ
  pub rising : AllPairs (λ a b. a < b) pages
  pub each : (page : ℕ) → Contains pages page ↔ ((first ≤ page) × (page < end) × IsPresent m.mappings (place_in space page))
  pub number : shown ≡ length pages
  pub tells : AddsAll has_told before after (flat_map (place_reports m space) pages)

-- The present pages of the space among this number of pages from the first one on were reported, in rising order and not beyond the space,
-- and then their number.
pub record ListsPages (m : Machine) (space first count : ℕ) (told : List Report) : Type 0 where
  pub pages : List ℕ
  pub rising : AllPairs (λ a b. a < b) pages
  pub each : (page : ℕ) → Contains pages page
      ↔ ((first ≤ page) × (page < first + count) × (page < space_pages m.size) × IsPresent m.mappings (place_in space page))
  pub told_is : told ≡ flat_map (place_reports m space) pages ++ Shown (length pages) ∷ []

-- the pages of a thread's space; a thread that does not exist is refused
abbrev pub Shows : Machine → ℕ → ℕ → ℕ → ℕ → List Report → Type 0
Shows m line thread first count told =
    MatchOption (space_of m.threads thread) (told ≡ RefusedLine line (kernel_refusal UnknownThread) ∷ []) (λ space. ListsPages m space first count told)

-- the parent of a page of a thread's space; a thread that does not exist is refused
abbrev pub parent_answer : Machine → ℕ → ℕ → ℕ → Report
parent_answer m line thread page =
    option_map_or (λ space. Parent (shown m.mappings (place_in space page))) (space_of m.threads thread) (RefusedLine line (kernel_refusal UnknownThread))

-- REPLIES

-- how the last call of a running thread ended, or that no call of it has ended
abbrev pub ended_answer : ℕ → Option Reply → Report
ended_answer thread None = NoneEnded thread
ended_answer thread (Some reply) = Ended thread (Some reply)

-- how the last call of a thread ended, or that it has not ended; a thread that does not exist is refused
abbrev pub reply_answer : Machine → ℕ → ℕ → Report
reply_answer m line thread =
    option_map_or (λ space. if runs m.threads thread then ended_answer thread (reply_of m.threads thread) else Waits thread)
    (space_of m.threads thread) (RefusedLine line (kernel_refusal UnknownThread))

-- COUNTS

-- The number of entries of the history, as its board has it. All that is known about this number is that it is not below the number that
-- was read before, and that it fits into 64 bits.
abbrev pub TellsCount : Session → List Report → Session → Type 0
TellsCount old told new = (count : ℕ) × (old.seen ≤ count) × (count < 2 ^ 64) × (told ≡ StepCount count ∷ []) × (new ≡ record old { seen = count })

-- NAMES

-- the report of a line that gives a name to a thread, where threads have these names: it is refused if there are too many
abbrev pub naming_report : Names → ℕ → List ℕ → ℕ → Report
naming_report names line name number = if is_some (given names name number) then Named number else RefusedLine line too_many_names

-- LINES

-- the request of a line was executed where threads have these names, with these reports
abbrev pub CarriesOut : Names → Session → ℕ → Request → List Report → Session → Type 0
CarriesOut names old line (Enter thread call) told new = Enters old line thread call old.servers told new
CarriesOut names old line (CreateThread number call) told new = Creates old line number call told new
CarriesOut names old line (EndThread thread) told new = Enters old line root (delete_call thread) (without old.servers thread) told new
CarriesOut names old line (SendPlan thread to which region) told new = Delegates old line thread to which region told new
CarriesOut names old line (ListPages thread first count) told new = Shows old.machine line thread first count told × (new ≡ old)
CarriesOut names old line (TellParent thread page) told new = (told ≡ parent_answer old.machine line thread page ∷ []) × (new ≡ old)
CarriesOut names old line (AddRegion thread entry) told new = AddsRegion old line thread entry told new
CarriesOut names old line (ServeThread thread) told new = ServesThread old line thread told new
CarriesOut names old line (GiveName name thread) told new = (told ≡ naming_report names line name thread ∷ []) × (new ≡ old)
CarriesOut names old line (TellReply thread) told new = (told ≡ reply_answer old.machine line thread ∷ []) × (new ≡ old)
CarriesOut names old line (CancelWait thread cause) told new = CancelsWait old line thread cause told new
CarriesOut names old line TellSteps told new = TellsCount old told new
CarriesOut names old line BeginUnordered told new = (told ≡ []) × (new ≡ old)
CarriesOut names old line BeginFinally told new = (told ≡ []) × (new ≡ old)
CarriesOut names old line StateRule told new = (told ≡ []) × (new ≡ old)

-- the state of a script between two lines: its session, and the names of its threads
pub record State : Type 0 where
  pub session : Session
  pub names : Names

-- the state with this kernel, its seats, these servers and these names
abbrev pub state : Seated → Servers → Names → State
state kernel servers names = record { session = session kernel servers; names = names }

-- at the start, no thread has a name
abbrev pub first_state : ℕ → Machine → State
first_state frames boot = record { session = first_session frames boot; names = [] }

-- the answer to a line of this number that asks for this
abbrev pub AnswersLine : State → ℕ → Result (Option Request) Unread → List Report → State → Type 0
AnswersLine old line (Ok None) told new = (told ≡ []) × (new ≡ old)
AnswersLine old line (Ok (Some request)) told new = CarriesOut old.names old.session line request told new.session × (new.names ≡ names_after old.names request)
AnswersLine old line (Err unread) told new =
    (told ≡ UnreadLine old.session.machine.size old.names line (script_refusal unread.fault) unread.bytes ∷ []) × (new ≡ old)

-- the least number of kept entries that are handed out after a line
abbrev pub segment_entries : ℕ
segment_entries = 100000

-- no entry is kept any more
abbrev pub without_kept : State → State
without_kept s = record s { session = record s.session { kept_from = length s.session.history } }

-- the state in which the next line is answered: a script that hands out its history does so after each line that leaves enough entries
abbrev pub between_lines : Bool → State → State
between_lines hands_out s = if hands_out then (if nat_lt (kept_in s.session) segment_entries then s else without_kept s) else s

-- The reports of lines, one after another, of which the first has this number. The history is handed out between the lines, or it never is.
abbrev pub AnswersLines : Bool → State → ℕ → List TextLine → List Report → State → Type 0
AnswersLines hands_out old number [] told new = (told ≡ []) × (new ≡ old)
AnswersLines hands_out old number (line ∷ lines) told new =
    (first : List Report) × (rest : List Report) × (between : State) × AnswersLine old number (asked_of old.session.machine.size old.names line) first between
    × AnswersLines hands_out (between_lines hands_out between) (number + 1) lines rest new × (told ≡ first ++ rest)

-- THE ANSWERS TO A SCRIPT'S LINES, over a machine at boot with this number of frames of this size, and without servers or names
pub record IsAnswered (hands_out : Bool) (frames : ℕ) (size : PageSize) (lines : List TextLine) (told : List Report) : Type 0 where
  pub boot : Machine
  pub boots : IsBoot frames boot
  pub sized : boot.size ≡ size
  pub last : State
  pub answers : AnswersLines hands_out (first_state frames boot) 1 lines told last
