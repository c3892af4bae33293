-- No line changes the size of pages that a script goes by.
use Rattle.std.proofs.Common.{◌≡◌, ℕ, ◌+◌, Bool, true, false, cond, nat_lt, List, [], ◌∷◌, length, Option, Some, None, Result, Ok, Err, inl, inr, ◌⊎◌, refl, sym, ap, subst, ◌∙◌}
use Rattle.std.specs.Prelude.{MatchOption}
use Rattle.std.specs.Option.{unwrap_or}
use Rattle.std.specs.Ordering.{nat_cmp, eq_by_cmp}
use Rattle.std.specs.Cmp.{nat_cmp_total}
use Rattle.std.specs.FinMap as fin
use Rattle.l4_fpage.specs.declared.sizes.PageSize.{PageSize}
use Rattle.l4_msg.specs.declared.messages.Message.{Message}
use Rattle.l4_threads.specs.Threads.{Threads, space_of}
use Rattle.l4_threads.specs.declared.ThreadId.{ThreadId}
use Rattle.l4_ipc.specs.declared.calls.Call.{Call}
use Rattle.l4_ipc.specs.Machine.{Machine}
use Rattle.l4_ipc.specs.Following.{Done, AreNext}
use Rattle.l4_ipc.proofs.SizeStays.{size_stays}
use Rattle.l4_pager.specs.Regions.{Regions, no_entries, with_entry}
use Rattle.l4_pager.specs.Serving.{waiting}
use Rattle.l4_pager.specs.declared.regions.Entry.{Entry}
use Rattle.l4_servers.specs.Servers.{Servers, servers, regions_of, with_region, with_served, without, RegionFails}
use Rattle.l4_servers.specs.Acting.{Answers, ActsNext}
use Rattle.l4_commands.specs.declared.requests.Request.{Request}
use Rattle.l4_commands.specs.declared.requests.Request.TheVariants.{Enter, CreateThread, EndThread, SendPlan, ListPages, TellParent, AddRegion, ServeThread, GiveName, TellReply, CancelWait, TellSteps, BeginUnordered, BeginFinally, StateRule}
use Rattle.l4_answers.specs.Reports.{Report}
use Rattle.l4_names.specs.Names.{Names}
use Rattle.l4_text.specs.Grammar.{TextLine}
use Rattle.l4_commands.specs.Requests.{Unread, asked_of}
use Rattle.l4_commands.specs.Calls.{root, delete_call}
use Rattle.l4_record.specs.Seated.{with_number}
use Rattle.l4_shell.specs.Refusals.{region_refusal}
use Rattle.l4_ipc.specs.declared.steps.CancelCause.{CancelCause}
use Rattle.l4_shell.specs.Sessions.{Session, State, first_session, Act, IsEntered, after_act, AreActs, StopsActing, Follows, RefusesFor, Enters, after_cancel, WaitEnds, RegionAdded, CarriesOut, AnswersLine, kept_in, segment_entries, without_kept, between_lines, AnswersLines}
use Rattle.l4_shell.specs.Sizes.{GoBy, HasSize}

-- STEPS

steps_size : (m : Machine) (steps : List Done) (new : Machine) → AreNext m steps new → new.size ≡ m.size
steps_size m [] new are = ap (λ (x : Machine). x.size) are
steps_size m (done ∷ rest) new are = steps_size done.after rest new are.2 ∙ size_stays m done.step (Ok done.answer) done.after are.1

-- SERVERS

-- a table that is in its place, or none
either_size : (b : Bool) (first second : Option Regions) (z size : PageSize) → (unwrap_or first (no_entries z)).size ≡ size → (unwrap_or second (no_entries z)).size ≡ size
    → (unwrap_or (cond b first second) (no_entries z)).size ≡ size
either_size true first second z size a b = a
either_size false first second z size a b = b

with_owners : (size : PageSize) (old new : Servers) → new.owners.size ≡ old.owners.size → new.tables ≡ old.tables → GoBy size old → GoBy size new
with_owners size old new same tables h = record {
  owners = same ∙ h.owners;
  regions = λ n. (λ i. (unwrap_or (fin.get (tables i) n) (no_entries (same i))).size) ∙ h.regions n;
}

region_goes : (size : PageSize) (s : Servers) (thread : ℕ) (entry : Entry) → GoBy size s → GoBy size (with_region s thread entry)
region_goes size s thread entry h =
    let put : Regions = with_entry (regions_of s thread) entry in
    record {
      owners = h.owners;
      regions = λ n. ap (λ (o : Option Regions). (unwrap_or o (no_entries s.owners.size)).size) (fin.get-insert nat_cmp_total s.tables thread put n)
          ∙ either_size (eq_by_cmp nat_cmp n thread) (Some put) (fin.get s.tables n) s.owners.size size (h.regions thread) (h.regions n);
    }

without_goes : (size : PageSize) (s : Servers) (thread : ℕ) → GoBy size s → GoBy size (without s thread)
without_goes size s thread h = record {
  owners = h.owners;
  regions = λ n. ap (λ (o : Option Regions). (unwrap_or o (no_entries s.owners.size)).size) (fin.get-remove nat_cmp_total s.tables thread n)
      ∙ either_size (eq_by_cmp nat_cmp n thread) None (fin.get s.tables n) s.owners.size size h.owners (h.regions n);
}

served_goes : (size : PageSize) (s : Servers) (thread : ℕ) → GoBy size s → GoBy size (with_served s thread)
served_goes size s thread h = record { owners = h.owners; regions = h.regions }

answers_go : (size : PageSize) (t : Threads) (old : Servers) (thread : ℕ) (sender : ThreadId) (m answer : Message) (new : Servers) → Answers t old thread sender m answer new → GoBy size old → GoBy size new
answers_go size t old thread sender m answer new a h = elim a [
  | inl by ↦
      let x = by.1 in
      let same : x.0.size ≡ old.owners.size = elim x.1 [
        | inl gives ↦ gives.5.size
        | inr not ↦ λ i. (not.2 i).size
      ] in
      subst (GoBy size) (sym x.2) (with_owners size old (servers x.0 old.tables old.served) same refl h)
  | inr by ↦ subst (GoBy size) (sym by.2) h
]

acts_go : (size : PageSize) (t : Threads) (old : Servers) (thread : ℕ) (call : Call) (new : Servers) → ActsNext t old thread call new → GoBy size old → GoBy size new
acts_go size t old thread call new a h = elim a.follows [
  | inl is ↦ answers_go size t old thread is.sender is.message is.answer new is.answers h
  | inr waits ↦ subst (GoBy size) (sym waits.2) h
]

-- CALLS

same_size : (size : PageSize) (old new : Session) → new ≡ old → HasSize size old → HasSize size new
same_size size old new is h = subst (HasSize size) (sym is) h

act_size : (size : PageSize) (old : Session) (act : Act) → IsEntered old act → HasSize size old → GoBy size act.servers → HasSize size (after_act old act)
act_size size old act is h go = record {
  machine = steps_size act.start.after act.steps act.after is.next ∙ size_stays old.machine act.start.step (Ok act.start.answer) act.start.after is.starts ∙ h.machine;
  servers = go;
}

are_acts_size : (size : PageSize) (old : Session) (acts : List Act) (new : Session) → AreActs old acts new → HasSize size old → HasSize size new
are_acts_size size old [] new are h = same_size size old new are h
are_acts_size size old (act ∷ acts) new are h =
    are_acts_size size (after_act old act) acts new are.2 (act_size size old act are.1 h (acts_go size old.machine.threads old.servers act.thread act.call act.servers are.0 h.servers))

stops_size : (size : PageSize) (old : Session) (count : ℕ) (told : List Report) (new : Session) → StopsActing old count told new → HasSize size old → HasSize size new
stops_size size old count told new stops h = elim stops [
  | inl ended ↦ same_size size old new ended.2 h
  | inr r ↦ record {
    machine = ap (λ (s : Session). s.machine.size) r.same ∙ h.machine;
    servers = acts_go size old.machine.threads old.servers r.thread r.call new.servers r.acts h.servers;
  }
]

follows_size : (size : PageSize) (old : Session) (thread : ℕ) (call : Call) (sv : Servers) (told : List Report) (new : Session) → Follows old thread call sv told new → HasSize size old → GoBy size sv → HasSize size new
follows_size size old thread call sv told new f h go =
    stops_size size f.between (length f.acts) f.last new f.stops
    (are_acts_size size (after_act old f.own) f.acts f.between f.are
    (act_size size old f.own f.entered h (subst (GoBy size) (sym f.own_is.2) go)))

enters_size : (size : PageSize) (old : Session) (line thread : ℕ) (call : Call) (sv : Servers) (told : List Report) (new : Session) → Enters old line thread call sv told new → HasSize size old → GoBy size sv → HasSize size new
enters_size size old line thread call sv told new e h go = elim e [
  | inl f ↦ follows_size size old thread call sv told new f h go
  | inr r ↦ same_size size old new r.2.1 h
]

wait_size : (size : PageSize) (old : Session) (thread : ℕ) (cause : CancelCause) (told : List Report) (new : Session) → WaitEnds old thread cause told new → HasSize size old → HasSize size new
wait_size size old thread cause told new w h =
    stops_size size w.between (length w.acts) w.last new w.stops
    (are_acts_size size (after_cancel old w.own) w.acts w.between w.are
    (record { machine = size_stays old.machine w.own.step (Ok w.own.answer) w.own.after w.steps ∙ h.machine; servers = h.servers }))

adds_size : (size : PageSize) (old : Session) (line thread : ℕ) (entry : Entry) (space : Option ℕ) (told refused : List Report) (new : Session)
    → MatchOption space ((told ≡ refused) × (new ≡ old)) (λ _. RegionAdded old thread entry told new ⊎ RefusesFor (RegionFails old.servers thread entry) region_refusal old line told new) → HasSize size old → HasSize size new
adds_size size old line thread entry None told refused new a h = same_size size old new a.1 h
adds_size size old line thread entry (Some space) told refused new a h = elim a [
  | inl added ↦ subst (HasSize size) (sym added.2) (record { machine = h.machine; servers = region_goes size old.servers thread entry h.servers })
  | inr not ↦ same_size size old new not.2.1 h
]

-- LINES

carries_size : (size : PageSize) (names : Names) (old : Session) (line : ℕ) (request : Request) (told : List Report) (new : Session) → CarriesOut names old line request told new → HasSize size old → HasSize size new
carries_size size names old line (Enter thread call) told new c h = enters_size size old line thread call old.servers told new c h h.servers
carries_size size names old line (CreateThread number call) told new c h = elim c [
  | inl e ↦ enters_size size (record old { numbers = with_number old.numbers number }) line root call old.servers told new e (record { machine = h.machine; servers = h.servers }) h.servers
  | inr lacks ↦ same_size size old new lacks.1.1 h
]
carries_size size names old line (EndThread thread) told new c h = enters_size size old line root (delete_call thread) (without old.servers thread) told new c h (without_goes size old.servers thread h.servers)
carries_size size names old line (SendPlan thread to which region) told new c h = elim c [
  | inl sends ↦ enters_size size old line thread _ old.servers told new sends.2 h h.servers
  | inr none ↦ same_size size old new none.2.1 h
]
carries_size size names old line (ListPages thread first count) told new c h = same_size size old new c.1 h
carries_size size names old line (TellParent thread page) told new c h = same_size size old new c.1 h
carries_size size names old line (AddRegion thread entry) told new c h = adds_size size old line thread entry (space_of old.machine.threads thread) told _ new c h
carries_size size names old line (ServeThread thread) told new c h = elim c [
  | inl f ↦ follows_size size old thread waiting (with_served old.servers thread) told new f h (served_goes size old.servers thread h.servers)
  | inr not ↦ elim not [
    | inl r ↦ same_size size old new r.2.1 h
    | inr lacks ↦ same_size size old new lacks.lacks.1 h
  ]
]
carries_size size names old line (GiveName name thread) told new c h = same_size size old new c.1 h
carries_size size names old line (TellReply thread) told new c h = same_size size old new c.1 h
carries_size size names old line (CancelWait thread cause) told new c h = elim c [
  | inl w ↦ wait_size size old thread cause told new w h
  | inr r ↦ same_size size old new r.2.1 h
]
carries_size size names old line TellSteps told new c h = subst (HasSize size) (sym c.4) (record { machine = h.machine; servers = h.servers })
carries_size size names old line BeginUnordered told new c h = same_size size old new c.1 h
carries_size size names old line BeginFinally told new c h = same_size size old new c.1 h
carries_size size names old line StateRule told new c h = same_size size old new c.1 h

same_state_size : (size : PageSize) (old new : State) → new ≡ old → HasSize size old.session → HasSize size new.session
same_state_size size old new is h = subst (λ (s : State). HasSize size s.session) (sym is) h

line_size : (size : PageSize) (old : State) (line : ℕ) (asked : Result (Option Request) Unread) (told : List Report) (new : State) → AnswersLine old line asked told new → HasSize size old.session → HasSize size new.session
line_size size old line (Ok None) told new a h = same_state_size size old new a.1 h
line_size size old line (Ok (Some request)) told new a h = carries_size size old.names old.session line request told new.session a.0 h
line_size size old line (Err unread) told new a h = same_state_size size old new a.1 h

kept_size : (b c : Bool) (size : PageSize) (s : State) → HasSize size s.session → HasSize size (cond b (cond c s (without_kept s)) s).session
kept_size false c size s h = h
kept_size true true size s h = h
kept_size true false size s h = record { machine = h.machine; servers = h.servers }

pub lines_sized : (hands_out : Bool) (size : PageSize) (old : State) (number : ℕ) (lines : List TextLine) (told : List Report) (new : State)
    → AnswersLines hands_out old number lines told new → HasSize size old.session → HasSize size new.session
lines_sized hands_out size old number [] told new a h = same_state_size size old new a.1 h
lines_sized hands_out size old number (line ∷ lines) told new a h =
    let between : HasSize size a.2.session = line_size size old number (asked_of old.session.machine.size old.names line) a.0 a.2 a.3 h in
    lines_sized hands_out size (between_lines hands_out a.2) (number + 1) lines a.1 new a.4
    (kept_size hands_out (nat_lt (kept_in a.2.session) segment_entries) size a.2 between)

pub first_sized : (frames : ℕ) (boot : Machine) → HasSize boot.size (first_session frames boot)
first_sized frames boot = record {
  machine = refl;
  servers = record {
    owners = refl;
    regions = λ n. ap (λ (o : Option Regions). (unwrap_or o (no_entries boot.size)).size) (fin.get-empty {X = Regions} nat_cmp n);
  };
}
