-- No line shortens the history or hands any of it out.
use Rattle.std.proofs.Common.{◌≡◌, ℕ, List, [], ◌∷◌, ◌++◌, Option, Some, None, Result, Ok, Err, inl, inr, ◌⊎◌, map, length, refl, sym, ap, ◌∙◌}
use Rattle.std.specs.Prelude.{MatchOption}
use Rattle.std.proofs.lemmas.List.{append-nil}
use mathlib.Core.List.{append_assoc}
use Rattle.l4_threads.specs.Threads.{space_of}
use Rattle.l4_ipc.specs.declared.calls.Call.{Call}
use Rattle.l4_pager.specs.Serving.{waiting}
use Rattle.l4_pager.specs.declared.regions.Entry.{Entry}
use Rattle.l4_servers.specs.Servers.{Servers, with_served, without, RegionFails}
use Rattle.l4_record.specs.declared.entries.Entry.{Entry as HistoryEntry}
use Rattle.l4_record.specs.Seated.{with_number}
use Rattle.l4_answers.specs.Reports.{Report}
use Rattle.l4_names.specs.Names.{Names}
use Rattle.l4_commands.specs.declared.requests.Request.{Request}
use Rattle.l4_commands.specs.declared.requests.Request.TheVariants.{Enter, CreateThread, EndThread, SendPlan, ListPages, TellParent, AddRegion, ServeThread, GiveName, TellReply, CancelWait, TellSteps, BeginUnordered, BeginFinally, StateRule}
use Rattle.l4_commands.specs.Requests.{Unread}
use Rattle.l4_commands.specs.Calls.{root, delete_call}
use Rattle.l4_shell.specs.Refusals.{region_refusal}
use Rattle.l4_ipc.specs.declared.steps.CancelCause.{CancelCause}
use Rattle.l4_shell.specs.Sessions.{Session, State, Act, after_act, done_entry, AreActs, StopsActing, Follows, RefusesFor, Enters, after_cancel, WaitEnds, RegionAdded, CarriesOut, AnswersLine}

-- entries were appended, and none was handed out
pub record Lengthens (old new : Session) : Type 0 where
  pub more : List HistoryEntry
  pub history : new.history ≡ old.history ++ more
  pub kept_from : new.kept_from ≡ old.kept_from

same_history : (old new : Session) → new ≡ old → Lengthens old new
same_history old new is = record {
  more = [];
  history = ap (λ (s : Session). s.history) is ∙ sym (append-nil old.history);
  kept_from = ap (λ (s : Session). s.kept_from) is;
}

both : (old between new : Session) → Lengthens old between → Lengthens between new → Lengthens old new
both old between new a b = record {
  more = a.more ++ b.more;
  history = b.history ∙ ap (λ (h : List HistoryEntry). h ++ b.more) a.history ∙ append_assoc old.history a.more b.more;
  kept_from = b.kept_from ∙ a.kept_from;
}

act_longer : (old : Session) (act : Act) → Lengthens old (after_act old act)
act_longer old act = record { more = map (done_entry act.thread) (act.start ∷ act.steps); history = refl; kept_from = refl }

pub are_acts_longer : (old : Session) (acts : List Act) (new : Session) → AreActs old acts new → Lengthens old new
are_acts_longer old [] new are = same_history old new are
are_acts_longer old (act ∷ acts) new are = both old (after_act old act) new (act_longer old act) (are_acts_longer (after_act old act) acts new are.2)

stops_longer : (old : Session) (count : ℕ) (told : List Report) (new : Session) → StopsActing old count told new → Lengthens old new
stops_longer old count told new stops = elim stops [
  | inl ended ↦ same_history old new ended.2
  | inr r ↦ record {
    more = [];
    history = ap (λ (s : Session). s.history) r.same ∙ sym (append-nil old.history);
    kept_from = ap (λ (s : Session). s.kept_from) r.same;
  }
]

follows_longer : (old : Session) (thread : ℕ) (call : Call) (sv : Servers) (told : List Report) (new : Session) → Follows old thread call sv told new → Lengthens old new
follows_longer old thread call sv told new f =
    both old f.between new
    (both old (after_act old f.own) f.between (act_longer old f.own) (are_acts_longer (after_act old f.own) f.acts f.between f.are))
    (stops_longer f.between (length f.acts) f.last new f.stops)

enters_longer : (old : Session) (line thread : ℕ) (call : Call) (sv : Servers) (told : List Report) (new : Session) → Enters old line thread call sv told new → Lengthens old new
enters_longer old line thread call sv told new e = elim e [
  | inl f ↦ follows_longer old thread call sv told new f
  | inr r ↦ same_history old new r.2.1
]

wait_longer : (old : Session) (thread : ℕ) (cause : CancelCause) (told : List Report) (new : Session) → WaitEnds old thread cause told new → Lengthens old new
wait_longer old thread cause told new w =
    both old w.between new
    (both old (after_cancel old w.own) w.between (record { more = done_entry 0 w.own ∷ []; history = refl; kept_from = refl }) (are_acts_longer (after_cancel old w.own) w.acts w.between w.are))
    (stops_longer w.between (length w.acts) w.last new w.stops)

adds_longer : (old : Session) (line thread : ℕ) (entry : Entry) (space : Option ℕ) (told refused : List Report) (new : Session)
    → MatchOption space ((told ≡ refused) × (new ≡ old)) (λ _. RegionAdded old thread entry told new ⊎ RefusesFor (RegionFails old.servers thread entry) region_refusal old line told new) → Lengthens old new
adds_longer old line thread entry None told refused new a = same_history old new a.1
adds_longer old line thread entry (Some space) told refused new a = elim a [
  | inl added ↦ record {
    more = [];
    history = ap (λ (s : Session). s.history) added.2 ∙ sym (append-nil old.history);
    kept_from = ap (λ (s : Session). s.kept_from) added.2;
  }
  | inr not ↦ same_history old new not.2.1
]

carries_longer : (names : Names) (old : Session) (line : ℕ) (request : Request) (told : List Report) (new : Session) → CarriesOut names old line request told new → Lengthens old new
carries_longer names old line (Enter thread call) told new c = enters_longer old line thread call old.servers told new c
carries_longer names old line (CreateThread number call) told new c = elim c [
  | inl e ↦
      let l = enters_longer (record old { numbers = with_number old.numbers number }) line root call old.servers told new e in
      record { more = l.more; history = l.history; kept_from = l.kept_from }
  | inr lacks ↦ same_history old new lacks.1.1
]
carries_longer names old line (EndThread thread) told new c = enters_longer old line root (delete_call thread) (without old.servers thread) told new c
carries_longer names old line (SendPlan thread to which region) told new c = elim c [
  | inl sends ↦ enters_longer old line thread _ old.servers told new sends.2
  | inr none ↦ same_history old new none.2.1
]
carries_longer names old line (ListPages thread first count) told new c = same_history old new c.1
carries_longer names old line (TellParent thread page) told new c = same_history old new c.1
carries_longer names old line (AddRegion thread entry) told new c = adds_longer old line thread entry (space_of old.machine.threads thread) told _ new c
carries_longer names old line (ServeThread thread) told new c = elim c [
  | inl f ↦ follows_longer old thread waiting (with_served old.servers thread) told new f
  | inr not ↦ elim not [
    | inl r ↦ same_history old new r.2.1
    | inr lacks ↦ same_history old new lacks.lacks.1
  ]
]
carries_longer names old line (GiveName name thread) told new c = same_history old new c.1
carries_longer names old line (TellReply thread) told new c = same_history old new c.1
carries_longer names old line (CancelWait thread cause) told new c = elim c [
  | inl w ↦ wait_longer old thread cause told new w
  | inr r ↦ same_history old new r.2.1
]
carries_longer names old line TellSteps told new c = record {
  more = [];
  history = ap (λ (s : Session). s.history) c.4 ∙ sym (append-nil old.history);
  kept_from = ap (λ (s : Session). s.kept_from) c.4;
}
carries_longer names old line BeginUnordered told new c = same_history old new c.1
carries_longer names old line BeginFinally told new c = same_history old new c.1
carries_longer names old line StateRule told new c = same_history old new c.1

pub line_longer : (old : State) (line : ℕ) (asked : Result (Option Request) Unread) (told : List Report) (new : State) → AnswersLine old line asked told new → Lengthens old.session new.session
line_longer old line (Ok None) told new a = same_history old.session new.session (ap (λ (s : State). s.session) a.1)
line_longer old line (Ok (Some request)) told new a = carries_longer old.names old.session line request told new.session a.0
line_longer old line (Err unread) told new a = same_history old.session new.session (ap (λ (s : State). s.session) a.1)
