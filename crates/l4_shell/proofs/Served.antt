-- A thread is served, or a region is added, and that told.
use Rattle.std.proofs.Common.{◌≡◌, ℕ, Bool, true, false, not, ◌⊎◌, List, [], ◌∷◌, Option, Some, None, Ok, inl, inr, refl, subst, sym, ap, ◌∙◌}
use Rattle.std.specs.Prelude.{IsTrue, MatchOption}
use Rattle.std.specs.Option.{option_map, option_map_or}
use Rattle.std.proofs.lemmas.Bool.{false≢true}
use Rattle.l4_threads.specs.declared.Thread.{Thread}
use Rattle.l4_threads.specs.Threads.{runs, is_running, space_of}
use Rattle.l4_ipc.specs.declared.calls.Call.{Call}
use Rattle.l4_ipc.specs.declared.steps.Step.TheVariants.{Start}
use Rattle.l4_ipc.specs.declared.steps.Answer.{Answer}
use Rattle.l4_ipc.specs.Machine.{Machine}
use Rattle.l4_ipc.specs.Steps.{Steps}
use Rattle.l4_pager.specs.Serving.{waiting}
use Rattle.l4_record.specs.Segments.{kept_count}
use Rattle.l4_record.specs.Seated.{Seated, MayEnter}
use Rattle.l4_ipc.specs.declared.steps.Refused.TheVariants.{UnknownThread}
use Rattle.l4_pager.specs.Regions.{CanAdd}
use Rattle.l4_pager.specs.declared.regions.Entry.{Entry}
use Rattle.l4_servers.specs.Servers.{Servers, regions_of, with_region, RegionFails, is_served}
use Rattle.l4_servers.specs.declared.servers.RegionRefusal.{RegionRefusal}
use Rattle.l4_answers.specs.Refusals.{kernel_refusal}
use Rattle.l4_answers.specs.Reports.{Report, RefusedLine, AddedRegion, AddsAll}
use Rattle.l4_shell.specs.Refusals.{lacks_memory, region_refusal}
use Rattle.l4_shell.specs.Inside.Telling.{TellsCall, TellsRefusal}
use Rattle.l4_shell.specs.Sessions.{session, RefusesLine, RefusesFor, Refuses, LacksRoom, ServesThread, AddsRegion, RegionAdded}
use Rattle.l4_shell.proofs.Going.{refuses_on}

pub not_served : (begins was : Bool) → begins ≡ true → begins ≡ not was → was ≡ false
not_served begins true is e = absurd (false≢true (sym e ∙ is))
not_served begins false is e = refl

-- a thread that entered a call ran
pub has_run : (m new : Machine) (n : ℕ) (call : Call) (answer : Answer) → Steps m (Start n call) (Ok answer) new → IsTrue (runs m.threads n)
has_run m new n call answer steps = ap (λ (o : Option Thread). option_map_or is_running (option_map (λ (x : Thread). x.state) o) false) steps.1 ∙ steps.2

-- a call is refused where none may be entered
refused_only : {T : Type 0} (has_told : T → T → List Report → Type 0) (o : Option Bool) (old new : Seated) (line thread : ℕ) (call : Call) (before t : T) → ¬ (MayEnter old.machine (kept_count old.kept_from old.history) old.numbers thread)
    → MatchOption o (TellsRefusal old line thread call new has_told before t) (λ ended. TellsCall old thread call thread ended new has_told before t)
    → TellsRefusal old line thread call new has_told before t
refused_only has_told None old new line thread call before t none h = h
refused_only has_told (Some ended) old new line thread call before t none h =
    let e = h.enters in absurd (none (e.can, has_run old.machine e.started thread call e.answer e.starts))

pub refuses : {T : Type 0} (has_told : T → T → List Report → Type 0) (o : Option Bool) (old new : Seated) (sv : Servers) (line thread : ℕ) (call : Call) (may : Bool) (before t : T) → call ≡ waiting → may ≡ false
    → (MayEnter old.machine (kept_count old.kept_from old.history) old.numbers thread → IsTrue may)
    → MatchOption o (TellsRefusal old line thread call new has_told before t) (λ ended. TellsCall old thread call thread ended new has_told before t)
    → (told : List Report) × (Refuses (session old sv) line thread waiting told (session new sv) ⊎ LacksRoom (session old sv) line thread told (session new sv)) × AddsAll has_told before t told
refuses has_told o old new sv line thread call may before t is none only h =
    let r = refuses_on has_told old new sv sv line thread call waiting before t is refl
    (refused_only has_told o old new line thread call before t (λ m. false≢true (sym none ∙ only m)) h) in (r.0, inl r.1, r.2)

pub lacks : {T : Type 0} (has_told : T → T → List Report → Type 0) (m : Seated) (sv : Servers) (line thread : ℕ) (told : List Report) (before t : T) → is_served sv thread ≡ false
    → MayEnter m.machine (kept_count m.kept_from m.history) m.numbers thread → told ≡ RefusedLine line lacks_memory ∷ [] → AddsAll has_told before t told
    → (told : List Report) × (Refuses (session m sv) line thread waiting told (session m sv) ⊎ LacksRoom (session m sv) line thread told (session m sv)) × AddsAll has_told before t told
lacks has_told m sv line thread told before t first may is tells = (told, inr (record { first = first; may = may; lacks = (is, refl) }), tells)

pub serves_not : {T : Type 0} (has_told : T → T → List Report → Type 0) (old new : Seated) (sv later : Servers) (line thread : ℕ) (before t : T) → later ≡ sv
    → (told : List Report) × (Refuses (session old sv) line thread waiting told (session new sv) ⊎ LacksRoom (session old sv) line thread told (session new sv)) × AddsAll has_told before t told
    → (told : List Report) × ServesThread (session old sv) line thread told (session new later) × AddsAll has_told before t told
serves_not has_told old new sv later line thread before t same r = (
  r.0,
  inr (subst (λ (s : Servers). Refuses (session old sv) line thread waiting r.0 (session new s) ⊎ LacksRoom (session old sv) line thread r.0 (session new s)) (sym same) r.1),
  r.2,
)

pub region_added : {T : Type 0} (has_told : T → T → List Report → Type 0) (m : Seated) (sv later : Servers) (line thread space : ℕ) (entry : Entry) (told : List Report) (before t : T) → Some space ≡ space_of m.machine.threads thread
    → CanAdd (regions_of sv thread) entry × (later ≡ with_region sv thread entry) → told ≡ AddedRegion ∷ [] → AddsAll has_told before t told
    → (told : List Report) × AddsRegion (session m sv) line thread entry told (session m later) × AddsAll has_told before t told
region_added has_told m sv later line thread space entry told before t there added is tells = (
  told,
  subst (λ (o : Option ℕ). MatchOption o (RefusesLine (session m sv) line (kernel_refusal UnknownThread) told (session m later))
      (λ x. RegionAdded (session m sv) thread entry told (session m later) ⊎ RefusesFor (RegionFails sv thread entry) region_refusal (session m sv) line told (session m later))) there
      (inl (added.0, is, ap (session m) added.1)),
  tells,
)

pub region_refused : {T : Type 0} (has_told : T → T → List Report → Type 0) (m : Seated) (sv later : Servers) (line thread space : ℕ) (entry : Entry) (refusal : RegionRefusal) (told : List Report) (before t : T) → Some space ≡ space_of m.machine.threads thread
    → RegionFails sv thread entry refusal × (later ≡ sv) → told ≡ RefusedLine line (region_refusal refusal) ∷ [] → AddsAll has_told before t told
    → (told : List Report) × AddsRegion (session m sv) line thread entry told (session m later) × AddsAll has_told before t told
region_refused has_told m sv later line thread space entry refusal told before t there fails is tells = (
  told,
  subst (λ (o : Option ℕ). MatchOption o (RefusesLine (session m sv) line (kernel_refusal UnknownThread) told (session m later))
      (λ x. RegionAdded (session m sv) thread entry told (session m later) ⊎ RefusesFor (RegionFails sv thread entry) region_refusal (session m sv) line told (session m later))) there
      (inr (refusal, fails.0, (is, ap (session m) fails.1))),
  tells,
)
