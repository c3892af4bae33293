-- Chains along the entries are chains along the events.
use Rattle.std.proofs.Common.{◌≡◌, ℕ, suc, ◌<◌, inl, inr, List, [], ◌∷◌, map, Option, Some, None, Ok, Result, IsTrue, is_some, refl, sym, ap, ◌∙◌, subst, arith}
use Rattle.std.specs.List.{All}
use Rattle.std.proofs.lemmas.Bool.{false≢true}
use Rattle.std.proofs.lemmas.List.Elements.{All-head, All-tail}
use Rattle.l4_mapdb.specs.declared.Place.{Place}
use Rattle.l4_mapdb.specs.declared.Mapping.{Mapping}
use Rattle.l4_mapdb.specs.Mappings.{Mappings, IsPresent, shown}
use Rattle.l4_ipc.specs.declared.steps.Answer.{Answer}
use Rattle.l4_ipc.specs.declared.steps.Refused.{Refused}
use Rattle.l4_ipc.specs.declared.steps.Step.{Step}
use Rattle.l4_ipc.specs.Events.{Event, IsTrace}
use Rattle.l4_ipc.specs.Machine.{Machine, IsBoot}
use Rattle.l4_ipc.specs.Provenance.{Link, Brings, LeavesAlone, Leads, HasProvenance}
use Rattle.l4_ipc.specs.Steps.{Steps}
use Rattle.l4_ipc.proofs.Provenances.{have_provenance}
use Rattle.l4_ipc.proofs.Tracing.{AreForests, one_trace}
use Rattle.l4_record.specs.declared.entries.Entry.{Entry}
use Rattle.l4_record.specs.History.{steps_of, answers_of, KeepsForest, HasEvents}
use Rattle.l4_record.specs.declared.links.ChainLink.{ChainLink}
use Rattle.l4_record.specs.Chains.{told, LeadsAsTold, IsProvenance, origin_of}
use Rattle.l4_record.specs.Inside.Walking.{entry_event, Does, IsNotDue, Passes, PassesAll, IsWalked}

-- FROM ENTRIES TO EVENTS

pub record Told (number : ℕ) (old : Machine) (entries : List Entry) (new : Machine) (first : Place) (links : List ChainLink) (last : Place) : Type 0 where
  pub events : List Event
  pub trace : IsTrace old (steps_of entries) (answers_of entries) events new
  pub leads : LeadsAsTold number events first links last

told_as : (number : ℕ) (link : ChainLink) (l : Link) → link.entry ≡ number → link ≡ told link.entry l → link ≡ told number l
told_as number link l entry is = is ∙ ap (λ (n : ℕ). told n l) entry

passed_leads : (number : ℕ) (old after : Machine) (entry : Entry) (events : List Event) (first next last : Place) (links rest : List ChainLink) → Passes number old entry after first links next rest
    → LeadsAsTold (suc number) events next rest last → LeadsAsTold number (entry_event old entry after ∷ events) first links last
passed_leads number old after entry events first next last links rest passes leads =
    elim passes [
      | inl p ↦ inl (p.1, subst (λ (l : List ChainLink). LeadsAsTold (suc number) events first l last) p.3 (subst (λ (q : Place). LeadsAsTold (suc number) events q rest last) p.2 leads))
      | inr p ↦
          let l : Link = p.3.brought in
          let is : p.0 ≡ told number l = told_as number p.0 l p.2 p.3.is_told in
          let target : next ≡ l.move.target = p.5 ∙ ap (λ (c : ChainLink). c.target) is in
          inr (
            l,
            rest,
            p.1 ∙ ap (λ (c : ChainLink). c ∷ rest) is,
            p.3.brings,
            sym (ap (λ (c : ChainLink). c.source) is) ∙ p.4,
            subst (λ (q : Place). LeadsAsTold (suc number) events q rest last) target leads,
          )
    ]

pub passes_told : (entries : List Entry) (number : ℕ) (old new : Machine) (first last : Place) (links : List ChainLink) → PassesAll number old entries new first links last
    → Told number old entries new first links last
passes_told [] number old new first last links h = record { events = []; trace = record { steps_are = refl; answers_are = refl; follow = h.0 }; leads = (h.1, h.2) }
passes_told (entry ∷ entries) number old new first last links h =
    let later : Told (suc number) h.0 entries new h.2 h.3 last = passes_told entries (suc number) h.0 new h.2 last h.3 h.5 in
    record {
      events = entry_event old entry h.0 ∷ later.events;
      trace = record {
        steps_are = ap (λ (s : List Step). entry.step ∷ s) later.trace.steps_are;
        answers_are = ap (λ (a : List (Result Answer Refused)). Ok entry.answer ∷ a) later.trace.answers_are;
        follow = (refl, h.1, later.trace.follow);
      };
      leads = passed_leads number old h.0 entry later.events first h.2 last links h.3 h.4 later.leads;
    }

-- FROM EVENTS TO ENTRIES

-- the links of later entries are not due before
not_due : (events : List Event) (number before : ℕ) (first last : Place) (links : List ChainLink) → before < number → LeadsAsTold number events first links last → IsNotDue before links
not_due [] number before first last links lt h = subst (IsNotDue before) (sym h.0) tt
not_due (event ∷ events) number before first last links lt h =
    elim h [
      | inl x ↦ not_due events (suc number) before first last links (omega (arith, lt)) x.1
      | inr x ↦ subst (IsNotDue before) (sym x.2) (λ (same : number ≡ before). omega (arith, lt, same))
    ]

led_passes : (number : ℕ) (event : Event) (old : Machine) (entry : Entry) (events : List Event) (first last : Place) (links : List ChainLink) → event ≡ entry_event old entry event.after
    → LeadsAsTold number (event ∷ events) first links last
    → (next : Place) × (rest : List ChainLink) × Passes number old entry event.after first links next rest × LeadsAsTold (suc number) events next rest last
led_passes number event old entry events first last links is leads =
    elim leads [
      | inl x ↦ (
        first,
        links,
        inl (not_due events (suc number) number first last links (omega arith) x.1, subst (λ (e : Event). LeavesAlone e first) is x.0, refl, refl),
        x.1,
      )
      | inr x ↦ (
        x.0.move.target,
        x.1,
        inr (told number x.0, x.2, refl, record { brought = x.0; brings = subst (λ (e : Event). Brings e x.0) is x.3; is_told = refl }, x.4, refl),
        x.5,
      )
    ]

pub told_passes : (entries : List Entry) (events : List Event) (number : ℕ) (old new : Machine) (first last : Place) (links : List ChainLink)
    → IsTrace old (steps_of entries) (answers_of entries) events new → LeadsAsTold number events first links last → PassesAll number old entries new first links last
told_passes [] [] number old new first last links t h = (t.follow, h.0, h.1)
told_passes [] (event ∷ events) number old new first last links t h = absurd (let k : ◌≡◌ {A = List Step} (event.step ∷ map (λ event. event.step) events) [] = t.steps_are in cc)
told_passes (entry ∷ entries) [] number old new first last links t h = absurd (let k : ◌≡◌ {A = List Step} [] (entry.step ∷ steps_of entries) = t.steps_are in cc)
told_passes (entry ∷ entries) (event ∷ events) number old new first last links t h =
    let steps : ◌≡◌ {A = List Step} (event.step ∷ map (λ event. event.step) events) (entry.step ∷ steps_of entries) = t.steps_are in
    let answers : ◌≡◌ {A = List (Result Answer Refused)} (event.answer ∷ map (λ event. event.answer) events) (Ok entry.answer ∷ answers_of entries) = t.answers_are in
    let step : event.step ≡ entry.step = cc in
    let answer : event.answer ≡ Ok entry.answer = cc in
    let rest_steps : map (λ event. event.step) events ≡ steps_of entries = cc in
    let rest_answers : map (λ event. event.answer) events ≡ answers_of entries = cc in
    let is : event ≡ entry_event old entry event.after = λ i. record { before = t.follow.0 i; step = step i; answer = answer i; after = event.after } in
    let does : Does old entry event.after = subst (λ (e : Event). Steps e.before e.step e.answer e.after) is t.follow.1 in
    let rest_trace : IsTrace event.after (steps_of entries) (answers_of entries) events new = record { steps_are = rest_steps; answers_are = rest_answers; follow = t.follow.2 } in
    let p = led_passes number event old entry events first last links is h in
    (event.after, does, p.0, p.1, p.2, told_passes entries events (suc number) event.after new p.0 last p.1 rest_trace p.3)

-- WHERE A CHAIN BEGINS

pub passed_origin : (entries : List Entry) (number : ℕ) (old new : Machine) (first last : Place) (links : List ChainLink) → PassesAll number old entries new first links last → first ≡ origin_of links last
passed_origin [] number old new first last links h = h.2 ∙ ap (λ (l : List ChainLink). origin_of l last) (sym h.1)
passed_origin (entry ∷ entries) number old new first last links h =
    elim h.4 [
      | inl p ↦ sym p.2 ∙ passed_origin entries (suc number) h.0 new h.2 last h.3 h.5 ∙ ap (λ (l : List ChainLink). origin_of l last) p.3
      | inr p ↦ sym p.4 ∙ ap (λ (l : List ChainLink). origin_of l last) (sym p.1)
    ]

-- A PROVENANCE

shown_in : (o : Option Mapping) → IsTrue (is_some o) → (m : Mapping) × (o ≡ Some m)
shown_in (Some m) h = (m, refl)
shown_in None h = absurd (false≢true h)

-- the links of the run, of which the list has the data
record Forgotten (events : List Event) (first last : Place) : Type 0 where
  pub links : List Link
  pub leads : Leads events first links last

forget : (events : List Event) (number : ℕ) (first last : Place) (links : List ChainLink) → LeadsAsTold number events first links last → Forgotten events first last
forget [] number first last links h = record { links = []; leads = (refl, h.1) }
forget (event ∷ events) number first last links h =
    elim h [
      | inl x ↦ let f = forget events (suc number) first last links x.1 in record { links = f.links; leads = inl (x.0, f.leads) }
      | inr x ↦ let f = forget events (suc number) x.0.move.target last x.1 x.5 in record { links = x.0 ∷ f.links; leads = inr (x.0, f.links, refl, x.3, x.4, f.leads) }
    ]

shown_of : (s : Mappings) (place : Place) → IsPresent s place → (m : Mapping) × (shown s place ≡ Some m)
shown_of s place present = shown_in (shown s place) present

forests_of : (events : List Event) → All KeepsForest events → AreForests events
forests_of [] h = tt
forests_of (event ∷ events) h =
    let first : KeepsForest event = All-head KeepsForest event events h in
    (first.0, first.1, forests_of events (All-tail KeepsForest event events h))

-- a chain over a whole history is a provenance, if the mappings were a forest at all times
pub is_provenance : (frames : ℕ) (boot : Machine) (history : List Entry) (place : Place) (links : List ChainLink) → IsBoot frames boot → (w : IsWalked boot history place links)
    → HasEvents boot history w.now → IsProvenance boot history place links
is_provenance frames boot history place links boots w h =
    let origin : Place = origin_of links place in
    let t : Told 0 boot history w.now origin links place = passes_told history 0 boot w.now origin place links w.passes in
    let same_events : h.events ≡ t.events = one_trace boot (steps_of history) (answers_of history) h.events t.events w.now w.now h.trace t.trace in
    let forests : AreForests t.events = subst AreForests same_events (forests_of h.events h.each) in
    let shows = shown_of w.now.mappings place w.present in
    let has : HasProvenance boot.mappings t.events w.now.mappings place shows.0 = have_provenance frames boot w.now t.events boots t.trace.follow forests h.last place shows.0 shows.1 in
    let f : Forgotten t.events origin place = forget t.events 0 origin place links t.leads in
    let same : origin ≡ has.origin = (has.only origin f.links f.leads).0 in
    record {
      events = t.events;
      now = w.now;
      trace = t.trace;
      shows = shows.0;
      at = shows.1;
      has = has;
      leads = subst (λ (p : Place). LeadsAsTold 0 t.events p links place) same t.leads;
    }

-- and a provenance is such a chain
pub of_provenance : (boot : Machine) (history : List Entry) (place : Place) (links : List ChainLink) → IsProvenance boot history place links → IsWalked boot history place links
of_provenance boot history place links p =
    let passes : PassesAll 0 boot history p.now p.has.origin links place = told_passes history p.events 0 boot p.now p.has.origin place links p.trace p.leads in
    let same : p.has.origin ≡ origin_of links place = passed_origin history 0 boot p.now p.has.origin place links passes in
    record {
      now = p.now;
      passes = subst (λ (q : Place). PassesAll 0 boot history p.now q links place) same passes;
      present = ap is_some p.at;
    }
