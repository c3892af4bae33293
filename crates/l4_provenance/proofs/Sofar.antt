-- What was moved to a place by the entries that were executed.
use Rattle.std.proofs.Common.{◌≡◌, ℕ, ◌+◌, ◌<◌, ◌≤◌, inl, inr, List, [], ◌∷◌, ◌++◌, length, take, slice_get, Option, Some, None, IsTrue, is_some, refl, sym, ap, subst, arith}
use Rattle.std.proofs.lemmas.List.{length-take-le}
use Rattle.std.proofs.lemmas.Option.{slice_get_within}
use Rattle.l4_mapdb.specs.declared.Place.{Place}
use Rattle.l4_mapdb.specs.declared.Mapping.{Mapping}
use Rattle.l4_mapdb.specs.Mappings.{IsForest, IsPresent, shown}
use Rattle.l4_ipc.specs.Machine.{Machine}
use Rattle.l4_ipc.specs.Provenance.{LeavesAlone}
use Rattle.l4_ipc.proofs.Provenances.{left_or_brought}
use Rattle.l4_record.specs.declared.entries.Entry.{Entry}
use Rattle.l4_record.specs.History.{HasEvents}
use Rattle.l4_record.proofs.Laws.{no_events, events_more}
use Rattle.l4_record.specs.declared.faults.ReplayFault.{ReplayFault}
use Rattle.l4_record.specs.declared.links.ChainLink.{ChainLink}
use Rattle.l4_record.specs.Chains.{told}
use Rattle.l4_record.specs.Replays.{FailsAt, StopsIn}
use Rattle.l4_record.specs.Inside.Walking.{entry_event, Does, BringsTold, PassesAll}
use Rattle.l4_record.proofs.Carried.{carried_brings, brings_carried, brings_done}
use Rattle.l4_record.proofs.Replayed.{take_zero, with_next, done_fails}
use Rattle.std.proofs.lemmas.Bool.{false≢true}
use Rattle.l4_provenance.specs.Inside.Arrivals.{Brought, newer, Came, Arrived}
use Rattle.l4_provenance.specs.declared.replaying.Arrival.TheVariants.{By}
use Rattle.l4_provenance.proofs.Snoc.{snoc_alone, snoc_brings}

shown_in : (o : Option Mapping) → IsTrue (is_some o) → (m : Mapping) × (o ≡ Some m)
shown_in (Some m) h = (m, refl)
shown_in None h = absurd (false≢true h)

-- this number of entries has been executed; if the place is present, this is the last link to it
pub record Sofar (boot : Machine) (history : List Entry) (number : ℕ) (now : Machine) (place : Place) (last : Option ChainLink) : Type 0 where
  pub within : number ≤ length history
  pub events : HasEvents boot (take number history) now
  pub came : IsPresent now.mappings place → Came boot history number now place last

pub sofar_first : (boot : Machine) (history : List Entry) (place : Place) → IsForest boot.mappings → Sofar boot history 0 boot place None
sofar_first boot history place forest = record {
  within = omega arith;
  events = subst (λ (es : List Entry). HasEvents boot es boot) (sym (take_zero history)) (no_events boot forest);
  came = λ there. subst (λ (es : List Entry). PassesAll 0 boot es boot place [] place) (sym (take_zero history)) (refl, refl, refl);
}

module _ (boot : Machine) (history : List Entry) (number : ℕ) (now after : Machine) (place : Place) (entry : Entry) (at : slice_get history number ≡ Some entry) (does : Does now entry after) where
  inside : number < length history
  inside = slice_get_within history number entry at

  one_more : take (number + 1) history ≡ take number history ++ entry ∷ []
  one_more = with_next history number entry at

  alone_more : (origin : Place) (links : List ChainLink) → LeavesAlone (entry_event now entry after) place → PassesAll 0 boot (take number history) now origin links place
      → PassesAll 0 boot (take (number + 1) history) after origin links place
  alone_more origin links alone h =
      subst (λ (es : List Entry). PassesAll 0 boot es after origin links place) (sym one_more) (snoc_alone (take number history) 0 boot now after entry origin place links h does alone)

  came_on : LeavesAlone (entry_event now entry after) place → (last : Option ChainLink) → Came boot history number now place last → Came boot history (number + 1) after place last
  came_on alone None h = alone_more place [] alone h
  came_on alone (Some link) h = record {
    below = let lt : link.entry < number = h.below in omega (arith, lt);
    before = h.before;
    events = h.events;
    present = h.present;
    on = λ origin links chain. alone_more origin (links ++ link ∷ []) alone (h.on origin links chain);
  }

  -- a place to which no link leads is left unchanged
  left_alone : Brought number now entry place None → IsPresent after.mappings place → LeavesAlone (entry_event now entry after) place
  left_alone none there =
      let shows = shown_in (shown after.mappings place) there in
      elim (left_or_brought (entry_event now entry after) place shows.0 shows.1 does) [
        | inl w ↦ w.alone
        | inr w ↦ absurd (none (brings_done now after entry w.link w.brings) (told 0 w.link, brings_carried now after entry 0 w.link w.brings, w.target))
      ]

  came_next : (link last : Option ChainLink) → Sofar boot history number now place last → Brought number now entry place link → IsPresent after.mappings place
      → Came boot history (number + 1) after place (newer link last)
  came_next None last f brought there =
      let alone : LeavesAlone (entry_event now entry after) place = left_alone brought there in
      came_on alone last (f.came alone.before)
  came_next (Some link) last f brought there =
      let t : BringsTold now entry after link = carried_brings now after entry link does brought.0 brought.1 in
      let carried = brought.1.5.2 in
      let same : link.entry ≡ number = brought.3 in
      let long : length (take number history) ≡ number = length-take-le number history f.within in
      record {
        below = omega (arith, same);
        before = now;
        events = subst (λ (n : ℕ). HasEvents boot (take n history) now) (sym same) f.events;
        present = ap is_some carried.at;
        on = λ origin links chain.
            (let due : link.entry ≡ 0 + length (take number history) = omega (arith, same, long) in
            let whole : PassesAll 0 boot (take number history) now origin links link.source = subst (λ (n : ℕ). PassesAll 0 boot (take n history) now origin links link.source) same chain in
            subst (λ (p : Place). PassesAll 0 boot (take (number + 1) history) after origin (links ++ link ∷ []) p) brought.2
            (subst (λ (es : List Entry). PassesAll 0 boot es after origin (links ++ link ∷ []) link.target) (sym one_more)
            (snoc_brings (take number history) 0 boot now after entry origin links link whole does t due)));
      }

  pub sofar_next : (link last : Option ChainLink) → Sofar boot history number now place last → Brought number now entry place link → IsForest after.mappings
      → Sofar boot history (number + 1) after place (newer link last)
  sofar_next link last f brought forest = record {
    within = let lt : number < length history = inside in omega (arith, lt);
    events = subst (λ (es : List Entry). HasEvents boot es after) (sym one_more) (events_more boot (take number history) now entry after f.events does forest);
    came = λ there. came_next link last f brought there;
  }

-- at the end, if there was a link
pub sofar_by : (boot : Machine) (history : List Entry) (number count : ℕ) (now : Machine) (place : Place) (last : Option ChainLink) (link : ChainLink) → Sofar boot history number now place last
    → number ≡ count → last ≡ Some link → IsPresent now.mappings place → Arrived boot history count place now (By link)
sofar_by boot history number count now place last link f end is there = record {
  events = subst (λ (n : ℕ). HasEvents boot (take n history) now) end f.events;
  how = (
    there,
    subst (λ (n : ℕ). Came boot history n now place (Some link)) end (subst (λ (o : Option ChainLink). Came boot history number now place o) is (f.came there)),
  );
}

pub fails_in : (boot : Machine) (history : List Entry) (number : ℕ) (now after : Machine) (place : Place) (last : Option ChainLink) (entry : Entry) → slice_get history number ≡ Some entry
    → Sofar boot history number now place last → (fault : ReplayFault) → FailsAt number now entry after fault → StopsIn boot history after fault
fails_in boot history number now after place last entry at f fault h = done_fails boot history number now after entry at (record { within = f.within; events = f.events }) fault h
