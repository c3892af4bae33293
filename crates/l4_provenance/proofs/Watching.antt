-- What is known of a page, entry by entry.
use Rattle.std.proofs.Common.{◌≡◌, ◌↔◌, ℕ, ◌+◌, ◌<◌, ◌≤◌, ◌⊎◌, Bool, true, false, inl, inr, List, length, take, slice_get, Some, Result, Ok, Err, IfOk, IfErr, MatchResult, IsTrue, refl, sym, subst, nat_lt, arith}
use Rattle.std.proofs.lemmas.Bool.{false≢true}
use Rattle.std.proofs.lemmas.Bool.Decides.{nat_tests}
use Rattle.std.proofs.lemmas.Option.{slice_get_within}
use Rattle.l4_fpage.specs.declared.sizes.PageSize.{PageSize}
use Rattle.l4_mapdb.specs.declared.Place.{Place}
use Rattle.l4_mapdb.specs.Mappings.{IsForest, IsPresent}
use Rattle.l4_ipc.specs.Machine.{Machine}
use Rattle.l4_record.specs.declared.entries.Entry.{Entry}
use Rattle.l4_record.specs.declared.faults.ReplayFault.{ReplayFault}
use Rattle.l4_record.specs.declared.faults.ReplayFault.TheVariants.{BadFrames, NoMemory, OtherAnswer}
use Rattle.l4_record.specs.History.{HasEvents}
use Rattle.l4_record.specs.Inside.Walking.{Does}
use Rattle.l4_record.specs.Replays.{IsBootWith, FailsAt, StopsIn, IsNotReplayed}
use Rattle.l4_record.proofs.Laws.{no_events, events_more}
use Rattle.l4_record.proofs.Replayed.{take_zero, with_next, done_fails, stops_by_step}
use Rattle.l4_provenance.specs.Removals.{IsAbsentAt, IsRemoval}
use Rattle.l4_provenance.specs.Inside.Watching.{Knows, Watched, first_removal, gone, next_removal}
use Rattle.l4_provenance.specs.declared.removing.Removal.{Removal}
use Rattle.l4_provenance.specs.declared.removing.Removal.TheVariants.{Present, Never, By}

-- before the first entry
no_entries : (boot : Machine) (history : List Entry) → IsForest boot.mappings → HasEvents boot (take 0 history) boot
no_entries boot history forest = subst (λ (es : List Entry). HasEvents boot es boot) (sym (take_zero history)) (no_events boot forest)

pub watched_first : (boot : Machine) (history : List Entry) (place : Place) (is : Bool) → IsForest boot.mappings → IsTrue is ↔ IsPresent boot.mappings place → Watched boot history 0 boot place (first_removal is)
watched_first boot history place true forest same = record { within = omega arith; events = no_entries boot history forest; knows = same.0 refl }
watched_first boot history place false forest same = record {
  within = omega arith;
  events = no_entries boot history forest;
  knows = λ n le.
      (let zero : 0 ≡ n = omega (arith, le) in
      subst (IsAbsentAt boot history place) zero (boot, no_entries boot history forest, λ there. false≢true (same.1 there)));
}

either : (n count : ℕ) → n ≤ count + 1 → (n ≤ count) ⊎ (count + 1 ≡ n)
either n count le =
    elim (nat_lt count n) as (λ b. nat_lt count n ≡ b → (n ≤ count) ⊎ (count + 1 ≡ n)) [
      | true ↦ λ e. let lt : count < n = grind (arith, nat_tests) in inr (omega (arith, le, lt))
      | false ↦ λ e. inl (grind (arith, nat_tests))
    ] refl

module _ (boot : Machine) (history : List Entry) (number : ℕ) (now after : Machine) (place : Place) (entry : Entry) (at : slice_get history number ≡ Some entry) (does : Does now entry after) where
  entries_more : (last : Removal) → Watched boot history number now place last → IsForest after.mappings → HasEvents boot (take (number + 1) history) after
  entries_more last w forest =
      subst (λ (es : List Entry). HasEvents boot es after) (sym (with_next history number entry at)) (events_more boot (take number history) now entry after w.events does forest)

  -- the page is absent after the entry
  gone_on : (last : Removal) → Watched boot history number now place last → IsForest after.mappings → ¬ (IsPresent after.mappings place) → Knows boot history (number + 1) after place (gone number last)
  gone_on Present w forest not = (
    omega arith,
    (now, w.events, w.knows),
    λ n lt le. (let same : number + 1 ≡ n = omega (arith, lt, le) in subst (IsAbsentAt boot history place) same (after, entries_more Present w forest, not)),
  )
  gone_on Never w forest not = λ n le.
      elim (either n number le) [
        | inl less ↦ w.knows n less
        | inr same ↦ subst (IsAbsentAt boot history place) same (after, entries_more Never w forest, not)
      ]
  gone_on (By earlier) w forest not = (
    let lt : earlier < number = w.knows.0 in omega (arith, lt),
    w.knows.1,
    λ n lt le. elim (either n number le) [
      | inl less ↦ w.knows.2 n lt less
      | inr same ↦ subst (IsAbsentAt boot history place) same (after, entries_more (By earlier) w forest, not)
    ],
  )

  knows_next : (last : Removal) (is : Bool) → Watched boot history number now place last → IsForest after.mappings → IsTrue is ↔ IsPresent after.mappings place
      → Knows boot history (number + 1) after place (next_removal number is last)
  knows_next last true w forest same = same.0 refl
  knows_next last false w forest same = gone_on last w forest (λ there. false≢true (same.1 there))

  pub watched_next : (last : Removal) (is : Bool) → Watched boot history number now place last → IsForest after.mappings → IsTrue is ↔ IsPresent after.mappings place
      → Watched boot history (number + 1) after place (next_removal number is last)
  watched_next last is w forest same = record {
    within = let lt : number < length history = slice_get_within history number entry at in omega (arith, lt);
    events = entries_more last w forest;
    knows = knows_next last is w forest same;
  }

-- if the step of the next entry fails
pub watch_fails : (boot : Machine) (history : List Entry) (number : ℕ) (now other : Machine) (place : Place) (entry : Entry) → slice_get history number ≡ Some entry → (last : Removal) → Watched boot history number now place last
    → (fault : ReplayFault) → FailsAt number now entry other fault → StopsIn boot history other fault
watch_fails boot history number now other place entry at last w fault h = done_fails boot history number now other entry at (record { within = w.within; events = w.events }) fault h

-- at the end
all_known : (boot : Machine) (history : List Entry) (now : Machine) (place : Place) (removal : Removal) → Watched boot history (length history) now place removal → IsRemoval boot history place removal
all_known boot history now place Present w = (now, w.events, w.knows)
all_known boot history now place Never w = w.knows
all_known boot history now place (By number) w = record { below = w.knows.0; before = w.knows.1; since = w.knows.2 }

module _ (frames : ℕ) (size : PageSize) (boot now : Machine) (history : List Entry) (place : Place) (boots : IsBootWith frames size boot) where
  pub found_removal : (r : Result Removal ReplayFault) → IfOk r (Watched boot history (length history) now place) → IfErr r (StopsIn boot history now)
      → MatchResult r (λ found. (b : Machine) × IsBootWith frames size b × IsRemoval b history place found) (IsNotReplayed frames size history)
  found_removal (Ok removal) f e = (boot, boots, all_known boot history now place removal f)
  found_removal (Err BadFrames) f e = absurd (stops_by_step boot history now e)
  found_removal (Err NoMemory) f e = (boots.0.some, boots.0.few)
  found_removal (Err (OtherAnswer n)) f e = (boot, boots, (now, e))
