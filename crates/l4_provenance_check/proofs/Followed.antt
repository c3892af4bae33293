-- The part of a chain that has been followed.
use Rattle.std.proofs.Common.{◌≡◌, ℕ, suc, ◌+◌, ◌^◌, ◌<◌, ◌≤◌, inl, inr, List, [], ◌∷◌, ◌++◌, length, take, Ok, refl, sym, ap, ◌∙◌, subst, arith}
use Rattle.std.proofs.lemmas.List.{append-nil, length-append, length_push}
use Rattle.std.proofs.Math.Seq.{take-append_seam}
use mathlib.Core.List.{append_assoc}
use Rattle.l4_mapdb.specs.declared.Place.{Place}
use Rattle.l4_mapdb.specs.Mappings.{IsForest, IsPresent}
use Rattle.l4_ipc.specs.Machine.{Machine}
use Rattle.l4_ipc.specs.Runs.{Run}
use Rattle.l4_ipc.proofs.OneState.{one_step}
use Rattle.l4_ipc.proofs.Tracing.{run_of}
use Rattle.l4_record.specs.declared.entries.Entry.{Entry}
use Rattle.l4_record.specs.History.{steps_of, answers_of, HasEvents}
use Rattle.l4_record.proofs.Laws.{no_events, events_more}
use Rattle.l4_record.specs.declared.faults.ReplayFault.{ReplayFault}
use Rattle.l4_record.specs.declared.links.ChainLink.{ChainLink}
use Rattle.l4_record.specs.Inside.Walking.{Does, IsNotDue, Passes, PassesAll, IsWalked}
use Rattle.l4_record.specs.Chains.{origin_of}
use Rattle.l4_record.specs.Replays.{FailsAt, StopsIn}
use Rattle.l4_provenance_check.specs.Inside.Following.{NonePasses, Walked}

-- The earlier entries lead to this machine. The links that are left lead on from the place over the rest exactly if all links lead over the whole history.
pub record Followed (old : Machine) (history : List Entry) (last : Place) (links : List ChainLink) (number : ℕ) (now : Machine) (place : Place) (left : List ChainLink) (rest : List Entry) : Type 0 where
  pub earlier : List Entry
  pub history_is : history ≡ earlier ++ rest
  pub number_is : number ≡ length earlier
  pub events : HasEvents old earlier now
  pub on : (new : Machine) → PassesAll number now rest new place left last → PassesAll 0 old history new (origin_of links last) links last
  pub back : (new : Machine) → PassesAll 0 old history new (origin_of links last) links last → PassesAll number now rest new place left last

module _ (old : Machine) (history : List Entry) (last : Place) (links : List ChainLink) where
  pub followed_first : (number : ℕ) (place : Place) (rest : List Entry) → number ≡ 0 → place ≡ origin_of links last → rest ≡ history → IsForest old.mappings
      → Followed old history last links number old place links rest
  followed_first number place rest zero first is forest = record {
    earlier = [];
    history_is = sym is;
    number_is = zero;
    events = no_events old forest;
    on = λ new h. subst (λ (p : Place). PassesAll 0 old history new p links last) first
        (subst (λ (es : List Entry). PassesAll 0 old es new place links last) is (subst (λ (n : ℕ). PassesAll n old rest new place links last) zero h));
    back = λ new h. subst (λ (n : ℕ). PassesAll n old rest new place links last) (sym zero)
        (subst (λ (es : List Entry). PassesAll 0 old es new place links last) (sym is) (subst (λ (p : Place). PassesAll 0 old history new p links last) (sym first) h));
  }

  module _ (number : ℕ) (now after : Machine) (place next : Place) (left later : List ChainLink) (entry : Entry) (rest others : List Entry) (is : rest ≡ entry ∷ others)
      (f : Followed old history last links number now place left rest) where
    -- the chain passes the entry to one place, with one rest of links
    one_end : (p : Place) (l : List ChainLink) → Passes number now entry after place left p l → Passes number now entry after place left next later → (p ≡ next) × (l ≡ later)
    one_end p l a b =
        elim a [
          | inl x ↦ elim b [
            | inl y ↦ (x.2 ∙ sym y.2, x.3 ∙ sym y.3)
            | inr y ↦ absurd (subst (IsNotDue number) y.1 x.0 y.2)
          ]
          | inr x ↦ elim b [
            | inl y ↦ absurd (subst (IsNotDue number) x.1 y.0 x.2)
            | inr y ↦
                let both : ◌≡◌ {A = List ChainLink} (x.0 ∷ l) (y.0 ∷ later) = sym x.1 ∙ y.1 in
                let link : x.0 ≡ y.0 = cc in
                let tail : l ≡ later = cc in
                (x.5 ∙ ap (λ (k : ChainLink). k.target) link ∙ sym y.5, tail)
          ]
        ]

    pub followed_next : Does now entry after → Passes number now entry after place left next later → IsForest after.mappings
        → Followed old history last links (number + 1) after next later others
    followed_next does passes forest =
        let one : number + 1 ≡ suc number = omega arith in
        let long : length (f.earlier ++ entry ∷ []) ≡ length f.earlier + 1 = length_push f.earlier entry in
        record {
          earlier = f.earlier ++ entry ∷ [];
          history_is = f.history_is ∙ ap (λ (es : List Entry). f.earlier ++ es) is ∙ sym (append_assoc f.earlier (entry ∷ []) others);
          number_is = omega (arith, long, f.number_is);
          events = events_more old f.earlier now entry after f.events does forest;
          on = λ new h.
              (let all : PassesAll number now (entry ∷ others) new place left last =
              (after, does, next, later, passes, subst (λ (n : ℕ). PassesAll n after others new next later last) one h) in
              f.on new (subst (λ (es : List Entry). PassesAll number now es new place left last) (sym is) all));
          back = λ new h.
              (let all : PassesAll number now (entry ∷ others) new place left last = subst (λ (es : List Entry). PassesAll number now es new place left last) is (f.back new h) in
              let same : all.0 ≡ after = one_step now entry.step (Ok entry.answer) all.0 after all.1 does in
              let way : Passes number now entry after place left all.2 all.3 = subst (λ (m : Machine). Passes number now entry m place left all.2 all.3) same all.4 in
              let ends = one_end all.2 all.3 way passes in
              subst (λ (n : ℕ). PassesAll n after others new next later last) (sym one)
              (subst (λ (l : List ChainLink). PassesAll (suc number) after others new next l last) ends.1
              (subst (λ (p : Place). PassesAll (suc number) after others new p all.3 last) ends.0
              (subst (λ (m : Machine). PassesAll (suc number) m others new all.2 all.3 last) same all.5))));
        }

  -- if no entry is left
  module _ (number : ℕ) (now : Machine) (place : Place) (left : List ChainLink) (rest : List Entry) (none : rest ≡ []) (f : Followed old history last links number now place left rest) where
    pub replayed_all : Run old (steps_of history) (answers_of history) now
    replayed_all =
        let whole : f.earlier ≡ history = sym (f.history_is ∙ ap (λ (es : List Entry). f.earlier ++ es) none ∙ append-nil f.earlier) in
        let events : HasEvents old history now = subst (λ (es : List Entry). HasEvents old es now) whole f.events in
        run_of old (steps_of history) (answers_of history) events.events now events.trace

    pub walked_all : left ≡ [] → place ≡ last → IsPresent now.mappings last → Walked old history last links
    walked_all empty there present =
        let whole : f.earlier ≡ history = sym (f.history_is ∙ ap (λ (es : List Entry). f.earlier ++ es) none ∙ append-nil f.earlier) in
        let passes : PassesAll number now rest now place left last = subst (λ (es : List Entry). PassesAll number now es now place left last) (sym none) (refl, empty, there) in
        record {
          walked = record { now = now; passes = f.on now passes; present = present };
          events = subst (λ (es : List Entry). HasEvents old es now) whole f.events;
        }

    pub walked_ends : IsWalked old history last links → (left ≡ []) × (place ≡ last) × IsPresent now.mappings last
    walked_ends w =
        let end : PassesAll number now [] w.now place left last = subst (λ (es : List Entry). PassesAll number now es w.now place left last) none (f.back w.now w.passes) in
        (end.1, end.2, subst (λ (m : Machine). IsPresent m.mappings last) end.0 w.present)

  -- if the chain does not pass the entry, or the entry is not replayed
  module _ (number : ℕ) (now : Machine) (place : Place) (left : List ChainLink) (entry : Entry) (rest others : List Entry) (is : rest ≡ entry ∷ others)
      (f : Followed old history last links number now place left rest) where
    pub stuck : NonePasses number now entry place left → ¬ (IsWalked old history last links)
    stuck none w =
        let all : PassesAll number now (entry ∷ others) w.now place left last = subst (λ (es : List Entry). PassesAll number now es w.now place left last) is (f.back w.now w.passes) in
        none all.0 all.2 all.3 all.1 all.4

    pub fails_in : (after : Machine) (fault : ReplayFault) → FailsAt number now entry after fault → StopsIn old history after fault
    fails_in after fault h = record {
      earlier = f.earlier;
      entry = entry;
      later = others;
      history_is = f.history_is ∙ ap (λ (es : List Entry). f.earlier ++ es) is;
      before = now;
      run = run_of old (steps_of f.earlier) (answers_of f.earlier) f.events.events now f.events.trace;
      fails = subst (λ (n : ℕ). FailsAt n now entry after fault) f.number_is h;
    }

    -- the history up to the entry, including it
    pub done_with : (after : Machine) → Does now entry after → IsForest after.mappings → HasEvents old (take (number + 1) history) after
    done_with after does forest =
        let long : length (f.earlier ++ entry ∷ []) ≡ number + 1 = length_push f.earlier entry ∙ ap (λ (n : ℕ). n + 1) (sym f.number_is) in
        let split : history ≡ (f.earlier ++ entry ∷ []) ++ others = f.history_is ∙ ap (λ (es : List Entry). f.earlier ++ es) is ∙ sym (append_assoc f.earlier (entry ∷ []) others) in
        let first : take (number + 1) history ≡ f.earlier ++ entry ∷ [] =
        ap (λ (es : List Entry). take (number + 1) es) split ∙ ap (λ (n : ℕ). take n ((f.earlier ++ entry ∷ []) ++ others)) (sym long) ∙ take-append_seam (f.earlier ++ entry ∷ []) others in
        subst (λ (es : List Entry). HasEvents old es after) (sym first) (events_more old f.earlier now entry after f.events does forest)

    pub one_more_within : number + 1 ≤ length history
    one_more_within =
        let long : length history ≡ length f.earlier + length (entry ∷ others) =
        ap length (f.history_is ∙ ap (λ (es : List Entry). f.earlier ++ es) is) ∙ length-append f.earlier (entry ∷ others) in
        omega (arith, long, f.number_is)

    -- the number of an entry fits
    pub few : length history < 2 ^ 64 → number + 1 < 2 ^ 64
    few h =
        let long : length history ≡ length f.earlier + length (entry ∷ others) =
        ap length (f.history_is ∙ ap (λ (es : List Entry). f.earlier ++ es) is) ∙ length-append f.earlier (entry ∷ others) in
        omega (arith, long, f.number_is, h)
