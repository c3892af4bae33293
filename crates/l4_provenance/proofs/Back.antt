-- The part of a chain that has been followed back.
use Rattle.std.proofs.Common.{◌≡◌, ℕ, ◌<◌, ◌≤◌, ◌⊎◌, inl, inr, List, [], ◌∷◌, ◌++◌, length, take, reverse, None, sym, ap, ◌∙◌, subst, arith}
use Rattle.std.proofs.lemmas.List.{append-nil, take_all, reverse-append}
use mathlib.Core.List.{append_assoc}
use Rattle.std.specs.FinSet as set
use Rattle.l4_fpage.specs.Rights.{all_rights}
use Rattle.l4_fpage.specs.declared.sizes.PageSize.{PageSize}
use Rattle.l4_mapdb.specs.declared.Place.{Place}
use Rattle.l4_mapdb.specs.declared.Mapping.{Mapping}
use Rattle.l4_forest.specs.Boot.{IsFirst}
use Rattle.l4_mapdb.specs.Mappings.{Mappings, IsPresent, shown}
use Rattle.l4_mapdb.proofs.Places.{same_option, same_mappings}
use Rattle.l4_ipc.specs.Machine.{Machine, IsBoot}
use Rattle.l4_ipc.proofs.Tracing.{only_trace, run_of}
use Rattle.l4_record.specs.declared.entries.Entry.{Entry}
use Rattle.l4_record.specs.History.{steps_of, answers_of, HasEvents}
use Rattle.l4_record.specs.declared.links.ChainLink.{ChainLink}
use Rattle.l4_record.specs.Chains.{IsProvenance, IsAbsent, origin_of}
use Rattle.l4_record.specs.Replays.{IsBootWith}
use Rattle.l4_record.specs.Inside.Walking.{PassesAll, IsWalked}
use Rattle.l4_record.proofs.Walked.{passed_origin, is_provenance}
use Rattle.l4_provenance.specs.Inside.Arrivals.{CameBy, Arrived}
use Rattle.l4_provenance.specs.declared.replaying.Arrival.{Arrival}
use Rattle.l4_provenance.specs.declared.replaying.Arrival.TheVariants.{Absent, AtBoot, By}

-- ONE BOOT, ONE END

one_first : (frames : ℕ) (a b : Mappings) → IsFirst frames a → IsFirst frames b → a ≡ b
one_first frames a b x y =
    same_mappings a b (x.spaces ∙ sym y.spaces)
    (λ p. same_option (λ (m : Mapping). (p.space ≡ 0) × (p.page < frames) × (m ≡ record { frame = p.page; rights = all_rights; parent = None })) (shown a p) (shown b p) (x.places p) (y.places p))

pub one_boot : (frames : ℕ) (a b : Machine) → IsBoot frames a → IsBoot frames b → a.size ≡ b.size → a ≡ b
one_boot frames a b x y size =
    let first : x.first ≡ y.first = one_first frames x.first y.first x.first_is y.first_is in
    let mappings : a.mappings ≡ b.mappings = x.mappings ∙ ap (λ (f : Mappings). record f { spaces = set.insert f.spaces 1 }) first ∙ sym y.mappings in
    let threads : a.threads ≡ b.threads = x.threads ∙ sym y.threads in
    λ i. record { size = size i; threads = threads i; mappings = mappings i }

one_end : (boot : Machine) (es : List Entry) (a b : Machine) → HasEvents boot es a → HasEvents boot es b → b ≡ a
one_end boot es a b h k = ((only_trace boot (steps_of es) (answers_of es) h.events a h.trace).only k.events b k.trace).1

-- BACK FROM THE END

-- The place is present at the end of the history, and the place that was reached is present after this number of entries. A chain to the
-- latter continues with the links that were found, which are in reverse order.
pub record Backed (frames : ℕ) (size : PageSize) (history : List Entry) (place : Place) (count : ℕ) (reached : Place) (found : List ChainLink) : Type 0 where
  pub within : count ≤ length history
  pub boot : Machine
  pub boots : IsBootWith frames size boot
  pub end : Machine
  pub events : HasEvents boot history end
  pub there : IsPresent end.mappings place
  pub now : Machine
  pub done : HasEvents boot (take count history) now
  pub present : IsPresent now.mappings reached
  pub on : (origin : Place) (links : List ChainLink) → PassesAll 0 boot (take count history) now origin links reached → PassesAll 0 boot history end origin (links ++ reverse found) place

-- no link has been found yet
pub record Begins (history : List Entry) (place : Place) (count : ℕ) (reached : Place) (found : List ChainLink) : Type 0 where
  pub all : count ≡ length history
  pub same : reached ≡ place
  pub none : found ≡ []

pub record Back (frames : ℕ) (size : PageSize) (history : List Entry) (place : Place) (count : ℕ) (reached : Place) (found : List ChainLink) : Type 0 where
  pub within : count ≤ length history
  pub is : Begins history place count reached found ⊎ Backed frames size history place count reached found

-- an arrival on a kernel that booted like this
pub record Came (frames : ℕ) (size : PageSize) (history : List Entry) (count : ℕ) (reached : Place) (arrival : Arrival) : Type 0 where
  pub boot : Machine
  pub boots : IsBootWith frames size boot
  pub now : Machine
  pub arrived : Arrived boot history count reached now arrival

module _ (frames : ℕ) (size : PageSize) (history : List Entry) (place : Place) (count : ℕ) (reached : Place) (found : List ChainLink) where
  pub back_first : count ≡ length history → reached ≡ place → found ≡ [] → Back frames size history place count reached found
  back_first all same none = record { within = omega (arith, all); is = inl (record { all = all; same = same; none = none }) }

  -- the same arrival on the kernel that was used before
  moved : (arrival : Arrival) (b : Backed frames size history place count reached found) (c : Came frames size history count reached arrival) → Arrived b.boot history count reached b.now arrival
  moved arrival b c =
      let boot : c.boot ≡ b.boot = one_boot frames c.boot b.boot c.boots.0 b.boots.0 (c.boots.1 ∙ sym b.boots.1) in
      let there : Arrived b.boot history count reached c.now arrival = subst (λ (m : Machine). Arrived m history count reached c.now arrival) boot c.arrived in
      let now : c.now ≡ b.now = one_end b.boot (take count history) b.now c.now b.done there.events in
      subst (λ (m : Machine). Arrived b.boot history count reached m arrival) now there

  all_of : Begins history place count reached found → take count history ≡ history
  all_of b = let all : count ≡ length history = b.all in take_all count history (omega (arith, all))

  backed : (arrival : Arrival) → Back frames size history place count reached found → (c : Came frames size history count reached arrival) → IsPresent c.now.mappings reached
      → Backed frames size history place count reached found
  backed arrival back c present =
      elim back.is [
        | inr b ↦ b
        | inl b ↦ record {
          within = back.within;
          boot = c.boot;
          boots = c.boots;
          end = c.now;
          events = subst (λ (es : List Entry). HasEvents c.boot es c.now) (all_of b) c.arrived.events;
          there = subst (λ (p : Place). IsPresent c.now.mappings p) b.same present;
          now = c.now;
          done = c.arrived.events;
          present = present;
          on = λ origin links chain.
              (let same : links ≡ links ++ reverse found = sym (append-nil links) ∙ ap (λ (l : List ChainLink). links ++ reverse l) (sym b.none) in
              subst (λ (l : List ChainLink). PassesAll 0 c.boot history c.now origin l place) same
              (subst (λ (p : Place). PassesAll 0 c.boot history c.now origin links p) b.same
              (subst (λ (es : List Entry). PassesAll 0 c.boot es c.now origin links reached) (all_of b) chain)));
        }
      ]

  back_by : (link : ChainLink) (b : Backed frames size history place count reached found) → CameBy b.boot history count b.now reached link
      → Backed frames size history place link.entry link.source (found ++ link ∷ [])
  back_by link b a =
      let below : link.entry < count = a.below in
      let within : count ≤ length history = b.within in
      record {
        within = omega (arith, below, within);
        boot = b.boot;
        boots = b.boots;
        end = b.end;
        events = b.events;
        there = b.there;
        now = a.before;
        done = a.events;
        present = a.present;
        on = λ origin links chain.
            (let more : reverse (found ++ link ∷ []) ≡ link ∷ reverse found = reverse-append found (link ∷ []) in
            let same : (links ++ link ∷ []) ++ reverse found ≡ links ++ reverse (found ++ link ∷ []) =
            append_assoc links (link ∷ []) (reverse found) ∙ ap (λ (l : List ChainLink). links ++ l) (sym more) in
            subst (λ (l : List ChainLink). PassesAll 0 b.boot history b.end origin l place) same (b.on origin (links ++ link ∷ []) (a.on origin links chain)));
      }

  pub back_next : (link : ChainLink) → Back frames size history place count reached found → Came frames size history count reached (By link)
      → (link.entry < count) × Back frames size history place link.entry link.source (found ++ link ∷ [])
  back_next link back c =
      let b : Backed frames size history place count reached found = backed (By link) back c c.arrived.how.0 in
      let a = moved (By link) b c in
      let next = back_by link b a.how.1 in
      (a.how.1.below, record { within = next.within; is = inr next })

  pub found_all : Back frames size history place count reached found → Came frames size history count reached AtBoot
      → (boot : Machine) × IsBootWith frames size boot × IsProvenance boot history place (reverse found)
  found_all back c =
      let b : Backed frames size history place count reached found = backed AtBoot back c c.arrived.how.0 in
      let a = moved AtBoot b c in
      let chain : PassesAll 0 b.boot history b.end reached (reverse found) place = b.on reached [] a.how.1 in
      let origin : reached ≡ origin_of (reverse found) place = passed_origin history 0 b.boot b.end reached place (reverse found) chain in
      let walked : IsWalked b.boot history place (reverse found) = record {
        now = b.end;
        passes = subst (λ (p : Place). PassesAll 0 b.boot history b.end p (reverse found) place) origin chain;
        present = b.there;
      } in
      (b.boot, b.boots, is_provenance frames b.boot history place (reverse found) b.boots.0 walked b.events)

  pub found_none : Back frames size history place count reached found → Came frames size history count reached Absent
      → (boot : Machine) × IsBootWith frames size boot × IsAbsent boot history place
  found_none back c =
      elim back.is [
        | inr b ↦ absurd ((moved Absent b c).how b.present)
        | inl b ↦
            let events : HasEvents c.boot history c.now = subst (λ (es : List Entry). HasEvents c.boot es c.now) (all_of b) c.arrived.events in (
              c.boot,
              c.boots,
              record {
                now = c.now;
                run = run_of c.boot (steps_of history) (answers_of history) events.events c.now events.trace;
                absent = subst (λ (p : Place). ¬ (IsPresent c.now.mappings p)) b.same c.arrived.how;
              },
            )
      ]

-- the parts of an arrival's clause
pub came_of : (frames : ℕ) (size : PageSize) (history : List Entry) (count : ℕ) (reached : Place) (arrival : Arrival)
    → (boot : Machine) × IsBootWith frames size boot × ((now : Machine) × Arrived boot history count reached now arrival) → Came frames size history count reached arrival
came_of frames size history count reached arrival h = record { boot = h.0; boots = h.1; now = h.2.0; arrived = h.2.1 }
