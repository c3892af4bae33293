-- Creating a thread: the test, and what is seen of a table that has grown.
use Rattle.std.proofs.Common.{◌≡◌, ℕ, ◌+◌, ◌-◌, ◌<◌, ◌≤◌, ◌^◌, ◌==◌, Bool, true, false, ◌||◌, ◌&&◌, nat_le, nat_lt, if◌then◌else◌, List, [], ◌∷◌, ◌++◌, length, Option, Some, None, is_some, refl, sym, ap, ◌∙◌, arith, option_and_then, option_copied, Bor}
use Rattle.std.specs.Option.{option_map}
use Rattle.std.specs.FinMap as fin
use Rattle.std.proofs.lemmas.Bool.{false≢true}
use Rattle.std.proofs.lemmas.Bool.Decides.{nat_tests}
use Rattle.l4_threads.specs.declared.Thread.{Thread}
use Rattle.l4_threads.specs.declared.ThreadId.{ThreadId}
use Rattle.l4_threads.specs.Threads.{Threads, thread_at, space_of, named, number_of, IsConsistent}
use Rattle.l4_threads.specs.Control.{asks_new, space_for, is_full, CanCreate, created}
use Rattle.l4_threads.specs.Inside.Entries.{Entries, found, IsTable}
use Rattle.l4_threads.specs.Inside.Kept.{threads_of}
use Rattle.l4_threads.proofs.TableLemmas.{map-length}
use Rattle.l4_threads.proofs.BootLemmas.{new_thread, map-grown}

module _ (es : Entries) (queue : List ℕ) (next : ℕ) (t : Threads) (table : IsTable es queue next) (is : threads_of es queue next ≡ t) where
  pub len_seen : fin.len t.threads ≡ length es
  len_seen = ap (λ (t : Threads). fin.len t.threads) (sym is) ∙ map-length es table.once

  pub next_space_seen : t.next_space ≡ next
  next_space_seen = ap (λ (t : Threads). t.next_space) (sym is)

  pub is_full_seen : (new_space : Bool) → is_full t new_space ≡ ((length es == 64) || (new_space && nat_lt (2 ^ 64 - 2) next))
  is_full_seen new_space =
      let few = table.few in
      let full : nat_le 64 (length es) ≡ (length es == 64) = grind (arith, nat_tests) in
      (λ i. nat_le 64 (len_seen i) || (new_space && nat_lt (2 ^ 64 - 2) (next_space_seen i)))
      ∙ ap (λ b. b || (new_space && nat_lt (2 ^ 64 - 2) next)) full

-- a table with one more thread, as it is seen
pub seen_grown : (es : Entries) (queue : List ℕ) (next later : ℕ) (id : ThreadId) (space : ℕ) (pager : ThreadId) → found es (number_of id) ≡ None → later ≡ (if space == next then next + 1 else next)
    → threads_of (es ++ (number_of id, new_thread id space pager) ∷ []) queue later ≡ created (threads_of es queue next) id space pager
seen_grown es queue next later id space pager free grows =
    let all = threads_of es queue next in
    λ i. record {
      threads = map-grown es (number_of id) (new_thread id space pager) free i;
      before = all.before;
      next_space = grows i;
    }

-- what is lent out of nothing
pub copied_none : (lent : Option (Bor Thread)) (o : Option Thread) → option_copied lent ≡ o → is_some lent ≡ false → is_some o ≡ false
copied_none None o is h = ap is_some (sym is)
copied_none (Some t) o is h = absurd (false≢true (sym h))

no_value : (o : Option Thread) → is_some o ≡ false → o ≡ None
no_value None h = refl
no_value (Some t) h = absurd (false≢true (sym h))

or_false_left : (a b : Bool) → (a || b) ≡ false → a ≡ false
or_false_left true b h = h
or_false_left false b h = refl

or_false_right : (a b : Bool) → (a || b) ≡ false → b ≡ false
or_false_right true b h = absurd (false≢true (sym h))
or_false_right false b h = h

-- what a passed test says
pub ready : (t : Threads) (id space : ThreadId) (own : ℕ) → IsConsistent t → is_some (thread_at t (number_of id)) ≡ false → space_for t id space ≡ Some own → is_full t (asks_new id space) ≡ false → CanCreate t id own
ready t id space own holds free found room =
    let few : nat_le 64 (fin.len t.threads) ≡ false = or_false_left _ _ room in
    let left : (asks_new id space && nat_lt (2 ^ 64 - 2) t.next_space) ≡ false = or_false_right (nat_le 64 (fin.len t.threads)) _ room in
    let bound = elim (asks_new id space) as (λ b. (if b then Some t.next_space else option_and_then (space_of t) (named t space)) ≡ Some own → (b && nat_lt (2 ^ 64 - 2) t.next_space) ≡ false → (own ≤ t.next_space) × (own < 2 ^ 64 - 1)) [
      | true ↦ λ f l.
          let k : ◌≡◌ {A = Option ℕ} (Some t.next_space) (Some own) = f in
          let v : t.next_space ≡ own = cc in
          let le : t.next_space ≤ 2 ^ 64 - 2 = grind (arith, nat_tests) in
          (omega arith, omega arith)
      | false ↦ λ f _.
          let lt : own < t.next_space = old_space f in
          let fits = holds.next_space in
          (omega arith, omega arith)
    ] found left in
    record {
      free = no_value _ free;
      room = grind (arith, nat_tests);
      space = bound.0;
      space_fits = bound.1;
    } where
      old_space : option_and_then (space_of t) (named t space) ≡ Some own → own < t.next_space
      old_space h =
          elim (named t space) as (λ o. option_and_then (space_of t) o ≡ Some own → own < t.next_space) [
            | None ↦ λ k. absurd (let e : ◌≡◌ {A = Option ℕ} None (Some own) = k in cc)
            | Some n ↦ λ k.
                elim (thread_at t n) as (λ o. thread_at t n ≡ o → option_map (λ thread. thread.space) o ≡ Some own → own < t.next_space) [
                  | None ↦ λ _ k. absurd (let e : ◌≡◌ {A = Option ℕ} None (Some own) = k in cc)
                  | Some thread ↦ λ at k.
                      let e : ◌≡◌ {A = Option ℕ} (Some thread.space) (Some own) = k in
                      let v : thread.space ≡ own = cc in
                      let lt = holds.space n thread at in
                      omega arith
                ] refl k
          ] h

-- a table with a higher number of the next new space
pub later_table : (es : Entries) (queue : List ℕ) (next later : ℕ) → IsTable es queue next → next ≤ later → later < 2 ^ 64 → IsTable es queue later
later_table es queue next later table rises fits = record {
  once = table.once;
  number = table.number;
  small = table.small;
  space = λ n thread at. let below = table.space n thread at in omega (arith, below, rises);
  few = table.few;
  fits = fits;
  queue_once = table.queue_once;
  queued = table.queued;
}
