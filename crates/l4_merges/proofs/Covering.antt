-- What is found of a state, of what comes from the states after it.
use Rattle.std.proofs.Common.{◌≡◌, ℕ, ◌+◌, ◌<◌, Bool, true, false, List, [], ◌∷◌, ◌++◌, refl, sym, ap, subst, ◌∙◌, arith, inl, inr, get_or}
use Rattle.std.specs.Prelude.{Result, Ok, Err, OnOk, OnErr, Option, Some, None, MatchOption, length}
use Rattle.std.specs.Option.{option_to_list}
use Rattle.std.proofs.lemmas.List.{append-nil, append_assoc, same_from_push, length_push, get_or_default}
use Rattle.std.proofs.Math.Seq.{get_or-append_seam}
use Rattle.std.proofs.lemmas.Bool.{false≢true, cases_lt}
use Rattle.std.proofs.lemmas.List.Quantifiers.{all_pairs_push}
use Rattle.std.proofs.lemmas.List.Elements.{Contains-append_left, Contains-push_cases}
use Rattle.l4_merges.specs.declared.found.Found.{Found}
use Rattle.l4_merges.specs.Graphs.{IsFoundAt, HasOutcomeAt}
use Rattle.l4_merges.specs.Orders.{IsRun, IsOver, IsOrder, FindsEnd, LeavesOne, IsComplete, IsWitnessed, KeepsFound, FindsOn}

-- none of these outcomes is this one
abbrev pub IsNew : List Found → List ℕ → Type 0
IsNew found outcome = (k : ℕ) (d : Found) → k < length found → (get_or found k d).outcome.items ≡ outcome → ⊥

pub new_at : (shown found : List Found) (seen outcome : List ℕ) → shown ≡ found → seen ≡ outcome → IsNew shown seen → IsNew found outcome
new_at shown found seen outcome e f new = subst (λ (l : List ℕ). IsNew found l) f (subst (λ (l : List Found). IsNew l seen) e new)

-- nor is the next one
pub new_more : (outcome : List ℕ) (one : Found) (found : List Found) (index : ℕ) → index < length found → one ≡ get_or found index one → (one.outcome.items ≡ outcome → ⊥)
    → ((k : ℕ) (d : Found) → k < index → (get_or found k d).outcome.items ≡ outcome → ⊥) → (k : ℕ) (d : Found) → k < index + 1 → (get_or found k d).outcome.items ≡ outcome → ⊥
new_more outcome one found index lt here not none = λ k d below same. elim (cases_lt k index) [
  | inl before ↦ none k d before same
  | inr at ↦
      let there : k ≡ index = omega (arith, below, at) in
      let is : get_or found k d ≡ one = ap (λ (n : ℕ). get_or found n d) there ∙ get_or_default found index d one lt ∙ sym here in
      not (sym (ap (λ (f : Found). f.outcome.items) is) ∙ same)
]

module _ {S : Type 0} (enabled : S → ℕ → Bool) (Turns : S → ℕ → S → Type 0) (HasOutcome : S → List ℕ → Type 0) where
  -- a path with one step more
  pub run_more : (root : S) (path : List ℕ) (s : S) (thread : ℕ) (t : S) → IsRun enabled Turns root path s → enabled s thread ≡ true → Turns s thread t → IsRun enabled Turns root (path ++ thread ∷ []) t
  run_more root [] s thread t same able turns =
      subst (λ (r : S). IsRun enabled Turns r (thread ∷ []) t) same (able, (t, turns, refl))
  run_more root (first ∷ path) s thread t run able turns =
      (run.0, (run.1.0, run.1.1, run_more run.1.0 path s thread t run.1.2 able turns))

  end_still : (t : S) (before after : List Found) → KeepsFound before after → FindsEnd HasOutcome t before → FindsEnd HasOutcome t after
  end_still t before after still end = (end.0, still end.0 end.1, end.2)

  -- the orders that begin with this thread's turn have their outcomes found
  pub FindsFrom : S → ℕ → List Found → Type 0
  FindsFrom s thread found = LeavesOne enabled Turns s → (order : List ℕ) (t : S) → IsOrder enabled Turns s (thread ∷ order) t → FindsEnd HasOutcome t found

  -- they are if those of the one state that comes of the turn are
  pub finds_from : (s : S) (thread : ℕ) (u : S) (found : List Found)
      → enabled s thread ≡ true → Turns s thread u → IsComplete enabled Turns HasOutcome u found → FindsFrom s thread found
  unfolding FindsFrom
  finds_from s thread u found able turns all only order t is =
      let same : is.run.1.0 ≡ u = only [] s refl thread is.run.1.0 u is.run.1.1 turns in
      all (λ path v run. only (thread ∷ path) v (able, (u, turns, run))) order t
      (record { run = subst (λ (v : S). IsRun enabled Turns v order t) same is.run.1.2; over = is.over })

  -- a thread that can't go on begins no order
  pub finds_none : (s : S) (thread : ℕ) (found : List Found) → enabled s thread ≡ false → FindsFrom s thread found
  unfolding FindsFrom
  finds_none s thread found not only order t is = absurd (false≢true (sym not ∙ is.run.0))

  pub from_still : (s : S) (thread : ℕ) (before after : List Found) → KeepsFound before after → FindsFrom s thread before → FindsFrom s thread after
  unfolding FindsFrom
  from_still s thread before after still from only order t is = end_still t before after still (from only order t is)

  pub all_still : (s : S) (before after : List Found) → KeepsFound before after → IsComplete enabled Turns HasOutcome s before → IsComplete enabled Turns HasOutcome s after
  all_still s before after still all only order t is = end_still t before after still (all only order t is)

  -- every order of a state in which some thread can go on begins with a thread's turn
  pub finds_all : (threads : ℕ) (s : S) (found : List Found) → ((thread : ℕ) → enabled s thread ≡ true → thread < threads) → ((thread : ℕ) → thread < threads → FindsFrom s thread found)
      → (thread : ℕ) × (enabled s thread ≡ true) → IsComplete enabled Turns HasOutcome s found
  unfolding FindsFrom
  finds_all threads s found within each some only [] t is =
      absurd (false≢true (sym (subst (λ (v : S). enabled v some.0 ≡ false) is.run (is.over some.0)) ∙ some.1))
  finds_all threads s found within each some only (thread ∷ order) t is = each thread (within thread is.run.0) only order t is

  -- a state in which none can has one order, which is empty
  pub finds_over : (threads : ℕ) (s : S) (found : List Found) → ((thread : ℕ) → enabled s thread ≡ true → thread < threads) → ((thread : ℕ) → thread < threads → enabled s thread ≡ false)
      → FindsEnd HasOutcome s found → IsComplete enabled Turns HasOutcome s found
  finds_over threads s found within none here only [] t is = subst (λ (v : S). FindsEnd HasOutcome v found) (sym is.run) here
  finds_over threads s found within none here only (thread ∷ order) t is =
      absurd (false≢true (sym (none thread (within thread is.run.0)) ∙ is.run.0))

  pub is_over : (threads : ℕ) (s : S) → ((thread : ℕ) → enabled s thread ≡ true → thread < threads) → ((thread : ℕ) → thread < threads → enabled s thread ≡ false) → IsOver enabled s
  is_over threads s within none thread = never (enabled s thread) refl where
    never : (b : Bool) → enabled s thread ≡ b → enabled s thread ≡ false
    never false is = is
    never true is = none thread (within thread is)

  -- TELLING ON

  pub on_same : (path : List ℕ) (s : S) (found : List Found) → FindsOn enabled Turns HasOutcome path s found found
  on_same path s found = record { still = λ o is. is; grows = ([], sym (append-nil found)); distinct = λ d. d; sound = λ root run sound. sound }

  pub on_then : (path : List ℕ) (s : S) (a b c : List Found) → FindsOn enabled Turns HasOutcome path s a b → FindsOn enabled Turns HasOutcome path s b c → FindsOn enabled Turns HasOutcome path s a c
  on_then path s a b c f g = record {
    still = λ o is. g.still o (f.still o is);
    grows = (f.grows.0 ++ g.grows.0, g.grows.1 ∙ ap (λ (l : List Found). l ++ g.grows.0) f.grows.1 ∙ append_assoc a f.grows.0 g.grows.0);
    distinct = λ d. g.distinct (f.distinct d);
    sound = λ root run sound. g.sound root run (f.sound root run sound);
  }

  -- what is found on from the state after a turn is found on from the one before it
  pub on_turn : (path : List ℕ) (s : S) (thread : ℕ) (t : S) (before after : List Found) → enabled s thread ≡ true → Turns s thread t → FindsOn enabled Turns HasOutcome (path ++ thread ∷ []) t before after
      → FindsOn enabled Turns HasOutcome path s before after
  on_turn path s thread t before after able turns on = record {
    still = on.still;
    grows = on.grows;
    distinct = on.distinct;
    sound = λ root run sound. on.sound root (run_more root path s thread t run able turns) sound;
  }

  pub on_turned : (path stepped : List ℕ) (s : S) (thread : ℕ) (t : S) (a b d : List Found) → stepped ≡ path ++ thread ∷ [] → enabled s thread ≡ true → Turns s thread t
      → FindsOn enabled Turns HasOutcome path s a b → FindsOn enabled Turns HasOutcome stepped t b d → FindsOn enabled Turns HasOutcome path s a d
  on_turned path stepped s thread t a b d e able turns f h =
      on_then path s a b d f (on_turn path s thread t b d able turns (subst (λ (w : List ℕ). FindsOn enabled Turns HasOutcome w t b d) e h))

  pub on_same_found : (path : List ℕ) (s : S) (a b d : List Found) → d ≡ b → FindsOn enabled Turns HasOutcome path s a b → FindsOn enabled Turns HasOutcome path s a d
  on_same_found path s a b d e on = subst (λ (l : List Found). FindsOn enabled Turns HasOutcome path s a l) (sym e) on

  pub on_same_path : (path also : List ℕ) (s : S) (a b : List Found) → also ≡ path → FindsOn enabled Turns HasOutcome also s a b → FindsOn enabled Turns HasOutcome path s a b
  on_same_path path also s a b e on = subst (λ (w : List ℕ). FindsOn enabled Turns HasOutcome w s a b) e on

  pub all_at : (s : S) (found too : List Found) → too ≡ found → IsComplete enabled Turns HasOutcome s found → IsComplete enabled Turns HasOutcome s too
  all_at s found too e all = subst (λ (l : List Found). IsComplete enabled Turns HasOutcome s l) (sym e) all

  -- one more is found, which the path leads to
  pub on_found : (path : List ℕ) (s : S) (found : List Found) (one : Found) → IsNew found one.outcome.items → IsOver enabled s → one.order.items ≡ path → HasOutcome s one.outcome.items → FindsOn enabled Turns HasOutcome path s found (found ++ one ∷ [])
  on_found path s found one new over order is = record {
    distinct = λ d. all_pairs_push (λ (a b : Found). a.outcome.items ≡ b.outcome.items → ⊥) found one d new;
    still = λ o has. (has.0, Contains-append_left found (one ∷ []) has.0 has.1, has.2);
    grows = (one ∷ [], refl);
    sound = λ root run sound x has. elim (Contains-push_cases found one x has) [
      | inl old ↦ sound x old
      | inr same ↦ subst (λ (v : Found). IsWitnessed enabled Turns HasOutcome root v) same
          (s, record { run = subst (λ (w : List ℕ). IsRun enabled Turns root w s) (sym order) run; over = over }, is)
    ];
  }

module _ {A E : Type 0} where
  -- what holds holds of an answer that is Ok
  pub on_ok : (P : Type 0) (r : Result A E) → P → OnOk r P
  on_ok P (Ok a) holds = holds
  on_ok P (Err e) holds = tt

  pub on_err : (P : Type 0) (r : Result A E) → P → OnErr r P
  on_err P (Ok a) holds = tt
  on_err P (Err e) holds = holds

  pub map_ok : (P Q : Type 0) (r : Result A E) → (P → Q) → OnOk r P → OnOk r Q
  map_ok P Q (Ok a) f holds = f holds
  map_ok P Q (Err e) f holds = tt

module _ {S : Type 0} (HasOutcome : S → List ℕ → Type 0) where
  -- what is shown was found before
  pub end_found : (s : S) (found shown : List Found) (outcome seen : List ℕ) (place : ℕ) → shown ≡ found → seen ≡ outcome → IsFoundAt shown seen place → HasOutcome s outcome → HasOutcomeAt HasOutcome s found place
  end_found s found shown outcome seen place e f has is =
      let here = subst (λ (l : List Found). IsFoundAt l seen place) e has in
      (outcome, (here.0, here.1, here.2, here.3 ∙ f), is)

  -- or it is found now
  pub end_one : (s : S) (room after : List Found) (one : Found) (place : ℕ) → after ≡ room ++ one ∷ [] → place ≡ length room → HasOutcome s one.outcome.items → HasOutcomeAt HasOutcome s after place
  end_one s room after one place e at is =
      subst (λ (n : ℕ). HasOutcomeAt HasOutcome s after n) (sym at) (subst (λ (l : List Found). HasOutcomeAt HasOutcome s l (length room)) (sym e)
      (one.outcome.items, (one, omega (arith, length_push room one), get_or-append_seam room one [] one, refl), is))

  -- either way it is found
  pub end_of : (s : S) (found : List Found) (place : ℕ) → HasOutcomeAt HasOutcome s found place → FindsEnd HasOutcome s found
  end_of s found place is =
      let at = is.1 in
      (is.0, (at.0, (place, at.1, at.2), at.3), is.2)

module _ {S : Type 0} (enabled : S → ℕ → Bool) (Turns : S → ℕ → S → Type 0) (HasOutcome : S → List ℕ → Type 0) (path : List ℕ) (s : S) (found : List Found) where
  pub on_kept : (after : List Found) → after ≡ found → FindsOn enabled Turns HasOutcome path s found after
  on_kept after e = subst (λ (l : List Found). FindsOn enabled Turns HasOutcome path s found l) (sym e) (on_same enabled Turns HasOutcome path s found)

  pub on_one : (room after : List Found) (one : Found) → room ≡ found → after ≡ room ++ one ∷ [] → IsNew found one.outcome.items → IsOver enabled s → one.order.items ≡ path → HasOutcome s one.outcome.items
      → FindsOn enabled Turns HasOutcome path s found after
  on_one room after one e f new over order is =
      subst (λ (l : List Found). FindsOn enabled Turns HasOutcome path s found l) (sym (f ∙ ap (λ (l : List Found). l ++ one ∷ []) e)) (on_found enabled Turns HasOutcome path s found one new over order is)

-- the path without its last turn; n and m are how many turns it has and then has left
pub popped : (path rest front : List ℕ) (last n m : ℕ) (r : Option ℕ) → n ≡ length path → MatchOption r ((n ≡ 0) × (m ≡ 0)) (λ _. m + 1 ≡ n) → path ≡ rest ++ option_to_list r → path ≡ front ++ last ∷ [] → rest ≡ front
popped path rest front last n m None is none e f = absurd (omega (arith, is, none.0, ap length f, length_push front last))
popped path rest front last n m (Some x) is none e f = (same_from_push rest front x last (sym e ∙ f)).0
