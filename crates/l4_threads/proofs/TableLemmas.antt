-- The table of threads with their numbers: what is found there, and another state of one thread.
use Rattle.std.proofs.Common.{◌≡◌, ◌≢◌, ℕ, suc, zero, ◌+◌, ◌<◌, ◌==◌, true, false, cond, ◌||◌, if◌then◌else◌, [], ◌∷◌, map, length, Option, Some, None, is_some, refl, sym, ap, ◌∙◌, slice_get, slice_set, slice_index_or, arith, inl, inr, ◌⊎◌, eq-eqb}
use Rattle.std.specs.Option.{option_map}
use Rattle.std.specs.Ordering.{nat_cmp, eq_by_cmp}
use Rattle.std.specs.Cmp.{unsigned_tied, nat_cmp_total}
use Rattle.std.proofs.lemmas.Map.Lookups.{exact_unsigned}
use Rattle.std.proofs.lemmas.Bool.Decides.{eqb_tells}
use Rattle.std.proofs.lemmas.Bool.{false≢true}
use Rattle.std.specs.FinMap as fin
use Rattle.std.specs.List.{refill}
use Rattle.std.proofs.lemmas.Grind.{common_steps}
use Rattle.std.proofs.lemmas.Option.{get_or_from_slice_get}
use Rattle.l4_threads.specs.declared.Thread.{Thread}
use Rattle.l4_threads.specs.Inside.Entries.{Entries, found, IsAt, changed_in}
use Rattle.l4_threads.specs.Queue.{is_in, IsOnce}

-- two numbers are equal, or they aren't
pub same_or : (a b : ℕ) → (a ≡ b) ⊎ (a ≢ b)
same_or a b = elim (eqb_tells a b) [ inl h ↦ inl h.1 | inr h ↦ inr h.1 ]

pub differ : (a b : ℕ) → a ≢ b → (a == b) ≡ false
differ a b ne = elim (eqb_tells a b) [ inl h ↦ absurd (ne h.1) | inr h ↦ h.0 ]

pub same_of : (a b : ℕ) → (a == b) ≡ true → a ≡ b
same_of a b t = elim (eqb_tells a b) [ inl h ↦ h.1 | inr h ↦ absurd (false≢true (sym h.0 ∙ t)) ]

pub found_here : (e : ℕ × Thread) (es : Entries) (q : ℕ) → q ≡ e.0 → found (e ∷ es) q ≡ Some e.1
found_here e es q h = ap (λ b. cond b (Some e.1) (found es q)) (unsigned_tied q e.0 ∙ eq-eqb q e.0 h)

pub found_further : (e : ℕ × Thread) (es : Entries) (q : ℕ) → q ≢ e.0 → found (e ∷ es) q ≡ found es q
found_further e es q h = ap (λ b. cond b (Some e.1) (found es q)) (unsigned_tied q e.0 ∙ differ q e.0 h)

-- what is found stands somewhere
pub found_at : (es : Entries) (q : ℕ) (t : Thread) → found es q ≡ Some t → (i : ℕ) × (slice_get es i ≡ Some (q, t))
found_at [] q t h = absurd (let k : ◌≡◌ {A = Option Thread} None (Some t) = h in cc)
found_at (e ∷ es) q t h =
    elim (same_or q e.0) [
      | inl is ↦
          let k : ◌≡◌ {A = Option Thread} (Some e.1) (Some t) = sym (found_here e es q is) ∙ h in
          let v : e.1 ≡ t = cc in
          (0, λ i. Some (sym is i, v i))
      | inr ne ↦ let r = found_at es q t (sym (found_further e es q ne) ∙ h) in (suc r.0, r.1)
    ]

-- a number that stands nowhere isn't found
pub found_none : (es : Entries) (q : ℕ) → ((i : ℕ) (e : ℕ × Thread) → slice_get es i ≡ Some e → e.0 ≢ q) → found es q ≡ None
found_none [] q h = refl
found_none (e ∷ es) q h = found_further e es q (λ is. h 0 e refl (sym is)) ∙ found_none es q (λ i a at. h (suc i) a at)

-- the first entry of a number is the one that is found
pub found_first : (es : Entries) (q at : ℕ) (t : Thread) → slice_get es at ≡ Some (q, t) → ((i : ℕ) (e : ℕ × Thread) → i < at → slice_get es i ≡ Some e → e.0 ≢ q) → found es q ≡ Some t
found_first [] q at t there first = absurd (let k : ◌≡◌ {A = Option (ℕ × Thread)} None (Some (q, t)) = there in cc)
found_first (e ∷ es) q zero t there first =
    let k : ◌≡◌ {A = Option (ℕ × Thread)} (Some e) (Some (q, t)) = there in
    let v : e ≡ (q, t) = cc in
    found_here e es q (sym (ap (λ x. x.0) v)) ∙ ap (λ (x : ℕ × Thread). Some x.1) v
found_first (e ∷ es) q (suc at) t there first =
    found_further e es q (λ is. first 0 e (omega arith) refl (sym is))
    ∙ found_first es q at t there (λ i a lt h. first (suc i) a (omega arith) h)

-- to write at the first entry of a number is to change that thread
pub changed_at : (es : Entries) (n at : ℕ) (t : Thread) (f : Thread → Thread) → slice_get es at ≡ Some (n, t) → ((i : ℕ) (e : ℕ × Thread) → i < at → slice_get es i ≡ Some e → e.0 ≢ n) → slice_set es at (n, f t) ≡ changed_in es n f
changed_at [] n at t f there first = absurd (let k : ◌≡◌ {A = Option (ℕ × Thread)} None (Some (n, t)) = there in cc)
changed_at (e ∷ es) n zero t f there first =
    let k : ◌≡◌ {A = Option (ℕ × Thread)} (Some e) (Some (n, t)) = there in
    let v : e ≡ (n, t) = cc in
    ap (λ (x : ℕ × Thread). (x.0, f x.1) ∷ es) (sym v)
    ∙ ap (λ b. if b then (e.0, f e.1) ∷ es else e ∷ changed_in es n f) (sym (eq-eqb n e.0 (sym (ap (λ x. x.0) v))))
changed_at (e ∷ es) n (suc at) t f there first =
    ap (λ rest. e ∷ rest) (changed_at es n at t f there (λ i a lt h. first (suc i) a (omega arith) h))
    ∙ ap (λ b. if b then (e.0, f e.1) ∷ es else e ∷ changed_in es n f) (sym (differ n e.0 (λ is. first 0 e (omega arith) refl (sym is))))

-- the table's numbers stay
pub numbers-changed_in : (es : Entries) (n : ℕ) (f : Thread → Thread) → map (λ e. e.0) (changed_in es n f) ≡ map (λ e. e.0) es
numbers-changed_in [] n f = refl
numbers-changed_in (e ∷ es) n f =
    elim (n == e.0) as (λ b. map (λ x. x.0) (if b then (e.0, f e.1) ∷ es else e ∷ changed_in es n f) ≡ e.0 ∷ map (λ x. x.0) es) [
      | true ↦ refl
      | false ↦ ap (λ rest. e.0 ∷ rest) (numbers-changed_in es n f)
    ]

pub length-changed_in : (es : Entries) (n : ℕ) (f : Thread → Thread) → length (changed_in es n f) ≡ length es
length-changed_in [] n f = refl
length-changed_in (e ∷ es) n f =
    elim (n == e.0) as (λ b. length (if b then (e.0, f e.1) ∷ es else e ∷ changed_in es n f) ≡ suc (length es)) [
      | true ↦ refl
      | false ↦ ap suc (length-changed_in es n f)
    ]

pub found-changed_in : (es : Entries) (n : ℕ) (f : Thread → Thread) → found (changed_in es n f) n ≡ option_map f (found es n)
found-changed_in [] n f = refl
found-changed_in (e ∷ es) n f =
    elim (same_or n e.0) [
      | inl is ↦
          ap (λ b. found (if b then (e.0, f e.1) ∷ es else e ∷ changed_in es n f) n) (eq-eqb n e.0 is)
          ∙ found_here (e.0, f e.1) es n is ∙ ap (option_map f) (sym (found_here e es n is))
      | inr ne ↦
          ap (λ b. found (if b then (e.0, f e.1) ∷ es else e ∷ changed_in es n f) n) (differ n e.0 ne)
          ∙ found_further e (changed_in es n f) n ne ∙ found-changed_in es n f ∙ ap (option_map f) (sym (found_further e es n ne))
    ]

pub found-changed_in_other : (es : Entries) (n : ℕ) (f : Thread → Thread) (q : ℕ) → q ≢ n → found (changed_in es n f) q ≡ found es q
found-changed_in_other [] n f q ne = refl
found-changed_in_other (e ∷ es) n f q ne =
    elim (n == e.0) as (λ b. n == e.0 ≡ b → found (if b then (e.0, f e.1) ∷ es else e ∷ changed_in es n f) q ≡ found (e ∷ es) q) [
      | true ↦ λ is.
          let out : q ≢ e.0 = λ h. ne (h ∙ sym (same_of n e.0 is)) in
          found_further (e.0, f e.1) es q out ∙ sym (found_further e es q out)
      | false ↦ λ _. ap (λ rest. cond (eq_by_cmp nat_cmp q e.0) (Some e.1) rest) (found-changed_in_other es n f q ne)
    ] refl

-- a change of one thread, as the map of threads sees it
pub map-changed_in : (es : Entries) (n : ℕ) (t : Thread) (f : Thread → Thread) → found es n ≡ Some t → fin.from_entries {R = nat_cmp} (changed_in es n f) ≡ fin.insert (fin.from_entries es) n (f t)
map-changed_in es n t f there =
    fin.same_map nat_cmp_total exact_unsigned _ _ (λ q.
    fin.get-from_entries nat_cmp_total (changed_in es n f) q
    ∙ each q
    ∙ sym (fin.get-insert nat_cmp_total (fin.from_entries es) n (f t) q ∙ ap (cond (eq_by_cmp nat_cmp q n) (Some (f t))) (fin.get-from_entries nat_cmp_total es q))) where
      each : (q : ℕ) → found (changed_in es n f) q ≡ cond (eq_by_cmp nat_cmp q n) (Some (f t)) (found es q)
      each q =
          elim (same_or q n) [
            | inl is ↦
                ap (found (changed_in es n f)) is ∙ found-changed_in es n f ∙ ap (option_map f) there
                ∙ ap (λ b. cond b (Some (f t)) (found es q)) (sym (unsigned_tied q n ∙ eq-eqb q n is))
            | inr ne ↦
                found-changed_in_other es n f q ne
                ∙ ap (λ b. cond b (Some (f t)) (found es q)) (sym (unsigned_tied q n ∙ differ q n ne))
          ]

-- a number that isn't among those of the table isn't found
pub found_absent : (es : Entries) (n : ℕ) → is_in (map (λ e. e.0) es) n ≡ false → found es n ≡ None
found_absent [] n h = refl
found_absent (e ∷ es) n h =
    elim (same_or n e.0) [
      | inl is ↦ absurd (false≢true (sym h ∙ ap (λ b. b || is_in (map (λ x. x.0) es) n) (eq-eqb n e.0 is)))
      | inr ne ↦ found_further e es n ne ∙ found_absent es n (sym (ap (λ b. b || is_in (map (λ x. x.0) es) n) (differ n e.0 ne)) ∙ h)
    ]

-- as many threads are there as the table has entries
pub map-length : (es : Entries) → IsOnce (map (λ e. e.0) es) → fin.len (fin.from_entries {R = nat_cmp} es) ≡ length es
map-length [] once = fin.len-empty nat_cmp Thread
map-length (e ∷ es) once =
    let none : fin.get (fin.from_entries {R = nat_cmp} es) e.0 ≡ None = fin.get-from_entries nat_cmp_total es e.0 ∙ found_absent es e.0 once.0 in
    let rest = map-length es once.1 in
    fin.len-insert nat_cmp_total (fin.from_entries es) e.0 e.1
    ∙ ap (λ (o : Option Thread). cond (is_some o) (fin.len (fin.from_entries {R = nat_cmp} es)) (fin.len (fin.from_entries {R = nat_cmp} es) + 1)) none
    ∙ omega arith

-- a slice that was lent and keeps its length is what the list has afterwards
pub refill_same : (es ws : Entries) (size : ℕ) → size ≡ length es → length ws ≡ length es → refill size es ws ≡ ws
refill_same es ws size all same = ap (λ (n : ℕ). refill n es ws) all ∙ grind (arith, common_steps)

-- the entry at a place is written over
pub written_change : (es : Entries) (n at : ℕ) (f : Thread → Thread) (x : ℕ × Thread) → x ≡ slice_index_or es at x → IsAt es n at → slice_set es at (x.0, f x.1) ≡ changed_in es n f
written_change es n at f x is first =
    let it : x ≡ (n, first.thread) = is ∙ get_or_from_slice_get es at (n, first.thread) x first.there in
    (λ i. slice_set es at ((it i).0, f (it i).1)) ∙ changed_at es n at first.thread f first.there first.first
