-- The turns in a state, found thread by thread, and the graph of all states.
use Rattle.std.proofs.Common.{◌≡◌, ℕ, ◌+◌, ◌<◌, ◌≤◌, ◌⊎◌, ◌↔◌, ◌==◌, Bool, true, false, List, [], ◌∷◌, ◌++◌, length, get_or, refl, sym, ap, subst, ◌∙◌, arith, inl, inr}
use Rattle.std.specs.Prelude.{Contains, Option, Some, None, Result, Ok, Err, IfOk, OnOk}
use Rattle.std.proofs.Math.Seq.{get_or-append_seam}
use Rattle.std.proofs.lemmas.Bool.{false≢true, cases_lt}
use Rattle.std.proofs.lemmas.Bool.Decides.{nat_tests}
use Rattle.std.proofs.lemmas.List.{append-nil, append_assoc, length-append, length_push, get_or_default, get_or_append_left}
use Rattle.std.specs.List.{AllPairs}
use Rattle.std.proofs.lemmas.List.Quantifiers.{all_pairs_push}
use Rattle.std.proofs.lemmas.List.Elements.{Contains-get_or, Contains-append_left, Contains-append_cases, Contains-push, Contains-push_cases}
use Rattle.l4_merges.specs.declared.found.Found.{Found}
use Rattle.l4_merges.specs.declared.graph.Edge.{Edge}
use Rattle.l4_merges.specs.declared.graph.Seen.{Seen}
use Rattle.l4_merges.specs.Orders.{IsRun, IsOver}
use Rattle.l4_merges.specs.Graphs.{IsEnd, AreEdges, IsNode, IsGraph, IsPlacedAt, Grows, AreExplored}

-- PLACES

module _ {S : Type 0} (HasKey : S → List ℕ → Type 0) where
  -- a state keeps its place when entries are added
  pub placed_more : (seen more : List Seen) (s : S) (place : ℕ) → IsPlacedAt HasKey seen s place → IsPlacedAt HasKey (seen ++ more) s place
  placed_more seen more s place is =
      let lt = is.1 in
      (is.0, omega (arith, lt, length-append seen more), get_or_append_left seen more is.0 place lt ∙ is.2, is.3)

  -- the entry that was added last
  pub placed_last : (seen after : List Seen) (one : Seen) (s : S) (place : ℕ) → after ≡ seen ++ one ∷ [] → place ≡ length seen → HasKey s one.key.items → IsPlacedAt HasKey after s place
  placed_last seen after one s place pushed at is =
      subst (λ (n : ℕ). IsPlacedAt HasKey after s n) (sym at) (subst (λ (l : List Seen). IsPlacedAt HasKey l s (length seen)) (sym pushed)
      (one, omega (arith, length_push seen one), get_or-append_seam seen one [] one, is))

  -- the entry that a function added, if it did
  pub placed_kept : {E : Type 0} (r : Result ℕ E) (seen after : List Seen) (one : Seen) (s : S) → OnOk r (after ≡ seen ++ one ∷ []) → IfOk r (λ place. place ≡ length seen) → HasKey s one.key.items
      → IfOk r (λ place. IsPlacedAt HasKey after s place)
  placed_kept (Ok place) seen after one s pushed at is = placed_last seen after one s place pushed at is
  placed_kept (Err e) seen after one s pushed at is = tt

-- a list is empty if its length is tested to be 0
pub when_empty : (b : Bool) (len n : ℕ) → b ≡ (len == 0) → len ≡ n → b ≡ true → n ≡ 0
when_empty b len n is same yes_b = grind (arith, nat_tests)

pub when_not : (b : Bool) (len n : ℕ) → b ≡ (len == 0) → len ≡ n → b ≡ false → n ≡ 0 → ⊥
when_not b len n is same no_b none = grind (arith, nat_tests)

-- TURNS

module _ {S : Type 0} (enabled : S → ℕ → Bool) (Turns : S → ℕ → S → Type 0) (name : S → ℕ → ℕ) where
  -- the turns of the threads below a number
  pub record EdgesBelow (At : S → ℕ → Type 0) (s : S) (below : ℕ) (edges : List Edge) : Type 0 where
    pub each : (edge : Edge) → Contains edges edge → (enabled s edge.thread ≡ true) × (edge.name ≡ name s edge.thread) × ((t : S) × Turns s edge.thread t × At t edge.to)
    pub all : (thread : ℕ) → thread < below → enabled s thread ≡ true → (edge : Edge) × Contains edges edge × (edge.thread ≡ thread)
    pub low : (edge : Edge) → Contains edges edge → edge.thread < below
    pub once : AllPairs (λ a b. a.thread ≡ b.thread → ⊥) edges

  pub no_edges : (At : S → ℕ → Type 0) (s : S) → EdgesBelow At s 0 []
  no_edges At s = record {
    each = λ edge has. let lt = has.1 in absurd (omega (arith, lt));
    all = λ thread lt able. absurd (omega (arith, lt));
    low = λ edge has. let lt = has.1 in absurd (omega (arith, lt));
    once = λ i j d lt within. absurd (omega (arith, within));
  }

  -- a thread that can't go on has no edge
  pub no_edge : (At : S → ℕ → Type 0) (s : S) (thread : ℕ) (edges : List Edge) → enabled s thread ≡ false → EdgesBelow At s thread edges → EdgesBelow At s (thread + 1) edges
  no_edge At s thread edges not is = record {
    each = is.each;
    all = λ other lt able. elim (cases_lt other thread) [
      | inl before ↦ is.all other before able
      | inr past ↦
          let there : other ≡ thread = omega (arith, lt, past) in
          absurd (false≢true (sym not ∙ subst (λ (n : ℕ). enabled s n ≡ true) there able))
    ];
    low = λ edge has. let lt = is.low edge has in omega (arith, lt);
    once = is.once;
  }

  -- one more edge
  pub one_edge : (At Also : S → ℕ → Type 0) (s : S) (thread : ℕ) (edges after : List Edge) (edge : Edge) (t : S) → ((u : S) (k : ℕ) → At u k → Also u k) → after ≡ edges ++ edge ∷ []
      → edge.thread ≡ thread → edge.name ≡ name s thread → enabled s thread ≡ true → Turns s thread t → Also t edge.to → EdgesBelow At s thread edges → EdgesBelow Also s (thread + 1) after
  one_edge At Also s thread edges after edge t to pushed goes named able turns there is =
      subst (λ (l : List Edge). EdgesBelow Also s (thread + 1) l) (sym pushed) (record {
        each = λ other has. elim (Contains-push_cases edges edge other has) [
          | inl old ↦ let one = is.each other old in (one.0, one.1, (one.2.0, one.2.1, to one.2.0 other.to one.2.2))
          | inr same ↦ subst (λ (e : Edge). (enabled s e.thread ≡ true) × (e.name ≡ name s e.thread) × ((u : S) × Turns s e.thread u × Also u e.to)) same
              (subst (λ (n : ℕ). enabled s n ≡ true) (sym goes) able, named ∙ ap (λ (n : ℕ). name s n) (sym goes), (t, subst (λ (n : ℕ). Turns s n t) (sym goes) turns, there))
        ];
        all = λ other lt can. elim (cases_lt other thread) [
          | inl before ↦ let one = is.all other before can in (one.0, Contains-append_left edges (edge ∷ []) one.0 one.1, one.2)
          | inr past ↦ (edge, Contains-push edges edge, goes ∙ at_last other thread lt past)
        ];
        low = λ other has. elim (Contains-push_cases edges edge other has) [
          | inl old ↦ let lt = is.low other old in omega (arith, lt)
          | inr same ↦ (let at : other.thread ≡ thread = ap (λ (e : Edge). e.thread) (sym same) ∙ goes in omega (arith, at))
        ];
        once = all_pairs_push (λ (a b : Edge). a.thread ≡ b.thread → ⊥) edges edge is.once
            (λ k d lt same. let low = is.low (get_or edges k d) (Contains-get_or edges k d lt) in omega (arith, low, same, goes));
      }) where
        at_last : (a b : ℕ) → a < b + 1 → b ≤ a → b ≡ a
        at_last a b lt past = omega (arith, lt, past)

  -- the edges of all threads
  pub all_edges : (At : S → ℕ → Type 0) (threads below : ℕ) (s : S) (edges : List Edge) → threads ≤ below → ((thread : ℕ) → enabled s thread ≡ true → thread < threads)
      → EdgesBelow At s below edges → AreEdges enabled Turns name At s edges
  all_edges At threads below s edges past within is = record {
    each = is.each;
    all = λ thread able. let lt = within thread able in is.all thread (omega (arith, lt, past)) able;
    once = is.once;
  }

  -- no thread can go on from a state without edges
  pub none_goes_on : (At : S → ℕ → Type 0) (s : S) (edges : List Edge) → length edges ≡ 0 → AreEdges enabled Turns name At s edges → IsOver enabled s
  none_goes_on At s edges none is thread = never (enabled s thread) refl where
    never : (b : Bool) → enabled s thread ≡ b → enabled s thread ≡ false
    never false is_b = is_b
    never true is_b = let lt = (is.all thread is_b).1.1 in absurd (omega (arith, lt, none))

  -- some thread can go on from a state with one
  pub some_goes_on : (At : S → ℕ → Type 0) (s : S) (edges : List Edge) → (length edges ≡ 0 → ⊥) → AreEdges enabled Turns name At s edges → (thread : ℕ) × (enabled s thread ≡ true)
  some_goes_on At s [] some is = absurd (some refl)
  some_goes_on At s (edge ∷ edges) some is = (edge.thread, (is.each edge (0, omega arith, refl)).0)

  -- edges that are listed twice are none
  pub edges_once : (At : S → ℕ → Type 0) (s : S) (edges : List Edge) → AreEdges enabled Turns name At s (edges ++ edges) → edges ≡ []
  edges_once At s [] is = refl
  edges_once At s (edge ∷ edges) is =
      absurd (is.once 0 (length (edge ∷ edges)) edge (omega arith) (let size = length-append (edge ∷ edges) (edge ∷ edges) in omega (arith, size))
      (ap (λ (e : Edge). e.thread) (sym (get_or-append_seam (edge ∷ edges) edge edges edge))))

  -- the states that the edges lead to have places in another sense too
  pub edges_at : (At Also : S → ℕ → Type 0) (s : S) (edges : List Edge) → ((thread : ℕ) (t : S) (k : ℕ) → Turns s thread t → At t k → Also t k) → AreEdges enabled Turns name At s edges
      → AreEdges enabled Turns name Also s edges
  edges_at At Also s edges to is = record {
    each = λ edge has. let one = is.each edge has in (one.0, one.1, (one.2.0, one.2.1, to edge.thread one.2.0 edge.to one.2.1 one.2.2));
    all = is.all;
    once = is.once;
  }

-- ENTRIES

module _ {S : Type 0} (enabled : S → ℕ → Bool) (Turns : S → ℕ → S → Type 0) (name : S → ℕ → ℕ) (HasOutcome : S → List ℕ → Type 0) where
  pub node_at : (At Also : S → ℕ → Type 0) (s : S) (found : List Found) (one : Seen) → ((thread : ℕ) (t : S) (k : ℕ) → Turns s thread t → At t k → Also t k)
      → IsNode enabled Turns name HasOutcome At s found one → IsNode enabled Turns name HasOutcome Also s found one
  node_at At Also s found one to is = record { edges = edges_at enabled Turns name At Also s one.edges.items to is.edges; end = is.end }

  end_more : (s : S) (found more : List Found) (end : Option ℕ) → IsEnd enabled HasOutcome s found end → IsEnd enabled HasOutcome s (found ++ more) end
  end_more s found more None is = is
  end_more s found more (Some place) is =
      let at = is.1.1 in
      let lt = at.1 in
      (is.0, (is.1.0, (at.0, omega (arith, lt, length-append found more), get_or_append_left found more at.0 place lt ∙ at.2, at.3), is.1.2))

  -- an entry stays right when outcomes are added
  pub node_more : (At : S → ℕ → Type 0) (s : S) (before after : List Found) (one : Seen) → (more : List Found) × (after ≡ before ++ more)
      → IsNode enabled Turns name HasOutcome At s before one → IsNode enabled Turns name HasOutcome At s after one
  node_more At s before after one grown is = record {
    edges = is.edges;
    end = subst (λ (l : List Found). IsEnd enabled HasOutcome s l one.end) (sym grown.1) (end_more s before grown.0 one.end is.end);
  }

-- GROWTH

module _ {S : Type 0} (enabled : S → ℕ → Bool) (Turns : S → ℕ → S → Type 0) (HasKey : S → List ℕ → Type 0) where
  pub grows_not : (s : S) (seen : List Seen) → Grows enabled Turns HasKey s seen seen
  grows_not s seen = ([], sym (append-nil seen), λ one has. let lt = has.1 in absurd (omega (arith, lt)))

  -- what is added below the state after a turn
  pub grows_turn : (s : S) (thread : ℕ) (t : S) (before between after : List Seen) → enabled s thread ≡ true → Turns s thread t → Grows enabled Turns HasKey s before between
      → Grows enabled Turns HasKey t between after → Grows enabled Turns HasKey s before after
  grows_turn s thread t before between after able turns f g = (
    f.0 ++ g.0,
    g.1 ∙ ap (λ (l : List Seen). l ++ g.0) f.1 ∙ append_assoc before f.0 g.0,
    λ one has. elim (Contains-append_cases f.0 g.0 one has) [
      | inl old ↦ f.2 one old
      | inr new ↦ let there = g.2 one new in (thread ∷ there.0, there.1, (able, (t, turns, there.2)), there.3)
    ],
  )

  -- the entry of the state itself
  pub grows_push : (s : S) (before between after : List Seen) (one : Seen) → after ≡ between ++ one ∷ [] → HasKey s one.key.items → Grows enabled Turns HasKey s before between → Grows enabled Turns HasKey s before after
  grows_push s before between after one pushed is f = (
    f.0 ++ one ∷ [],
    pushed ∙ ap (λ (l : List Seen). l ++ one ∷ []) f.1 ∙ append_assoc before f.0 (one ∷ []),
    λ other has. elim (Contains-push_cases f.0 one other has) [
      | inl old ↦ f.2 other old
      | inr same ↦ ([], s, refl, subst (λ (k : Seen). HasKey s k.key.items) same is)
    ],
  )

  -- a state keeps its place
  pub placed_on : (s : S) (before after : List Seen) (t : S) (place : ℕ) → Grows enabled Turns HasKey s before after → IsPlacedAt HasKey before t place → IsPlacedAt HasKey after t place
  placed_on s before after t place grown is = subst (λ (l : List Seen). IsPlacedAt HasKey l t place) (sym grown.1) (placed_more HasKey before grown.0 t place is)

-- THE GRAPH

module _ {S : Type 0} (enabled : S → ℕ → Bool) (Turns : S → ℕ → S → Type 0) (name : S → ℕ → ℕ) (HasOutcome : S → List ℕ → Type 0) (HasKey : S → List ℕ → Type 0) (Akin : S → S → Type 0) where
  -- a run stays in its system
  pub akin_on : (own : (s : S) → Akin s s) (stays : (s : S) (thread : ℕ) (t : S) → Turns s thread t → (u : S) → Akin s u ↔ Akin t u) (s : S) (path : List ℕ) (t u : S) → IsRun enabled Turns s path t → Akin s u → Akin t u
  akin_on own stays s [] t u run akin = subst (λ (v : S). Akin v u) (sym run) akin
  akin_on own stays s (thread ∷ path) t u run akin = akin_on own stays run.1.0 path t u run.1.2 ((stays s thread run.1.0 run.1.1 u).0 akin)

  pub akin_to : (own : (s : S) → Akin s s) (stays : (s : S) (thread : ℕ) (t : S) → Turns s thread t → (u : S) → Akin s u ↔ Akin t u) (s : S) (path : List ℕ) (t : S) → IsRun enabled Turns s path t → Akin s t
  akin_to own stays s [] t run = subst (λ (v : S). Akin s v) (sym run) (own s)
  akin_to own stays s (thread ∷ path) t run = (stays s thread run.1.0 run.1.1 t).1 (akin_to own stays run.1.0 path t run.1.2)

  pub drawn : (own : (s : S) → Akin s s) (stays : (s : S) (thread : ℕ) (t : S) → Turns s thread t → (u : S) → Akin s u ↔ Akin t u) (one_state : (s t : S) (key : List ℕ) → Akin s t → HasKey s key → HasKey t key → s ≡ t)
      (start : S) (found : List Found) (before seen : List Seen) (place : ℕ) → before ≡ [] → Grows enabled Turns HasKey start before seen → AreExplored enabled Turns name HasOutcome HasKey (Akin start) seen found → IsPlacedAt HasKey seen start place
      → IsGraph enabled Turns name HasOutcome start found seen place
  drawn own stays one_state start found before seen place none grown explored placed = record {
    states = states;
    within = placed.1;
    first = sym (one_state start (states place) placed.0.key.items (akin place placed.1) placed.3 (subst (λ (e : Seen). HasKey (states place) e.key.items) placed.2 (at place placed.1).2));
    reached = λ k lt. ((at k lt).0, (at k lt).1);
    nodes = λ k one lt is. node_at enabled Turns name HasOutcome (IsPlacedAt HasKey seen) (λ t to. (to < length seen) × (states to ≡ t)) (states k) found one (leads k lt)
        (explored one (k, lt, is) (states k) (akin k lt) (subst (λ (e : Seen). HasKey (states k) e.key.items) (entry_is k one lt is) (at k lt).2)).2;
  } where
    entry : ℕ → Seen
    entry k = get_or seen k placed.0

    entry_is : (k : ℕ) (one : Seen) → k < length seen → get_or seen k one ≡ one → entry k ≡ one
    entry_is k one lt is = get_or_default seen k placed.0 one lt ∙ is

    -- the state of an entry
    Stands : ℕ → S → Type 0
    Stands k s = (path : List ℕ) × IsRun enabled Turns start path s × HasKey s (entry k).key.items

    reach : (k : ℕ) → k < length seen → (s : S) × Stands k s
    reach k lt =
        let there = grown.2 (entry k) (subst (λ (l : List Seen). Contains l (entry k)) (grown.1 ∙ ap (λ (l : List Seen). l ++ grown.0) none) (k, lt, get_or_default seen k (entry k) placed.0 lt)) in
        (there.1, (there.0, there.2, there.3))

    pick : (k : ℕ) → (k < length seen) ⊎ (length seen ≤ k) → S
    pick k (inl lt) = (reach k lt).0
    pick k (inr past) = start

    states : ℕ → S
    states k = pick k (cases_lt k (length seen))

    picked : (k : ℕ) → k < length seen → (c : (k < length seen) ⊎ (length seen ≤ k)) → Stands k (pick k c)
    picked k lt (inl also) = (reach k also).1
    picked k lt (inr past) = absurd (omega (arith, lt, past))

    at : (k : ℕ) → k < length seen → Stands k (states k)
    at k lt = picked k lt (cases_lt k (length seen))

    akin : (k : ℕ) → k < length seen → Akin start (states k)
    akin k lt = akin_to own stays start (at k lt).0 (states k) (at k lt).1

    leads : (k : ℕ) → k < length seen → (thread : ℕ) (t : S) (to : ℕ) → Turns (states k) thread t → IsPlacedAt HasKey seen t to → (to < length seen) × (states to ≡ t)
    leads k lt thread t to turns there = (
      there.1,
      sym (one_state t (states to) there.0.key.items ((stays (states k) thread t turns (states to)).0 (akin_on own stays start (at k lt).0 (states k) (states to) (at k lt).1 (akin to there.1)))
          there.3 (subst (λ (e : Seen). HasKey (states to) e.key.items) (entry_is to there.0 there.1 there.2) (at to there.1).2)),
    )
