-- The graph of the states that a search visits (this profile's own).
use Rattle.std.specs.Prelude.{◌≡◌, ℕ, ◌<◌, Bool, true, List, ◌++◌, length, get_or, Option, Some, None, Contains}
use Rattle.std.specs.List.{AllPairs}
use Rattle.l4_merges.specs.declared.found.Found.{Found}
use Rattle.l4_merges.specs.declared.graph.Edge.{Edge}
use Rattle.l4_merges.specs.declared.graph.Seen.{Seen}
use Rattle.l4_merges.specs.Orders.{IsRun, IsOver, IsComplete, CountsOrders}

-- the outcome is at this place among those that were found
abbrev pub IsFoundAt : List Found → List ℕ → ℕ → Type 0
IsFoundAt found outcome place = (one : Found) × (place < length found) × (get_or found place one ≡ one) × (one.outcome.items ≡ outcome)

-- an outcome of the state is at this place among those that were found
abbrev pub HasOutcomeAt : {S : Type 0} → (S → List ℕ → Type 0) → S → List Found → ℕ → Type 0
HasOutcomeAt HasOutcome s found place = (outcome : List ℕ) × IsFoundAt found outcome place × HasOutcome s outcome

-- No thread can take a turn in the state, and its outcome is at this place. If there is no place, a thread can take a turn.
abbrev pub IsEnd : {S : Type 0} → (S → ℕ → Bool) → (S → List ℕ → Type 0) → S → List Found → Option ℕ → Type 0
IsEnd enabled HasOutcome s found None = (thread : ℕ) × (enabled s thread ≡ true)
IsEnd enabled HasOutcome s found (Some place) = IsOver enabled s × HasOutcomeAt HasOutcome s found place

-- these are the turns that threads can take in the state, each once and with its name, and with the place of a state that it leads to
pub record AreEdges {S : Type 0} (enabled : S → ℕ → Bool) (Turns : S → ℕ → S → Type 0) (name : S → ℕ → ℕ) (At : S → ℕ → Type 0) (s : S) (edges : List Edge) : Type 0 where
  pub each : (edge : Edge) → Contains edges edge → (enabled s edge.thread ≡ true) × (edge.name ≡ name s edge.thread) × ((t : S) × Turns s edge.thread t × At t edge.to)
  pub all : (thread : ℕ) → enabled s thread ≡ true → (edge : Edge) × Contains edges edge × (edge.thread ≡ thread)
  pub once : AllPairs (λ a b. a.thread ≡ b.thread → ⊥) edges

-- the entry has the turns that threads can take in the state, or the place of its outcome
pub record IsNode {S : Type 0} (enabled : S → ℕ → Bool) (Turns : S → ℕ → S → Type 0) (name : S → ℕ → ℕ) (HasOutcome : S → List ℕ → Type 0) (At : S → ℕ → Type 0) (s : S) (found : List Found) (one : Seen) : Type 0 where
  pub edges : AreEdges enabled Turns name At s one.edges.items
  pub end : IsEnd enabled HasOutcome s found one.end

-- THE GRAPH OF A STATE. Each entry represents a state that a run from it reaches: the entry at this place for the state itself. The edges of an
-- entry are the turns in its state, and an entry without edges has the outcome of its state. So every state that a run reaches has an entry.
pub record IsGraph {S : Type 0} (enabled : S → ℕ → Bool) (Turns : S → ℕ → S → Type 0) (name : S → ℕ → ℕ) (HasOutcome : S → List ℕ → Type 0) (start : S) (found : List Found) (seen : List Seen) (place : ℕ) : Type 0 where
  pub states : ℕ → S
  pub within : place < length seen
  pub first : states place ≡ start
  pub reached : (k : ℕ) → k < length seen → (path : List ℕ) × IsRun enabled Turns start path (states k)
  pub nodes : (k : ℕ) (one : Seen) → k < length seen → get_or seen k one ≡ one → IsNode enabled Turns name HasOutcome (λ t to. (to < length seen) × (states to ≡ t)) (states k) found one

-- no two entries have the same key
abbrev pub AreToldApart : List Seen → Type 0
AreToldApart seen = AllPairs (λ a b. a.key.items ≡ b.key.items → ⊥) seen

-- ---- while the search runs

-- the entry at this place has a key of the state
abbrev pub IsPlacedAt : {S : Type 0} → (S → List ℕ → Type 0) → List Seen → S → ℕ → Type 0
IsPlacedAt HasKey seen s place = (one : Seen) × (place < length seen) × (get_or seen place one ≡ one) × HasKey s one.key.items

-- the entry at this place has this key
abbrev pub IsNoted : List Seen → List ℕ → ℕ → Type 0
IsNoted seen key place = (one : Seen) × (place < length seen) × (get_or seen place one ≡ one) × (one.key.items ≡ key)

-- entries were added, each for a state that a run from this one reaches
abbrev pub Grows : {S : Type 0} → (S → ℕ → Bool) → (S → ℕ → S → Type 0) → (S → List ℕ → Type 0) → S → List Seen → List Seen → Type 0
Grows {S} enabled Turns HasKey s before after =
    (more : List Seen) × (after ≡ before ++ more)
    × ((one : Seen) → Contains more one → (path : List ℕ) × (t : S) × IsRun enabled Turns s path t × HasKey t one.key.items)

-- all outcomes of orders from such a state with the key of an entry were found, its orders are counted, and the entry has its turns or its outcome
abbrev pub AreExplored : {S : Type 0} → (S → ℕ → Bool) → (S → ℕ → S → Type 0) → (S → ℕ → ℕ) → (S → List ℕ → Type 0) → (S → List ℕ → Type 0) → (S → Type 0) → List Seen → List Found → Type 0
AreExplored {S} enabled Turns name HasOutcome HasKey Kin seen found =
    (one : Seen) → Contains seen one → (s : S) → Kin s → HasKey s one.key.items
    → IsComplete enabled Turns HasOutcome s found
    × CountsOrders enabled Turns s one.orders × IsNode enabled Turns name HasOutcome (IsPlacedAt HasKey seen) s found one
