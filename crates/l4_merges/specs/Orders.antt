-- The orders in which threads can take turns, and their outcomes (this profile's own).
use Rattle.std.specs.Prelude.{◌≡◌, ℕ, Bool, true, false, List, [], ◌∷◌, ◌++◌, length, Contains}
use Rattle.std.specs.List.{AllPairs}
use Rattle.l4_merges.specs.declared.found.Found.{Found}

-- the threads take turns in this order, each when it is enabled, which leads to this state
abbrev pub IsRun : {S : Type 0} → (S → ℕ → Bool) → (S → ℕ → S → Type 0) → S → List ℕ → S → Type 0
IsRun enabled Turns s [] t = t ≡ s
IsRun {S} enabled Turns s (thread ∷ later) t = (enabled s thread ≡ true) × ((between : S) × Turns s thread between × IsRun enabled Turns between later t)

-- no thread is enabled: all have finished, or those that have something left are stuck
abbrev pub IsOver : {S : Type 0} → (S → ℕ → Bool) → S → Type 0
IsOver enabled t = (thread : ℕ) → enabled t thread ≡ false

-- a complete order, and the state at its end
pub record IsOrder {S : Type 0} (enabled : S → ℕ → Bool) (Turns : S → ℕ → S → Type 0) (s : S) (order : List ℕ) (t : S) : Type 0 where
  pub run : IsRun enabled Turns s order t
  pub over : IsOver enabled t

-- this is one of the outcomes that were found
abbrev pub IsFound : List Found → List ℕ → Type 0
IsFound found outcome = (one : Found) × Contains found one × (one.outcome.items ≡ outcome)

-- an outcome of this final state was found
abbrev pub FindsEnd : {S : Type 0} → (S → List ℕ → Type 0) → S → List Found → Type 0
FindsEnd HasOutcome t found = (outcome : List ℕ) × IsFound found outcome × HasOutcome t outcome

-- in this state and in each state that a run from it reaches, a thread's turn leads to one state
abbrev pub LeavesOne : {S : Type 0} → (S → ℕ → Bool) → (S → ℕ → S → Type 0) → S → Type 0
LeavesOne {S} enabled Turns s = (path : List ℕ) (t : S) → IsRun enabled Turns s path t → (thread : ℕ) (u v : S) → Turns t thread u → Turns t thread v → u ≡ v

-- complete: an outcome of the final state of every order was found
abbrev pub IsComplete : {S : Type 0} → (S → ℕ → Bool) → (S → ℕ → S → Type 0) → (S → List ℕ → Type 0) → S → List Found → Type 0
IsComplete {S} enabled Turns HasOutcome s found = LeavesOne enabled Turns s → (order : List ℕ) (t : S) → IsOrder enabled Turns s order t → FindsEnd HasOutcome t found

-- the order that was found with an outcome is a complete order, and its final state has this outcome
abbrev pub IsWitnessed : {S : Type 0} → (S → ℕ → Bool) → (S → ℕ → S → Type 0) → (S → List ℕ → Type 0) → S → Found → Type 0
IsWitnessed {S} enabled Turns HasOutcome s one = (t : S) × IsOrder enabled Turns s one.order.items t × HasOutcome t one.outcome.items

-- sound: each outcome that was found has its order
abbrev pub IsSound : {S : Type 0} → (S → ℕ → Bool) → (S → ℕ → S → Type 0) → (S → List ℕ → Type 0) → S → List Found → Type 0
IsSound enabled Turns HasOutcome s found = (one : Found) → Contains found one → IsWitnessed enabled Turns HasOutcome s one

-- no outcome was found twice
abbrev pub AreDistinct : List Found → Type 0
AreDistinct found = AllPairs (λ a b. a.outcome.items ≡ b.outcome.items → ⊥) found

-- these are all orders from a state, each once
pub record AreOrders {S : Type 0} (enabled : S → ℕ → Bool) (Turns : S → ℕ → S → Type 0) (s : S) (orders : List (List ℕ)) : Type 0 where
  pub each : (order : List ℕ) → Contains orders order → (t : S) × IsOrder enabled Turns s order t
  pub all : (order : List ℕ) (t : S) → IsOrder enabled Turns s order t → Contains orders order
  pub distinct : AllPairs (λ a b. a ≡ b → ⊥) orders

-- the number of orders from a state
abbrev pub CountsOrders : {S : Type 0} → (S → ℕ → Bool) → (S → ℕ → S → Type 0) → S → ℕ → Type 0
CountsOrders enabled Turns s count =
    LeavesOne enabled Turns s → (orders : List (List ℕ)) × AreOrders enabled Turns s orders × (count ≡ length orders)

-- This many different keys, each of a state that a run reaches: the search recognizes states by their keys. No two states of one system have the same
-- key. A state that has several keys can be counted more than once.
pub record Visits {S : Type 0} (enabled : S → ℕ → Bool) (Turns : S → ℕ → S → Type 0) (HasKey : S → List ℕ → Type 0) (s : S) (count : ℕ) : Type 0 where
  pub keys : List (List ℕ)
  pub many : length keys ≡ count
  pub distinct : AllPairs (λ a b. a ≡ b → ⊥) keys
  pub reached : (key : List ℕ) → Contains keys key → (path : List ℕ) × (t : S) × IsRun enabled Turns s path t × HasKey t key

-- each outcome that was found before is among those that were found after
abbrev pub KeepsFound : List Found → List Found → Type 0
KeepsFound before after = (outcome : List ℕ) → IsFound before outcome → IsFound after outcome

-- More was found below the state s, which this path leads to: what was found before is kept at its place. If it was sound for a state at which the path
-- begins, all of it is. If no outcome had been found twice, none was.
pub record FindsOn {S : Type 0} (enabled : S → ℕ → Bool) (Turns : S → ℕ → S → Type 0) (HasOutcome : S → List ℕ → Type 0) (path : List ℕ) (s : S) (before after : List Found) : Type 0 where
  pub still : KeepsFound before after
  pub grows : (more : List Found) × (after ≡ before ++ more)
  pub distinct : AreDistinct before → AreDistinct after
  pub sound : (root : S) → IsRun enabled Turns root path s → IsSound enabled Turns HasOutcome root before → IsSound enabled Turns HasOutcome root after
