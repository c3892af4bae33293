-- States that were searched, by their keys.
use Rattle.std.proofs.Common.{◌≡◌, ℕ, Bool, List, [], ◌∷◌, ◌++◌, sym, subst, ◌∙◌, inl, inr}
use Rattle.std.proofs.lemmas.List.Elements.{Contains-push_cases}
use Rattle.l4_merges.specs.declared.found.Found.{Found}
use Rattle.l4_merges.specs.declared.graph.Seen.{Seen}
use Rattle.l4_merges.specs.Orders.{IsComplete, CountsOrders, KeepsFound}
use Rattle.l4_merges.specs.Graphs.{IsNode, IsNoted, IsPlacedAt, AreExplored}
use Rattle.l4_merges.proofs.Covering.{all_still}
use Rattle.l4_merges.proofs.Drawing.{node_at, node_more, placed_more}

module _ {S : Type 0} (enabled : S → ℕ → Bool) (Turns : S → ℕ → S → Type 0) (name : S → ℕ → ℕ) (HasOutcome : S → List ℕ → Type 0) (HasKey : S → List ℕ → Type 0) where
  pub explored_still : (Kin : S → Type 0) (seen : List Seen) (before after : List Found) → KeepsFound before after → (more : List Found) × (after ≡ before ++ more)
      → AreExplored enabled Turns name HasOutcome HasKey Kin seen before → AreExplored enabled Turns name HasOutcome HasKey Kin seen after
  explored_still Kin seen before after still grown all one has s akin is =
      let known = all one has s akin is in
      (all_still enabled Turns HasOutcome s before after still known.0, known.1, node_more enabled Turns name HasOutcome (IsPlacedAt HasKey seen) s before after one grown known.2)

  -- the state whose key was noted is the only one of its system with this key
  pub explored_push : (Akin : S → S → Type 0) (one_state : (s t : S) (key : List ℕ) → Akin s t → HasKey s key → HasKey t key → s ≡ t) (seen : List Seen) (s : S) (noted : Seen) (found : List Found)
      → HasKey s noted.key.items → AreExplored enabled Turns name HasOutcome HasKey (Akin s) seen found → IsComplete enabled Turns HasOutcome s found → CountsOrders enabled Turns s noted.orders
      → IsNode enabled Turns name HasOutcome (IsPlacedAt HasKey seen) s found noted → AreExplored enabled Turns name HasOutcome HasKey (Akin s) (seen ++ noted ∷ []) found
  explored_push Akin one_state seen s noted found is all here counts node one has t akin also =
      elim (Contains-push_cases seen noted one has) [
        | inl old ↦
            let known = all one old t akin also in
            (known.0, known.1, node_at enabled Turns name HasOutcome (IsPlacedAt HasKey seen) (IsPlacedAt HasKey (seen ++ noted ∷ [])) t found one (λ thread u k turns. placed_more HasKey seen (noted ∷ []) u k) known.2)
        | inr same ↦
            let state : s ≡ t = one_state s t noted.key.items akin is (subst (λ (k : Seen). HasKey t k.key.items) (sym same) also) in (
              subst (λ (v : S). IsComplete enabled Turns HasOutcome v found) state here,
              subst (λ (k : Seen). CountsOrders enabled Turns t k.orders) same (subst (λ (v : S). CountsOrders enabled Turns v noted.orders) state counts),
              subst (λ (k : Seen). IsNode enabled Turns name HasOutcome (IsPlacedAt HasKey (seen ++ noted ∷ [])) t found k) same
                  (subst (λ (v : S). IsNode enabled Turns name HasOutcome (IsPlacedAt HasKey (seen ++ noted ∷ [])) v found noted) state
                  (node_at enabled Turns name HasOutcome (IsPlacedAt HasKey seen) (IsPlacedAt HasKey (seen ++ noted ∷ [])) s found noted (λ thread u k turns. placed_more HasKey seen (noted ∷ []) u k) node)),
            )
      ]

  pub explored_at : (Kin : S → Type 0) (seen also : List Seen) (found too : List Found) → also ≡ seen → too ≡ found → AreExplored enabled Turns name HasOutcome HasKey Kin seen found → AreExplored enabled Turns name HasOutcome HasKey Kin also too
  explored_at Kin seen also found too e f all =
      subst (λ (l : List Found). AreExplored enabled Turns name HasOutcome HasKey Kin also l) (sym f) (subst (λ (l : List Seen). AreExplored enabled Turns name HasOutcome HasKey Kin l found) (sym e) all)

  -- the same states, described otherwise
  pub explored_among : (Kin Other : S → Type 0) (seen : List Seen) (found : List Found) → ((s : S) → Other s → Kin s) → AreExplored enabled Turns name HasOutcome HasKey Kin seen found → AreExplored enabled Turns name HasOutcome HasKey Other seen found
  explored_among Kin Other seen found within all one has s other is = all one has s (within s other) is

  -- a state that was noted was searched
  pub noted_is : (Kin : S → Type 0) (seen : List Seen) (s : S) (key items : List ℕ) (place : ℕ) (found : List Found) → items ≡ key → Kin s → HasKey s key → IsNoted seen items place
      → AreExplored enabled Turns name HasOutcome HasKey Kin seen found → IsComplete enabled Turns HasOutcome s found
  noted_is Kin seen s key items place found e kin is among all =
      (all among.0 (place, among.1, among.2) s kin (subst (λ (l : List ℕ). HasKey s l) (sym (among.3 ∙ e)) is)).0

  -- and has its place
  pub noted_at : (seen : List Seen) (s : S) (key items : List ℕ) (place : ℕ) → items ≡ key → HasKey s key → IsNoted seen items place → IsPlacedAt HasKey seen s place
  noted_at seen s key items place e is among = (among.0, among.1, among.2, subst (λ (l : List ℕ). HasKey s l) (sym (among.3 ∙ e)) is)

  -- where its orders are counted
  pub placed_counts : (Kin : S → Type 0) (seen : List Seen) (found : List Found) (s : S) (place : ℕ) → Kin s → AreExplored enabled Turns name HasOutcome HasKey Kin seen found → (is : IsPlacedAt HasKey seen s place)
      → CountsOrders enabled Turns s is.0.orders
  placed_counts Kin seen found s place kin all is = (all is.0 (place, is.1, is.2) s kin is.3).1
