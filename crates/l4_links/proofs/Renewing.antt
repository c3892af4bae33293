-- Walks that begin with a stamp of their own: what stands stays, and where the stamps have run out no node keeps one.
use Rattle.std.proofs.Common.{◌≡◌, ◌≢◌, ℕ, Option, Some, None, refl, sym, ap, ◌∙◌, subst, inl, inr}
use Rattle.std.specs.Option.{option_map, option_and_then}
use Rattle.l4_fpage.specs.Rights.{RightsSet}
use Rattle.l4_nodes.specs.declared.nodes.Node.{Node}
use Rattle.l4_nodes.specs.declared.nodes.Slot.{Slot}
use Rattle.l4_links.specs.Leads.{Leads}
use Rattle.l4_links.specs.Inside.Trees.{Limb, parent_at}
use Rattle.l4_nodes.specs.Slots.{Slots, slot_at, node_at, unnoted, unnoted_slot, spot_of}
use Rattle.l4_links.specs.Inside.Nodes.{limbs, Marks, capped_worth, AreUnmarked, IsSame, CapsBelow, NoneMet, Meets}
use Rattle.l4_links.proofs.Writes.{marks_of, doom_of, map_both, limb_of}
use Rattle.l4_nodes.proofs.Joining.{node_in, spot_in}
use Rattle.l4_links.proofs.Seeking.{sources_same}

-- what stays of what a walk finds
pub caps_from_same : (old mid new : Slots) (top : ℕ) (cap : RightsSet) → IsSame old mid → CapsBelow top cap mid new → CapsBelow top cap old new
caps_from_same old mid new top cap s c =
    let to : (k : ℕ) → Leads (parent_at (limbs old)) k top → Leads (parent_at (limbs mid)) k top = λ k l. subst (λ (g : ℕ → Option Limb). Leads (parent_at g) k top) (λ i j. sym (s.limbs_same j) i) l in
    let back : (k : ℕ) → Leads (parent_at (limbs mid)) k top → Leads (parent_at (limbs old)) k top = λ k l. subst (λ (g : ℕ → Option Limb). Leads (parent_at g) k top) (λ i j. s.limbs_same j i) l in
    record {
      limbs_same = λ k. c.limbs_same k ∙ s.limbs_same k;
      links_same = λ k. c.links_same k ∙ s.links_same k;
      spots_same = λ k. c.spots_same k ∙ s.spots_same k;
      decided = λ k. elim (c.decided k) [ inl l ↦ inl (back k l) | inr off ↦ inr (λ l. off (to k l)) ];
      capped = λ k l. c.capped k (to k l) ∙ ap (option_map (capped_worth cap)) (s.values_same k);
      kept = λ k off. c.kept k (λ l. off (back k l)) ∙ s.values_same k;
    }

pub some_node : {o : Option Node} {n : Node} → o ≡ Some n → o ≢ None
some_node {o} {n} some none = absurd (let z : ◌≡◌ {A = Option Node} (Some n) None = sym some ∙ none in cc)

pub there_same : (old new : Slots) (k : ℕ) → IsSame old new → node_at old k ≢ None → node_at new k ≢ None
there_same old new k s there none = elim (node_at old k) as (λ o. node_at old k ≡ o → ⊥) [
  | None ↦ λ e. there e
  | Some n ↦ λ e. absurd (let z : ◌≡◌ {A = Option Limb} None (Some (limb_of n)) = sym (ap (option_map limb_of) none) ∙ s.limbs_same k ∙ ap (option_map limb_of) e in cc)
] refl

pub meets_from_same : (old new : Slots) (k : ℕ) → IsSame old new → Meets k new → Meets k old
meets_from_same old new k s m = (
  m.0,
  (subst (λ (g : ℕ → Option Limb). Leads (parent_at g) m.0 k) (λ i j. s.limbs_same j i) m.1.0, sym (sources_same old new s m.0) ∙ m.1.1),
)

pub none_from_same : (old new : Slots) (k : ℕ) → IsSame old new → NoneMet k new → NoneMet k old
none_from_same old new k s f j l e = f j (subst (λ (g : ℕ → Option Limb). Leads (parent_at g) j k) (λ i a. sym (s.limbs_same a) i) l) (sources_same old new s j ∙ e)

-- nothing is noted of any key any more
abbrev pub Unnotes : Slots → Slots → Type 0
Unnotes old new = (key : ℕ) → slot_at new key ≡ option_map unnoted_slot (slot_at old key)

taken : (old new : Slots) → Unnotes old new → (k : ℕ) → node_at new k ≡ option_map unnoted (node_at old k)
taken old new is k = ap (option_and_then (λ (s : Slot). s.node)) (is k) ∙ node_in unnoted (slot_at old k)

stays : {X : Type 0} (F : Node → X) → ((n : Node) → F (unnoted n) ≡ F n) → (old new : Slots) → Unnotes old new → (k : ℕ) → option_map F (node_at new k) ≡ option_map F (node_at old k)
stays F same old new is k = ap (option_map F) (taken old new is k) ∙ map_both F unnoted same (node_at old k)

pub unmarked_same : (old new : Slots) → Unnotes old new → IsSame old new
unmarked_same old new is = record {
  limbs_same = stays limb_of (λ n. refl) old new is;
  links_same = stays (λ n. record { prev = n.prev; next = n.next }) (λ n. refl) old new is;
  values_same = stays (λ n. record { frame = n.frame; rights = n.rights; source = n.source; granted = n.granted }) (λ n. refl) old new is;
  dooms_same = stays doom_of (λ n. refl) old new is;
  spots_same = λ k. ap (option_map spot_of) (is k) ∙ spot_in unnoted_slot (λ s. refl) (slot_at old k);
}

pub unmarked_all : (old new : Slots) → Unnotes old new → AreUnmarked new
unmarked_all old new is k m at = none (node_at old k) (sym (ap (option_map marks_of) (taken old new is k)) ∙ at)
  where
    none : (o : Option Node) → option_map marks_of (option_map unnoted o) ≡ Some m → (m.mark ≡ 0) × (m.seen ≡ 0)
    none None z = absurd (let y : ◌≡◌ {A = Option Marks} None (Some m) = z in cc)
    none (Some n) z =
        let y : ◌≡◌ {A = Option Marks} (Some (record { mark = 0; seen = 0 })) (Some m) = z in
        let same : record { mark = 0; seen = 0 } ≡ m = cc in
        (sym (ap (λ (q : Marks). q.mark) same), sym (ap (λ (q : Marks). q.seen) same))
