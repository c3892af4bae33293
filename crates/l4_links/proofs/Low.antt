-- A child has no other rights than its parent, so where a node's rights lie within a cap, those of all that descends from it do.
use Rattle.std.proofs.Common.{Bool, true, false, ◌&&◌, ◌≡◌, ℕ, List, Option, Some, None, IsTrue, refl, sym, ap, ◌∙◌, subst}
use Rattle.std.specs.Option.{option_map, option_and_then}
use Rattle.l4_fpage.specs.Rights.{RightsSet, Read, Write, Execute, common, Within}
use Rattle.l4_links.specs.declared.Standing.{Standing}
use Rattle.l4_nodes.specs.declared.nodes.Node.{Node}
use Rattle.l4_nodes.specs.declared.nodes.Slot.{Slot}
use Rattle.l4_links.specs.Leads.{Leads, step, steps}
use Rattle.l4_links.specs.Inside.Trees.{parent_at}
use Rattle.l4_nodes.specs.Slots.{Slots, slot_at, node_at}
use Rattle.l4_links.specs.Inside.Nodes.{limbs, values, IsForest, IsLow}
use Rattle.l4_links.specs.Inside.Keeping.{standing_of, entry_of, entries_of, IsWithin, IsSound}
use Rattle.l4_links.specs.Entries.{entry_at, capped, CapsBelow, CapsTree}
use Rattle.l4_links.proofs.Runs.{has_limb}
use Rattle.l4_links.proofs.Seen.{at_seen, leads_of}
use Rattle.l4_links.proofs.Writes.{no_some, map_from, limb_of, worth_of}
use Rattle.l4_links.proofs.Walking.{common_over}

both_bits : (a b : Bool) → (IsTrue a → IsTrue b) → a && b ≡ a
both_bits false b h = refl
both_bits true true h = refl
both_bits true false h = h refl

-- rights that lie within a set, as the walks say it
pub low_within : (rights cap : RightsSet) → Within rights cap → IsLow cap rights
low_within r c h = λ i. record { r = both_bits r.r c.r (h Read) i; w = both_bits r.w c.w (h Write) i; x = both_bits r.x c.x (h Execute) i }

-- what lies within low rights is low
low_on : (l h c : RightsSet) → IsLow h l → IsLow c h → IsLow c l
low_on l h c low_h low_c =
    ap (λ (z : RightsSet). common z c) (sym low_h) ∙ sym (common_over l h c) ∙ ap (λ (z : RightsSet). common l z) low_c ∙ low_h

-- a node whose rights are low
abbrev LowNode : Slots → RightsSet → ℕ → Type 0
LowNode slots cap k = (n : Node) × (node_at slots k ≡ Some n) × IsLow cap n.rights

module _ (slots : Slots) (keys : List ℕ) (forest : IsForest slots keys) (within : IsWithin slots) (cap : RightsSet) where
  child_low : (k p : ℕ) → parent_at (limbs slots) k ≡ Some p → LowNode slots cap p → LowNode slots cap k
  child_low k p up above =
      let m = has_limb (limbs slots) k p up in
      let n = map_from limb_of (node_at slots k) m.limb m.is in
      let lo : values slots k ≡ Some (worth_of n.0) = ap (option_map worth_of) n.1 in
      let hi : values slots p ≡ Some (worth_of above.0) = ap (option_map worth_of) above.1 in
      let base = within k p m.limb (worth_of n.0) (worth_of above.0) m.is m.up lo hi in
      (n.0, n.1, low_on n.0.rights above.0.rights cap base.rights above.2)

  pub lows : {k top : ℕ} → Leads (parent_at (limbs slots)) k top → LowNode slots cap top → LowNode slots cap k
  lows {k} {top} (step up) above = child_low k top up above
  lows {k} {top} (steps {middle = m} up rest) above = child_low k m up (lows rest above)

low_slot : (cap : RightsSet) (o : Option Slot) (n : Node) → option_and_then (λ (s : Slot). s.node) o ≡ Some n → IsLow cap n.rights → option_map entry_of o ≡ option_map (capped cap) (option_map entry_of o)
low_slot cap None n e low = no_some n e
low_slot cap (Some s) n e low = ap (λ (t : Option Standing). Some (record { place = s.place; wanted = s.wanted; stands = t })) (over s.node e)
  where
    over : (o : Option Node) → o ≡ Some n → option_map standing_of o ≡ option_map (λ (t : Standing). record t { rights = common t.rights cap }) (option_map standing_of o)
    over None e = no_some n e
    over (Some m) e =
        let same : m ≡ n = cc in
        let low_m : IsLow cap m.rights = subst (λ (z : Node). IsLow cap z.rights) (sym same) low in
        λ i. Some (record { frame = m.frame; rights = sym low_m i; source = m.source; granted = m.granted; parent = m.parent })

low_entry : (slots : Slots) (cap : RightsSet) (k : ℕ) → LowNode slots cap k → entry_at (entries_of slots) k ≡ option_map (capped cap) (entry_at (entries_of slots) k)
low_entry slots cap k n = at_seen slots k ∙ low_slot cap (slot_at slots k) n.0 n.1 n.2 ∙ sym (ap (option_map (capped cap)) (at_seen slots k))

-- a cap that the node's rights lie within changes nothing below it
pub caps_low : (slots : Slots) (first : Option ℕ) (stamp walk top : ℕ) (cap : RightsSet) (node : Node) → IsSound slots first stamp walk → node_at slots top ≡ Some node → Within node.rights cap → CapsBelow top cap (entries_of slots) (entries_of slots)
caps_low slots first stamp walk top cap node s at low = record {
  capped = λ k d. low_entry slots cap k (lows slots s.keys s.forest s.within cap (leads_of slots d) (node, at, low_within node.rights cap low));
  kept = λ k off. refl;
}

pub tree_low : (slots : Slots) (first : Option ℕ) (stamp walk top : ℕ) (cap : RightsSet) (node : Node) → IsSound slots first stamp walk → node_at slots top ≡ Some node → Within node.rights cap → CapsTree top cap (entries_of slots) (entries_of slots)
tree_low slots first stamp walk top cap node s at low = record {
  top_capped = low_entry slots cap top (node, at, low_within node.rights cap low);
  below_capped = λ k d. low_entry slots cap k (lows slots s.keys s.forest s.within cap (leads_of slots d) (node, at, low_within node.rights cap low));
  kept = λ k ne off. refl;
}
