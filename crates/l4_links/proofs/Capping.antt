-- A cap of a node's rights, after that of all that descends from it.
use Rattle.std.proofs.Common.{◌≡◌, ◌≢◌, ℕ, List, Option, Some, None, refl, sym, ap, ◌∙◌, subst, inl, inr}
use Rattle.std.proofs.lemmas.Bool.{cases_eq}
use Rattle.std.specs.Option.{option_map, option_and_then}
use Rattle.l4_fpage.specs.Rights.{RightsSet, common, bits_of}
use Rattle.l4_links.specs.declared.Entry.{Entry}
use Rattle.l4_nodes.specs.declared.nodes.Node.{Node}
use Rattle.l4_nodes.specs.declared.nodes.Slot.{Slot}
use Rattle.l4_links.specs.Leads.{Leads, step}
use Rattle.l4_links.specs.Inside.Trees.{Limb, parent_at}
use Rattle.l4_nodes.specs.Slots.{Slots, Spot, slot_at, node_at, spots, spot_of}
use Rattle.l4_links.specs.Inside.Nodes.{limbs, values, Worth, capped_worth, IsForest, IsLow, IsStamped, HasLow, HasMarks, Caps, CapsBelow}
use Rattle.l4_links.specs.Entries.{entry_at, CapsTree, capped}
use Rattle.l4_links.specs.Inside.Keeping.{standing_of, entry_of, entries_of, IsWithin, LiesWithin, IsSound}
use Rattle.l4_links.proofs.Writes.{map_from, stamped_same, marks_of, limb_of, link_of, worth_of}
use Rattle.l4_links.proofs.Neighbours.{forest_links}
use Rattle.l4_links.proofs.Runs.{parent_is}
use Rattle.l4_links.proofs.Walking.{common_over, low_of_common, low_stays, marks_same, capped_same, capped_keeps, capped_low, values_capped}
use Rattle.l4_links.proofs.Clearing.{apart}
use Rattle.l4_links.proofs.Kept.{parent_stands, same_worth, bits_back, no_sources_walk, sound_capped}
use Rattle.l4_links.proofs.Seen.{joined, at_seen, shown_is, entry_same, leads_of, descends_of, capped_joined}
use Rattle.l4_links.proofs.Views.{nothing_below}

-- rights within two sets lie within what these share
low_two : (l h c : RightsSet) → IsLow h l → IsLow c l → IsLow (common h c) l
low_two l h c low_h low_c =
    common_over l h c ∙ ap (λ (z : RightsSet). common z c) low_h ∙ low_c

-- what was capped is low
worth_low : (cap : RightsSet) (o : Option Worth) (w : Worth) → ◌≡◌ {A = Option Worth} (Some w) (option_map (capped_worth cap) o) → IsLow cap w.rights
worth_low cap o w e =
    let v = map_from (capped_worth cap) o w (sym e) in
    subst (λ (z : Worth). IsLow cap z.rights) v.2 (low_of_common v.0.rights cap)

-- the marks stay right
pub marks_tree : (mid new : Slots) (top : ℕ) (cap : RightsSet) (stamp : ℕ) → HasMarks (HasLow cap mid) stamp mid → Caps top cap mid new → HasMarks (HasLow cap new) stamp new
marks_tree mid new top cap stamp m w =
    marks_same (HasLow cap mid) (HasLow cap new) mid new (capped_same limb_of top cap mid new w (λ n. refl)) (capped_low top cap cap mid new w) stamp (capped_same link_of top cap mid new w (λ n. refl))
    (capped_keeps top stamp cap mid new w) m

-- the children of the node stay within it
within_tree : (old mid new : Slots) (ks : List ℕ) (top : ℕ) (cap : RightsSet) → IsForest mid ks → IsWithin mid → CapsBelow top cap old mid → Caps top cap mid new → IsWithin new
within_tree old mid new ks top cap f within c w k p x l h is up v u =
    let limbs_same : (j : ℕ) → limbs new j ≡ limbs mid j = capped_same limb_of top cap mid new w (λ n. refl) in
    let was : limbs mid k ≡ Some x = sym (limbs_same k) ∙ is in
    let above = parent_stands mid ks f k p x was up in
    let n = map_from limb_of (node_at mid k) x was in
    let m = map_from limb_of (node_at mid p) above.0 above.1 in
    let lo : values mid k ≡ Some (worth_of n.0) = ap (option_map worth_of) n.1 in
    let hi : values mid p ≡ Some (worth_of m.0) = ap (option_map worth_of) m.1 in
    let base = within k p x (worth_of n.0) (worth_of m.0) was up lo hi in
    let put : (a b : Worth) → a ≡ l → b ≡ h → LiesWithin a b → LiesWithin l h = λ a b e g r. subst (λ (z : Worth). LiesWithin l z) g (subst (λ (z : Worth). LiesWithin z b) e r) in
    let up_k : parent_at (limbs mid) k ≡ Some p = parent_is (limbs mid) k x was ∙ up in
    elim (cases_eq k top) [
      | inl kt ↦
          let pt : p ≢ top = λ pt. apart mid ks f top (step (sym (ap (parent_at (limbs mid)) kt) ∙ up_k ∙ ap (λ (z : ℕ). Some z) pt)) in
          let low_is : capped_worth cap (worth_of n.0) ≡ l = same_worth (sym (ap (option_map (capped_worth cap)) (sym (ap (values mid) kt) ∙ lo)) ∙ sym (values_capped top cap mid new w) ∙ sym (ap (values new) kt) ∙ v) in
          put (capped_worth cap (worth_of n.0)) (worth_of m.0) low_is (same_worth (sym hi ∙ sym (ap (option_map worth_of) (w.others p pt)) ∙ u))
          (record { rights = low_stays n.0.rights cap m.0.rights base.rights; frame = base.frame })
      | inr nk ↦
          let low_is : worth_of n.0 ≡ l = same_worth (sym lo ∙ sym (ap (option_map worth_of) (w.others k nk)) ∙ v) in
          elim (cases_eq p top) [
            | inr np ↦ put (worth_of n.0) (worth_of m.0) low_is (same_worth (sym hi ∙ sym (ap (option_map worth_of) (w.others p np)) ∙ u)) base
            | inl pt ↦
                let high_is : capped_worth cap (worth_of m.0) ≡ h = same_worth (sym (ap (option_map (capped_worth cap)) (sym (ap (values mid) pt) ∙ hi)) ∙ sym (values_capped top cap mid new w) ∙ sym (ap (values new) pt) ∙ u) in
                let old_up : Leads (parent_at (limbs old)) k top = subst (λ (g : ℕ → Option Limb). Leads (parent_at g) k top) (λ i j. c.limbs_same j i) (step (up_k ∙ ap (λ (z : ℕ). Some z) pt)) in
                let was_low : values mid k ≡ option_map (capped_worth cap) (values old k) = c.capped k old_up in
                put (worth_of n.0) (capped_worth cap (worth_of m.0)) low_is high_is
                (record { rights = low_two n.0.rights m.0.rights cap base.rights (worth_low cap (values old k) (worth_of n.0) (sym lo ∙ was_low)); frame = base.frame })
          ]
    ]

pub sound_tree : (old mid new : Slots) (first : Option ℕ) (stamp walk later top : ℕ) (cap : RightsSet) → IsSound old first stamp walk → CapsBelow top cap old mid → HasMarks (HasLow cap mid) later mid → IsStamped later mid → Caps top cap mid new → IsSound new first later (bits_of cap)
sound_tree old mid new first stamp walk later top cap s c m t w =
    let g = sound_capped old mid first stamp walk later top cap s c m t in
    record {
      keys = g.keys;
      forest = forest_links mid new g.keys (capped_same limb_of top cap mid new w (λ n. refl)) (capped_same link_of top cap mid new w (λ n. refl)) g.forest;
      first_is = g.first_is;
      within = within_tree old mid new g.keys top cap g.forest g.within c w;
      stamped = stamped_same later mid new (capped_same marks_of top cap mid new w (λ n. refl)) g.stamped;
      capped = λ _. subst (λ (z : RightsSet). HasMarks (HasLow z new) later new) (sym (bits_back cap)) (marks_tree mid new top cap later m w);
      sought = λ e. absurd (no_sources_walk cap e);
    }

pub view_tree : (old mid new : Slots) (first : Option ℕ) (stamp walk top : ℕ) (cap : RightsSet) → IsSound old first stamp walk → CapsBelow top cap old mid → Caps top cap mid new → CapsTree top cap (entries_of old) (entries_of new)
view_tree old mid new first stamp walk top cap s c w =
    let limbs_same : (j : ℕ) → limbs new j ≡ limbs old j = λ j. capped_same limb_of top cap mid new w (λ n. refl) j ∙ c.limbs_same j in
    let spots_same : (j : ℕ) → spots new j ≡ spots old j = λ j. w.spots_same j ∙ c.spots_same j in
    let off_top : ¬ (Leads (parent_at (limbs old)) top top) = apart old s.keys s.forest top in
    let top_value : values new top ≡ option_map (capped_worth cap) (values old top) = values_capped top cap mid new w ∙ ap (option_map (capped_worth cap)) (c.kept top off_top) in
    let to : (k : ℕ) → values new k ≡ option_map (capped_worth cap) (values old k) → entry_at (entries_of new) k ≡ option_map (capped cap) (entry_at (entries_of old) k) =
    λ k v. shown_is new k ∙ (λ i. joined (spots_same k i) (limbs_same k i) (v i)) ∙ capped_joined cap (spots old k) (limbs old k) (values old k) ∙ sym (ap (option_map (capped cap)) (shown_is old k)) in
    record {
      top_capped = to top top_value;
      below_capped = λ k d.
          let l = leads_of old d in
          let ne : k ≢ top = λ e. off_top (subst (λ (z : ℕ). Leads (parent_at (limbs old)) z top) e l) in
          to k (ap (option_map worth_of) (w.others k ne) ∙ c.capped k l);
      kept = λ k ne off. entry_same old new k (spots_same k) (limbs_same k) (ap (option_map worth_of) (w.others k ne) ∙ c.kept k (λ l. off (descends_of old l)));
    }

-- where nothing stands nothing is capped
pub tree_none : (slots : Slots) (first : Option ℕ) (stamp walk top : ℕ) (cap : RightsSet) → IsSound slots first stamp walk → node_at slots top ≡ None → CapsTree top cap (entries_of slots) (entries_of slots)
tree_none slots first stamp walk top cap s none = record {
  top_capped = at_seen slots top ∙ blank_entry cap (slot_at slots top) none ∙ sym (ap (option_map (capped cap)) (at_seen slots top));
  below_capped = λ k d. absurd (nothing_below slots first stamp walk top k s none d);
  kept = λ k ne off. refl;
}
  where
    blank_inside : (cap : RightsSet) (p : Spot) (o : Option Node) → o ≡ None → ◌≡◌ {A = Option Entry} (Some (record { place = p.place; wanted = p.wanted; stands = option_map standing_of o })) (option_map (capped cap) (Some (record { place = p.place; wanted = p.wanted; stands = option_map standing_of o })))
    blank_inside cap p None e = refl
    blank_inside cap p (Some n) e = absurd (let z : ◌≡◌ {A = Option Node} (Some n) None = e in cc)

    blank_entry : (cap : RightsSet) (o : Option Slot) → option_and_then (λ (s : Slot). s.node) o ≡ None → option_map entry_of o ≡ option_map (capped cap) (option_map entry_of o)
    blank_entry cap None e = refl
    blank_entry cap (Some s) e = blank_inside cap (spot_of s) s.node e
