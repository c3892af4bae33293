-- What stands, stands in trees.
use Rattle.std.proofs.Common.{◌≡◌, ◌≢◌, ◌⊎◌, ℕ, suc, zero, ◌≤◌, Option, Some, None, refl, sym, ap, ◌∙◌, subst, arith, inl, inr}
use Rattle.std.proofs.lemmas.Bool.{cases_eq}
use Rattle.std.specs.Option.{option_map}
use Rattle.l4_links.specs.declared.Standing.{Standing}
use Rattle.l4_links.specs.Leads.{Leads, step, steps}
use Rattle.l4_links.specs.Inside.Trees.{Limb, IsTree, parent_at}
use Rattle.l4_links.specs.Inside.Orders.{position}
use Rattle.l4_nodes.specs.Slots.{Slots, node_at}
use Rattle.l4_links.specs.Inside.Nodes.{limbs}
use Rattle.l4_links.specs.Inside.Keeping.{standing_of, entries_of, IsSound}
use Rattle.l4_links.specs.Entries.{standing_at, ParentStands, AreTrees}
use Rattle.l4_links.proofs.Runs.{has_limb, parent_is}
use Rattle.l4_links.proofs.Clearing.{apart}
use Rattle.l4_links.proofs.Kept.{parent_stands}
use Rattle.l4_links.proofs.Seen.{standing_is, leads_of, descends_of, standing_node}
use Rattle.l4_links.proofs.Writes.{map_from, limb_of, worth_of}

top_leads : {low high : ℕ} (parent : ℕ → Option ℕ) → parent low ≡ None → Leads parent low high → ⊥
top_leads {low} {high} parent none (step up) = let w : ◌≡◌ {A = Option ℕ} None (Some high) = sym none ∙ up in cc
top_leads {low} {high} parent none (steps {middle = m} up rest) = let w : ◌≡◌ {A = Option ℕ} None (Some m) = sym none ∙ up in cc

past : (parent : ℕ → Option ℕ) {low high : ℕ} (p : ℕ) → parent low ≡ Some p → p ≢ high → Leads parent low high → Leads parent p high
past parent {low} {high} p up ne (step to) = absurd (let w : ◌≡◌ {A = Option ℕ} (Some p) (Some high) = sym up ∙ to in let z : p ≡ high = cc in ne z)
past parent {low} {high} p up ne (steps {middle = m} to rest) = grind arith

-- by the parent of a key, whether it leads to another one
by_parent : (parent : ℕ → Option ℕ) (low high : ℕ) → ((p : ℕ) → parent low ≡ Some p → Leads parent p high ⊎ ¬ (Leads parent p high)) → Leads parent low high ⊎ ¬ (Leads parent low high)
by_parent parent low high above = elim (parent low) as (λ o. parent low ≡ o → Leads parent low high ⊎ ¬ (Leads parent low high)) [
  | None ↦ λ none. inr (λ l. top_leads parent none l)
  | Some p ↦ λ up. elim (cases_eq p high) [
    | inl e ↦ inl (step (up ∙ ap (λ (z : ℕ). Some z) e))
    | inr ne ↦ elim (above p up) [ inl l ↦ inl (steps up l) | inr off ↦ inr (λ l. off (past parent p up ne l)) ]
  ]
] refl

-- whether a key leads to another one is found on the way to the top
leads_up : (at : ℕ → Option Limb) (pos : ℕ → ℕ) → IsTree at pos → (n low high : ℕ) (x : Limb) → at low ≡ Some x → x.depth ≤ n → Leads (parent_at at) low high ⊎ ¬ (Leads (parent_at at) low high)
leads_up at pos t zero low high x is le = by_parent (parent_at at) low high (λ p up.
    let u = t.under low p x is (sym (parent_is at low x is) ∙ up) in
    let d = u.deeper in
    absurd (omega (arith, d, le)))
leads_up at pos t (suc n) low high x is le = by_parent (parent_at at) low high (λ p up.
    let u = t.under low p x is (sym (parent_is at low x is) ∙ up) in
    let d = u.deeper in
    leads_up at pos t n p high u.above u.at_parent (omega (arith, d, le)))

descent_decided : (slots : Slots) (first : Option ℕ) (stamp walk : ℕ) → IsSound slots first stamp walk → (low high : ℕ) → Leads (parent_at (limbs slots)) low high ⊎ ¬ (Leads (parent_at (limbs slots)) low high)
descent_decided slots first stamp walk s low high =
    elim (limbs slots low) as (λ o. limbs slots low ≡ o → Leads (parent_at (limbs slots)) low high ⊎ ¬ (Leads (parent_at (limbs slots)) low high)) [
      | None ↦ λ none. inr (λ l. nowhere (limbs slots) none l)
      | Some x ↦ λ is. leads_up (limbs slots) (position s.keys) s.forest.tree x.depth low high x is (omega arith)
    ] refl
  where
    nowhere : {low high : ℕ} (at : ℕ → Option Limb) → at low ≡ None → Leads (parent_at at) low high → ⊥
    nowhere {low} {high} at none (step up) = let h = has_limb at low high up in let w : ◌≡◌ {A = Option Limb} None (Some h.limb) = sym none ∙ h.is in cc
    nowhere {low} {high} at none (steps {middle = m} up rest) = let h = has_limb at low m up in let w : ◌≡◌ {A = Option Limb} None (Some h.limb) = sym none ∙ h.is in cc

-- the parent stands around its child
parent_around : (slots : Slots) (first : Option ℕ) (stamp walk : ℕ) → IsSound slots first stamp walk → (k : ℕ) (t : Standing) (p : ℕ) → standing_at (entries_of slots) k ≡ Some t → t.parent ≡ Some p → ParentStands (entries_of slots) t p
parent_around slots first stamp walk s k t p is up =
    let n = standing_node slots k t is in
    let limb_is : limbs slots k ≡ Some (limb_of n.0) = ap (option_map limb_of) n.1 in
    let up_n : n.0.parent ≡ Some p = ap (λ (z : Standing). z.parent) n.2 ∙ up in
    let y = parent_stands slots s.keys s.forest k p (limb_of n.0) limb_is up_n in
    let m = map_from limb_of (node_at slots p) y.0 y.1 in
    let w = s.within k p (limb_of n.0) (worth_of n.0) (worth_of m.0) limb_is up_n (ap (option_map worth_of) n.1) (ap (option_map worth_of) m.1) in
    subst (λ (z : Standing). ParentStands (entries_of slots) z p) n.2 (record {
      above = standing_of m.0;
      at = standing_is slots p ∙ ap (option_map standing_of) m.1;
      frame = w.frame;
      within = w.rights;
    })

pub are_trees : (slots : Slots) (first : Option ℕ) (stamp walk : ℕ) → IsSound slots first stamp walk → AreTrees (entries_of slots)
are_trees slots first stamp walk s = record {
  parents = parent_around slots first stamp walk s;
  apart = λ k d. apart slots s.keys s.forest k (leads_of slots d);
  decided = λ low high. elim (descent_decided slots first stamp walk s low high) [
    | inl l ↦ inl (descends_of slots l)
    | inr off ↦ inr (λ d. off (leads_of slots d))
  ];
}
