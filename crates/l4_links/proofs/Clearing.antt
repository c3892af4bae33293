-- A node that leaves its list after all that descends from it.
use Rattle.std.proofs.Common.{◌≡◌, ◌≢◌, ℕ, List, ◌∷◌, ◌++◌, Option, Some, None, sym, ap, ◌∙◌, arith, inl, inr}
use Rattle.std.proofs.lemmas.Bool.{cases_eq}
use Rattle.std.specs.Option.{option_map}
use Rattle.l4_nodes.specs.declared.nodes.Node.{Node}
use Rattle.l4_links.specs.Leads.{Leads, step}
use Rattle.l4_links.specs.Inside.Trees.{Limb, parent_at, Sheds}
use Rattle.l4_links.specs.Inside.Orders.{position}
use Rattle.l4_nodes.specs.Slots.{Slots, node_at}
use Rattle.l4_links.specs.Inside.Nodes.{limbs, IsOrder, IsForest, Parts, Prunes, Clears}
use Rattle.l4_links.proofs.Positions.{same_order_out}
use Rattle.l4_links.proofs.Growing.{tree_sheds}
use Rattle.l4_links.proofs.Neighbours.{neighbours_at, some_from, no_node}
use Rattle.l4_links.proofs.Runs.{parent_is, run_from_leads}
use Rattle.l4_links.proofs.Writes.{no_some, limb_of}
use Rattle.l4_links.proofs.Linking.{first_left}

-- a key does not descend from itself
pub apart : (slots : Slots) (ks : List ℕ) → IsForest slots ks → (k : ℕ) → ¬ (Leads (parent_at (limbs slots)) k k)
apart slots ks f k l = let r = run_from_leads (limbs slots) (position ks) f.tree l in let a = r.after in omega (arith, a)

-- the top has its node after the cut
pub top_left : (old mid : Slots) (top : ℕ) → Prunes top old mid → node_at old top ≢ None → node_at mid top ≢ None
top_left old mid top p there none = grind (arith, apart, some_from)

-- what the cut and the writes to the neighbours make of the nodes
pub cleared : (old mid new : Slots) (top : ℕ) (node : Node) (first after : Option ℕ) → Prunes top old mid → node_at mid top ≡ Some node → Parts top mid new → ((xs ys : List ℕ) → IsOrder mid (xs ++ top ∷ ys) → IsOrder new (xs ++ ys))
    → (node.prev ≡ None → after ≡ node.next) → (node.prev ≢ None → after ≡ first) → Clears top first after old new
cleared old mid new top node first after p at q order onto keep =
    let near = neighbours_at mid p.front top p.left node p.forest.order at in
    let none_top : limbs new top ≡ None = ap (option_map limb_of) q.gone in
    let away : (a : ℕ) (x : Limb) → limbs new a ≡ Some x → a ≢ top = λ a x is e. no_some x (sym none_top ∙ sym (ap (limbs new) e) ∙ is) in
    let gone_mid : (k : ℕ) → Leads (parent_at (limbs old)) k top → limbs mid k ≡ None = λ k l. ap (option_map limb_of) (p.gone k l) in
    let sheds : Sheds (limbs mid) (limbs new) = record {
      left = λ a. elim (cases_eq a top) [ inl e ↦ inl (ap (limbs new) e ∙ none_top) | inr ne ↦ inr (q.limbs_same a ne) ];
      closed = λ a b x is up. q.limbs_same b (λ e.
          let was : limbs mid a ≡ Some x = sym (q.limbs_same a (away a x is)) ∙ is in
          let old_up : ¬ (Leads (parent_at (limbs old)) a top) = λ l. no_some x (sym (gone_mid a l) ∙ was) in
          let was_old : limbs old a ≡ Some x = sym (p.limbs_kept a old_up) ∙ was in
          old_up (step (parent_is (limbs old) a x was_old ∙ up ∙ ap (λ (z : ℕ). Some z) e)));
    } in
    let q_gone : (k : ℕ) → Leads (parent_at (limbs old)) k top → node_at new k ≡ None =
    λ k l. elim (cases_eq k top) [ inl e ↦ ap (node_at new) e ∙ q.gone | inr ne ↦ no_node new k (q.limbs_same k ne ∙ gone_mid k l) ] in
    record {
      gone = λ k l. q_gone k l;
      spots_gone = λ k l. q.spots_same k ∙ p.spots_gone k l;
      here = q.gone;
      spot = q.spots_same top ∙ p.spots_kept top (apart old (p.front ++ top ∷ p.rest) p.was top);
      limbs_kept = λ k ne off. q.limbs_same k ne ∙ p.limbs_kept k off;
      values_kept = λ k ne off. q.values_same k ne ∙ p.values_kept k off;
      marks_kept = λ k ne off. q.marks_same k ne ∙ p.marks_kept k off;
      spots_kept = λ k ne off. q.spots_same k ∙ p.spots_kept k off;
      front = p.front;
      rest = p.rest;
      left = p.left;
      was = p.was;
      forest = search (tree_sheds, same_order_out, arith);
      first_is = first_left p.front p.rest p.left top node.prev node.next first after near.0 near.1 onto keep;
    }
