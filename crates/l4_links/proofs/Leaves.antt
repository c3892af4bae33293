-- A node has no descendants where the node after it is no deeper.
use Rattle.std.proofs.Common.{◌≡◌, ◌≢◌, ℕ, ◌<◌, List, Some, None, sym, ap, ◌∙◌, arith, ◌≤◌}
use Rattle.std.specs.Prelude.{⊤}
use Rattle.std.specs.Option.{option_map}
use Rattle.l4_nodes.specs.declared.nodes.Node.{Node}
use Rattle.l4_links.specs.Leads.{Leads}
use Rattle.l4_links.specs.Inside.Trees.{parent_at}
use Rattle.l4_links.specs.Inside.Orders.{position}
use Rattle.l4_nodes.specs.Slots.{Slots, node_at}
use Rattle.l4_links.specs.Inside.Nodes.{limbs, place_of, IsForest, Stops}
use Rattle.l4_links.specs.Inside.Keeping.{standing_of, entries_of}
use Rattle.l4_links.specs.Entries.{IsStanding, Descends}
use Rattle.l4_links.proofs.Runs.{descendants}
use Rattle.l4_links.proofs.Walking.{place_next, passes_next, leads_range}
use Rattle.l4_links.proofs.Seen.{standing_is, no_standing, leads_of, descends_of}
use Rattle.l4_links.proofs.Writes.{no_some, limb_of}
use Rattle.l4_links.proofs.Neighbours.{in_list, next_live}

-- the node that is said to come next is there
pub next_there : (slots : Slots) (ks : List ℕ) (key next : ℕ) (node : Node) → IsForest slots ks → node_at slots key ≡ Some node → node.next ≡ Some next → node_at slots next ≡ None → ⊥
next_there slots ks key next node f at is none =
    let n = in_list slots ks f.order next (next_live slots ks key node f.order at next is) in
    no_some n.0 (sym none ∙ n.1)

-- nothing descends from a node whose run ends at the next one
pub empty_run : (slots : Slots) (ks : List ℕ) (key : ℕ) (node : Node) → IsForest slots ks → node_at slots key ≡ Some node → Stops (limbs slots) node.depth node.next
    → (low : ℕ) → ¬ (Leads (parent_at (limbs slots)) low key)
empty_run slots ks key node f at stops low l =
    let p = place_next slots ks key node f.order at in
    let r = leads_range slots (λ _. ⊤) ks key node.next (limb_of node) f (record { passes = passes_next slots (λ _. ⊤) ks key node f.order at; stops = stops }) (ap (option_map limb_of) at) low l in
    let lo = r.0 in
    let hi = r.1 in
    omega (arith, p, lo, hi)

-- a deeper node after this one descends from it
pub next_descends : (slots : Slots) (ks : List ℕ) (key next : ℕ) (node after : Node) → IsForest slots ks → node_at slots key ≡ Some node → node.next ≡ Some next → node_at slots next ≡ Some after → node.depth < after.depth
    → Leads (parent_at (limbs slots)) next key
next_descends slots ks key next node after f at is at_next deeper =
    let p = place_next slots ks key node f.order at in
    let o : place_of ks node.next ≡ position ks next = ap (place_of ks) is in
    (descendants (limbs slots) (position ks) f.tree key next).1 (record {
      top = limb_of node;
      at_top = ap (option_map limb_of) at;
      limb = limb_of after;
      at_limb = ap (option_map limb_of) at_next;
      after = omega (arith, p, o);
      deeper = deeper;
      between = λ b y is_b lo hi. absurd (omega (arith, p, o, lo, hi));
    })

-- a node that is there is something
pub some_node : (slots : Slots) (key : ℕ) (node : Node) → node_at slots key ≡ Some node → node_at slots key ≢ None
some_node slots key node at none = no_some node (sym none ∙ at)

-- what a contract sees of a leaf
pub view_leaf : (slots : Slots) (key : ℕ) → (node_at slots key ≢ None) × ((low : ℕ) → ¬ (Leads (parent_at (limbs slots)) low key)) → IsStanding (entries_of slots) key × ((low : ℕ) → ¬ (Descends (entries_of slots) low key))
view_leaf slots key (there, leaf) = (λ none. there (no_standing (node_at slots key) (sym (standing_is slots key) ∙ none)), λ low d. leaf low (leads_of slots d))

-- what a contract sees of a node that is no leaf
pub view_no_leaf : (slots : Slots) (key : ℕ) → (node_at slots key ≢ None → (low : ℕ) × Leads (parent_at (limbs slots)) low key) → IsStanding (entries_of slots) key → (low : ℕ) × Descends (entries_of slots) low key
view_no_leaf slots key other stands = let l = other (λ none. stands (standing_is slots key ∙ ap (option_map standing_of) none)) in (l.0, descends_of slots l.1)
