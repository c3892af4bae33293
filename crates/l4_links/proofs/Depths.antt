-- How deep a key can stand, and the order of keys after several that went.
use Rattle.std.proofs.Common.{◌≡◌, ◌≢◌, ℕ, suc, zero, ◌+◌, ◌<◌, ◌≤◌, List, ◌∷◌, length, Option, Some, None, refl, ap, arith}
use Rattle.std.specs.Option.{option_map}
use Rattle.l4_nodes.specs.declared.nodes.Node.{Node}
use Rattle.l4_links.specs.Inside.Trees.{Limb, IsTree, SameOrder}
use Rattle.l4_spaces.specs.Keys.{IsKey, no_key}
use Rattle.l4_links.specs.Inside.Orders.{IsIn, position}
use Rattle.l4_nodes.specs.Slots.{Slots, slot_at, node_at}
use Rattle.l4_links.specs.Inside.Nodes.{limbs, AreKeys, IsForest}
use Rattle.l4_links.proofs.Positions.{position_within}
use Rattle.l4_links.proofs.Neighbours.{in_list, not_in_list}
use Rattle.l4_links.proofs.Writes.{slot_key, node_key}
use Rattle.l4_links.proofs.Cutting.{once_fits, order_fits}

-- a key has no more ancestors than there are keys before it
depth_within : (at : ℕ → Option Limb) (pos : ℕ → ℕ) → IsTree at pos → (n a : ℕ) (x : Limb) → at a ≡ Some x → x.depth ≤ n → x.depth ≤ pos a
depth_within at pos t zero a x is le = omega arith
depth_within at pos t (suc n) a x is le = elim (x.parent) as (λ o. x.parent ≡ o → x.depth ≤ pos a) [
  | None ↦ λ e. (let d = t.top a x is e in omega (arith, d))
  | Some p ↦ λ e.
      let u = t.under a p x is e in
      let d = u.deeper in
      let f = u.after in
      let r = depth_within at pos t n p u.above u.at_parent (omega (arith, d, le)) in
      omega (arith, d, f, r)
] refl

-- so a depth is below the number of slots, and one more fits wherever that number does
pub depth_fits : (slots : Slots) (ks : List ℕ) (k : ℕ) (n : Node) → IsForest slots ks → node_at slots k ≡ Some n → n.depth < length slots
depth_fits slots ks k n f at =
    let x : Limb = record { parent = n.parent; depth = n.depth } in
    let is : limbs slots k ≡ Some x = ap (option_map (λ (m : Node). record { parent = m.parent; depth = m.depth })) at in
    let d = depth_within (limbs slots) (position ks) f.tree n.depth k x is (omega arith) in
    let p = position_within ks k (f.order.all k n at) in
    let l = order_fits slots ks f.order in
    omega (arith, d, p, l)

-- a key where nothing stands is one of them too, so a node can keep the depth of a child
pub depth_kept : (slots : Slots) (ks : List ℕ) (k : ℕ) (n : Node) (free : ℕ) → IsForest slots ks → AreKeys slots → node_at slots k ≡ Some n → IsKey free → node_at slots free ≡ None → IsKey (n.depth + 1)
depth_kept slots ks k n free f few at kept none =
    let x : Limb = record { parent = n.parent; depth = n.depth } in
    let is : limbs slots k ≡ Some x = ap (option_map (λ (m : Node). record { parent = m.parent; depth = m.depth })) at in
    let d = depth_within (limbs slots) (position ks) f.tree n.depth k x is (omega arith) in
    let p = position_within ks k (f.order.all k n at) in
    let each : (j : ℕ) → IsIn (free ∷ ks) j → j < no_key = λ j i. grind (arith, in_list, node_key) in
    let l = once_fits no_key (free ∷ ks) (not_in_list slots ks f.order free none, f.order.once) each in
    let m : length (free ∷ ks) ≡ length ks + 1 = omega arith in
    omega (arith, d, p, l, m)

pub depth_is_key : (slots : Slots) (ks : List ℕ) (k : ℕ) (n : Node) (blank : ℕ) → IsForest slots ks → AreKeys slots → node_at slots k ≡ Some n → slot_at slots blank ≢ None → node_at slots blank ≡ None → IsKey (n.depth + 1)
depth_is_key slots ks k n blank f few at room none = depth_kept slots ks k n blank f few at (slot_key slots blank few room) none

-- orders that are the same one after the other
pub order_on : (old new : ℕ → Option Limb) (pos middle later : ℕ → ℕ) → ((a : ℕ) (x : Limb) → new a ≡ Some x → old a ≡ Some x) → SameOrder old pos middle → SameOrder new middle later → SameOrder new pos later
order_on old new pos middle later was one two = grind arith
