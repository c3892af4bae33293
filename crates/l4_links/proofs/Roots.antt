-- A root that stands before all other nodes.
use Rattle.std.proofs.Common.{◌≡◌, ◌≢◌, ℕ, ◌+◌, List, [], ◌∷◌, Option, Some, None, refl, sym, ap, ◌∙◌, subst, arith, inl, inr}
use Rattle.std.proofs.lemmas.Bool.{cases_eq}
use Rattle.std.specs.Option.{option_map}
use Rattle.l4_nodes.specs.declared.nodes.Node.{Node}
use Rattle.l4_links.specs.Inside.Trees.{Limb, IsTree, Rises}
use Rattle.l4_links.specs.Inside.Orders.{Link, IsIn, IsOnce, IsLinked, first_of, position}
use Rattle.l4_nodes.specs.Slots.{Slots, slot_at, node_at, Writes, SetsNext, SetsPrev}
use Rattle.l4_links.specs.Inside.Nodes.{limbs, links, IsForest}
use Rattle.l4_links.proofs.Linking.{linked_same, first_in}
use Rattle.l4_links.proofs.Positions.{position_here, position_further}
use Rattle.l4_links.proofs.Neighbours.{not_in_list, some_from, prev_set}
use Rattle.l4_links.proofs.Writes.{link_of}

abbrev root_limb : Limb
root_limb = record { parent = None; depth = 0 }

-- the trees with one more root before them
tree_rises : (old new : ℕ → Option Limb) (ks : List ℕ) (key : ℕ) → IsTree old (position ks) → Rises old new key → IsTree new (position (key ∷ ks))
tree_rises old new ks key t r =
    let was : (a : ℕ) (x : Limb) → new a ≡ Some x → a ≢ key → old a ≡ Some x = λ a x is ne. sym (r.others a ne) ∙ is in
    let other : (a : ℕ) (x : Limb) → old a ≡ Some x → a ≢ key = λ a x is e. let w : ◌≡◌ {A = Option Limb} None (Some x) = sym r.vacant ∙ sym (ap old e) ∙ is in absurd (let z : ◌≡◌ {A = Option Limb} None (Some x) = w in cc) in
    let further : (a : ℕ) → a ≢ key → position (key ∷ ks) a ≡ position ks a + 1 = λ a ne. position_further key ks a (λ e. ne (sym e)) in
    let here : (a : ℕ) → a ≡ key → position (key ∷ ks) a ≡ 0 = λ a e. position_here key ks a (sym e) in
    let its : (a : ℕ) (x : Limb) → a ≡ key → new a ≡ Some x → x ≡ root_limb = λ a x e is. (let w : ◌≡◌ {A = Option Limb} (Some x) (Some root_limb) = sym is ∙ ap new e ∙ r.filled in cc) in
    record {
      apart = λ a b x y is_a is_b eq. grind arith;
      top = λ a x is none. grind arith;
      under = λ a p x is up. elim (cases_eq a key) [
        | inl e ↦ absurd (let w : ◌≡◌ {A = Option ℕ} None (Some p) = sym (ap (λ (z : Limb). z.parent) (its a x e is)) ∙ up in cc)
        | inr ne ↦
            let u = t.under a p x (was a x is ne) up in
            let pk = other p u.above u.at_parent in
            let pp = further p pk in
            let pa = further a ne in
            let after = u.after in
            grind arith
      ];
    }

-- the links with one more key before them
linked_front : (old new : ℕ → Option Link) (key : ℕ) (ks : List ℕ) → IsLinked old None ks None → IsOnce ks → ¬ (IsIn ks key)
    → ((n : ℕ) (y : Link) → first_of ks None ≡ Some n → old n ≡ Some y → new n ≡ Some (record y { prev = Some key }))
    → ((o : ℕ) → o ≢ key → first_of ks None ≢ Some o → new o ≡ old o) → IsLinked new (Some key) ks None
linked_front old new key [] linked once out first others = tt
linked_front old new key (k ∷ rest) linked once out first others = (
  first k (record { prev = None; next = first_of rest None }) refl linked.0,
  linked_same old new (Some k) rest None (λ j i. others j
      (λ e. out (inr (subst (λ (z : ℕ). IsIn rest z) e i)))
      (λ e. once.0 (subst (λ (z : ℕ). IsIn rest z) (let w : ◌≡◌ {A = Option ℕ} (Some k) (Some j) = e in let kj : j ≡ k = cc in kj) i))) linked.1,
)

-- the forest with the new root
pub forest_root : (a b d : Slots) (key : ℕ) (node : Node) (first : Option ℕ) (ks : List ℕ) → IsForest a ks → first_of ks None ≡ first → slot_at a key ≢ None → node_at a key ≡ None → Writes key (Some node) a b → SetsPrev first (Some key) b d
    → node.prev ≡ None → node.next ≡ first → Rises (limbs a) (limbs d) key → IsForest d (key ∷ ks)
forest_root a b d key node first ks forest first_is slot blank w g prev_is next_is r =
    let out = not_in_list a ks forest.order key blank in
    let first_other : first ≢ Some key = λ e. out (first_in ks key (first_is ∙ e)) in
    let here : links d key ≡ Some (record { prev = None; next = first_of ks None }) =
    ap (option_map link_of) (g.others key first_other ∙ w.here slot) ∙ (λ i. Some (record { prev = prev_is i; next = (next_is ∙ sym first_is) i })) in
    record {
      order = grind (arith, linked_front, first_in, link_of, prev_set, cases_eq, some_from);
      tree = tree_rises (limbs a) (limbs d) ks key forest.tree r;
    }

pub rises : (a b d : Slots) (key : ℕ) (node : Node) (first : Option ℕ) → slot_at a key ≢ None → node_at a key ≡ None → Writes key (Some node) a b → SetsPrev first (Some key) b d → node.parent ≡ None → node.depth ≡ 0 → Rises (limbs a) (limbs d) key
rises a b d key node first slot blank w g parent_is depth_is = grind arith

-- nothing is written to the next key of no key
pub no_next : (slots : Slots) → SetsNext None None slots slots
no_next slots = grind arith
