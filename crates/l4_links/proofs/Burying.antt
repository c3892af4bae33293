-- The burial of the nodes without rights.
use Rattle.std.proofs.Common.{◌≡◌, ◌≢◌, ◌⊎◌, ℕ, ◌+◌, ◌≤◌, List, [], ◌∷◌, ◌++◌, length, Option, Some, None, refl, sym, ap, ◌∙◌, subst, arith, inl, inr}
use Rattle.std.specs.Option.{option_map, option_and_then}
use Rattle.l4_fpage.specs.Rights.{RightsSet, common, no_rights}
use Rattle.l4_nodes.specs.declared.nodes.Node.{Node}
use Rattle.l4_nodes.specs.declared.nodes.Slot.{Slot}
use Rattle.l4_links.specs.Inside.Trees.{Limb, Sheds, SameOrder}
use Rattle.l4_links.specs.Inside.Orders.{IsIn, first_of, position}
use Rattle.l4_nodes.specs.Slots.{Slots, slot_at, node_at}
use Rattle.l4_links.specs.Inside.Nodes.{limbs, Doom, dooms, IsOrder, IsForest, TakesSlot}
use Rattle.l4_links.specs.Inside.Stacks.{IsStack, HasStack, IsBuried, IsLeft, Buries}
use Rattle.l4_links.specs.Inside.Keeping.{standing_of, entries_of, IsWithin, IsFresh, IsSound}
use Rattle.l4_links.specs.Entries as entries
use Rattle.l4_links.proofs.Writes.{no_some, same_some, map_from, doom_of, limb_of, worth_of, marks_of}
use Rattle.l4_links.proofs.Linking.{parted, begins_with, first_left}
use Rattle.l4_links.proofs.Positions.{same_order_out}
use Rattle.l4_links.proofs.Neighbours.{neighbours_at}
use Rattle.l4_links.proofs.Growing.{tree_sheds}
use Rattle.l4_links.proofs.Cutting.{once_fits, node_within}
use Rattle.l4_links.proofs.Depths.{order_on}
use Rattle.l4_links.proofs.Kept.{first_unique, within_kept, sound_fresh}
use Rattle.l4_links.proofs.Seen.{entry_same, standing_is, standing_node}
use Rattle.l4_links.proofs.Views.{view_gone}
use Rattle.l4_links.proofs.Stacking.{common_none, doom_at, stacked_none, stack_popped}

-- what a piece of a slot that has gone is
piece_gone : {X : Type 0} (F : Node → X) (slots : Slots) (k : ℕ) → slot_at slots k ≡ None → option_map F (node_at slots k) ≡ None
piece_gone F slots k gone = ap (λ (o : Option Slot). option_map F (option_and_then (λ (z : Slot). z.node) o)) gone

-- the first keys of the stack have been buried, and it goes on at this key
pub record BuriedSoFar (old cur : Slots) (first begin at : Option ℕ) (count : ℕ) : Type 0 where
  pub all : List ℕ
  pub stack : List ℕ
  pub before : List ℕ
  pub left : List ℕ
  pub was_stack : IsStack (dooms old) all
  pub is_stack : IsStack (dooms cur) stack
  pub at_is : first_of stack None ≡ at
  pub count_is : length stack + count ≡ length all
  pub was : IsForest old before
  pub within : IsWithin old
  pub order : IsOrder cur left
  pub same : SameOrder (limbs cur) (position before) (position left)
  pub first_is : first_of before None ≡ first → first_of left None ≡ begin
  pub each : (key : ℕ) → IsBuried old cur key ⊎ IsLeft old cur key

pub buried_first : (old : Slots) (ks : List ℕ) (first doomed : Option ℕ) → IsForest old ks → IsWithin old → HasStack old doomed → BuriedSoFar old old first first doomed 0
buried_first old ks first doomed forest within s = grind arith

-- the key of the loop has a node
pub buried_there : (old cur : Slots) (first begin : Option ℕ) (count key : ℕ) → BuriedSoFar old cur first begin (Some key) count → node_at cur key ≢ None
buried_there old cur first begin count key c none = grind arith

-- one more node is buried
pub buried_more : (old cur new : Slots) (first begin after : Option ℕ) (count key : ℕ) (node : Node) → BuriedSoFar old cur first begin (Some key) count → node_at cur key ≡ Some node
    → (node.prev ≡ None → after ≡ node.next) → (node.prev ≢ None → after ≡ begin) → ((xs ys : List ℕ) → IsOrder cur (xs ++ key ∷ ys) → IsOrder new (xs ++ ys)) → TakesSlot key cur new
    → BuriedSoFar old new first after node.doomed (count + 1)
buried_more old cur new first begin after count key node c is_key onto stay out t =
    let rest = (begins_with c.stack key c.at_is).0 in
    let e : c.stack ≡ key ∷ rest = (begins_with c.stack key c.at_is).1 in
    let st : IsStack (dooms cur) (key ∷ rest) = subst (λ (z : List ℕ). IsStack (dooms cur) z) e c.is_stack in
    let doom_is : doom_of node ≡ record { rights = no_rights; next = first_of rest None } = same_some (sym (doom_at cur key node is_key) ∙ st.stacked.0) in
    let p = parted c.left key (c.order.all key node is_key) in
    let here : IsOrder cur (p.front ++ key ∷ p.back) = subst (λ (z : List ℕ). IsOrder cur z) p.is c.order in
    let near = neighbours_at cur p.front key p.back node here is_key in
    let none_new : limbs new key ≡ None = piece_gone limb_of new key t.gone in
    let was_limb : (a : ℕ) (x : Limb) → limbs new a ≡ Some x → limbs cur a ≡ Some x = λ a x is. grind arith in
    record {
      all = c.all;
      stack = rest;
      before = c.before;
      left = p.front ++ p.back;
      was_stack = c.was_stack;
      is_stack = stack_popped cur new key rest st (piece_gone doom_of new key t.gone) t.dooms_same;
      at_is = sym (ap (λ (z : Doom). z.next) doom_is);
      count_is = (let n = c.count_is in let l : length c.stack ≡ length (key ∷ rest) = ap length e in let m : length (key ∷ rest) ≡ length rest + 1 = omega arith in omega (arith, n, l, m));
      was = c.was;
      within = c.within;
      order = out p.front p.back here;
      same =
          order_on (limbs cur) (limbs new) (position c.before) (position (p.front ++ key ∷ p.back)) (position (p.front ++ p.back)) was_limb
          (subst (λ (z : List ℕ). SameOrder (limbs cur) (position c.before) (position z)) p.is c.same) (same_order_out (limbs new) p.front key p.back none_new);
      first_is = λ f. first_left p.front p.back p.back key node.prev node.next begin after near.0 near.1 onto stay (sym (ap (λ (z : List ℕ). first_of z None) p.is) ∙ c.first_is f);
      each = λ k. grind arith;
    }

-- what lies within no rights has none
within_none : (low high : RightsSet) → common low high ≡ low → high ≡ no_rights → low ≡ no_rights
within_none low high e none = sym e ∙ ap (λ (z : RightsSet). common low z) none ∙ common_none low

-- the whole stack has been buried
pub buried_done : (old cur : Slots) (first begin : Option ℕ) (count : ℕ) → BuriedSoFar old cur first begin None count → Buries first begin old cur
buried_done old cur first begin count c =
    let empty : (k : ℕ) (d : Doom) → dooms cur k ≡ Some d → d.rights ≢ no_rights = λ k d is none. none_in c.stack k (c.is_stack.all k d is none) c.at_is in
    let sheds : Sheds (limbs old) (limbs cur) = record {
      left = λ a. elim (c.each a) [ inl b ↦ inl (piece_gone limb_of cur a b.gone) | inr l ↦ inr l.limb ];
      closed = λ a p x is up. elim (c.each p) [
        | inr l ↦ l.limb
        | inl b ↦ absurd (elim (c.each a) [
          | inl g ↦ no_some x (sym (piece_gone limb_of cur a g.gone) ∙ is)
          | inr l ↦
              let was : limbs old a ≡ Some x = sym l.limb ∙ is in
              let n = map_from limb_of (node_at old a) x was in
              let m = map_from doom_of (node_at old p) b.doom b.was in
              let lies = c.within a p x (worth_of n.0) (worth_of m.0) was up (ap (option_map worth_of) n.1) (ap (option_map worth_of) m.1) in
              let none : n.0.rights ≡ no_rights = within_none n.0.rights m.0.rights lies.rights (ap (λ (z : Doom). z.rights) m.2 ∙ b.none) in
              empty a (doom_of n.0) (l.doom ∙ doom_at old a n.0 n.1) none
        ])
      ];
    } in
    grind (arith, tree_sheds)
  where
    none_in : (ks : List ℕ) (k : ℕ) → IsIn ks k → first_of ks None ≡ None → ⊥
    none_in [] k i e = i
    none_in (x ∷ xs) k i e = no_some x (sym e)

-- after as many steps as there are slots nothing is left of the stack
pub buried_ends : (old cur : Slots) (first begin at : Option ℕ) (count : ℕ) → BuriedSoFar old cur first begin at count → length old ≤ count → at ≡ None
buried_ends old cur first begin at count c all =
    let fit = once_fits (length old) c.all c.was_stack.once (λ k i.
    let d = stacked_none (dooms old) c.all c.was_stack.stacked k i in
    let n = map_from doom_of (node_at old k) d.0 d.1 in
    node_within old k n.0 n.1) in
    let n = c.count_is in
    sym c.at_is ∙ none_left c.stack (omega (arith, fit, n, all))
  where
    none_left : (ks : List ℕ) → length ks ≤ 0 → first_of ks None ≡ None
    none_left [] le = refl
    none_left (k ∷ ks) le = absurd (let l : length (k ∷ ks) ≡ length ks + 1 = omega arith in omega (arith, l, le))

-- the nodes that are left are sound
pub sound_buried : (old new : Slots) (first after : Option ℕ) (stamp fresh walk : ℕ) → IsSound old first stamp walk → Buries first after old new → IsFresh stamp fresh → IsSound new after fresh walk
sound_buried old new first after stamp fresh walk s b f =
    sound_fresh new after stamp fresh walk b.left b.forest (b.first_is (first_unique old b.before s.keys b.was.order s.forest.order ∙ s.first_is))
    (within_kept old new b.left b.forest s.within (λ k x is. elim (b.each k) [ inl g ↦ no_some x (sym (piece_gone limb_of new k g.gone) ∙ is) | inr l ↦ (l.limb, l.value) ]))
    (λ some k m is. s.stamped some k m (elim (b.each k) [ inl g ↦ no_some m (sym (piece_gone marks_of new k g.gone) ∙ is) | inr l ↦ sym l.mark ∙ is ])) f

-- what a contract sees of the burial
pub view_buries : (old new : Slots) (first after : Option ℕ) → Buries first after old new → entries.Buries (entries_of old) (entries_of new)
view_buries old new first after b = record {
  gone = λ k t at none. grind (arith, view_gone, standing_node, doom_of, doom_at);
  kept = λ k some. elim (b.each k) [
    | inl g ↦ absurd (let n = map_from doom_of (node_at old k) g.doom g.was in some (standing_of n.0) (standing_is old k ∙ ap (option_map standing_of) n.1) (ap (λ (z : Doom). z.rights) n.2 ∙ g.none))
    | inr l ↦ entry_same old new k l.spot l.limb l.value
  ];
}
