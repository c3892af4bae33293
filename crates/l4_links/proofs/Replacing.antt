-- A child takes the place of a leaf: of its parent's own child, which gets other rights and stays where it stands, or of another leaf.
use Rattle.std.proofs.Common.{◌≡◌, ◌≢◌, ℕ, ◌+◌, ◌∷◌, ◌++◌, List, [], false, Option, Some, None, refl, sym, ap, ◌∙◌, subst, arith}
use Rattle.std.specs.Option.{option_map}
use Rattle.l4_fpage.specs.Rights.{RightsSet, common, no_rights}
use Rattle.l4_nodes.specs.declared.nodes.Node.{Node}
use Rattle.l4_nodes.specs.Slots.{Slots, node_at, spots, SetsRights}
use Rattle.l4_links.specs.Leads.{step}
use Rattle.l4_links.specs.Inside.Trees.{Sprouts}
use Rattle.l4_links.specs.Inside.Orders.{last_of}
use Rattle.l4_links.specs.Inside.Nodes.{limbs, values, Worth, IsOrder, IsForest, Parts, Comes}
use Rattle.l4_links.specs.Inside.Stacks.{HasStack}
use Rattle.l4_links.specs.Inside.Keeping.{IsLive, standing_of}
use Rattle.l4_links.specs.Inside.Growing.{Renews, IsSpareNode, IsBareNode}
use Rattle.l4_links.proofs.Writes.{same_some, map_at, stamped_same, marks_of, doom_of, limb_of, link_of, worth_of}
use Rattle.l4_links.proofs.Positions.{position_here}
use Rattle.l4_links.proofs.Linking.{parted, last_some}
use Rattle.l4_links.proofs.Neighbours.{neighbours_at}
use Rattle.l4_links.proofs.Clearing.{cleared}
use Rattle.l4_links.proofs.Kept.{forest_links, within_at, live_cleared, live_child}
use Rattle.l4_links.proofs.Stacking.{right_at, no_right, stack_off, stack_comes}
use Rattle.l4_links.proofs.Naming.{indexed_same}
use Rattle.l4_links.proofs.Seen.{standing_is}
use Rattle.l4_links.proofs.Views.{view_at}

abbrev worth_under : Node → RightsSet → Worth
worth_under above rights = record { frame = above.frame; rights = common above.rights rights; source = false; granted = None }

-- a leaf that has a parent, and so is not the first node, leaves the list
module _ (old mid : Slots) (key : ℕ) (spare : IsSpareNode key old) (p : Parts key old mid) (order : (xs ys : List ℕ) → IsOrder old (xs ++ key ∷ ys) → IsOrder mid (xs ++ ys)) where
  not_first : (xs ys : List ℕ) (up : Option ℕ) → IsForest old (xs ++ key ∷ ys) → spare.node.parent ≡ up → last_of None xs ≢ None
  not_first [] ys None f is _ = spare.parent is
  not_first [] ys (Some q) f is _ =
      let before = (f.tree.under key q (limb_of spare.node) (ap (option_map limb_of) spare.stands) is).after in
      let here = position_here key ys key refl in
      omega (arith, before, here)
  not_first (x ∷ xs) ys up f is none = last_some x xs none

  pub live_unlinked : (first : Option ℕ) (stamp : ℕ) → IsLive old first stamp → IsLive mid first stamp
  live_unlinked first stamp l =
      let at = parted l.keys key (l.forest.order.all key spare.node spare.stands) in
      let was : IsForest old (at.front ++ key ∷ at.back) = subst (λ (z : List ℕ). IsForest old z) at.is l.forest in
      let near = neighbours_at old at.front key at.back spare.node was.order spare.stands in
      live_cleared old mid first first stamp key l
      (cleared old old mid key spare.node first first
      (record {
        gone = λ k d. absurd (spare.leaf k d);
        spots_gone = λ k d. absurd (spare.leaf k d);
        limbs_kept = λ k _. refl;
        values_kept = λ k _. refl;
        marks_kept = λ k _. refl;
        spots_kept = λ k _. refl;
        front = at.front;
        rest = at.back;
        left = at.back;
        was = was;
        forest = was;
      })
      spare.stands p order (λ none. absurd (not_first at.front at.back spare.node.parent was refl (sym near.0 ∙ none))) (λ _. refl))

module _ (old new : Slots) (parent key : ℕ) (rights : RightsSet) (above : Node) (at_parent : node_at old parent ≡ Some above) (some : common above.rights rights ≢ no_rights) (apart : parent ≢ key) (spare : IsSpareNode key old)
    (bare : IsBareNode key old) where
  renewed : (depth : ℕ) → limbs new key ≡ Some (record { parent = Some parent; depth = depth }) → values new key ≡ Some (worth_under above rights) → ((o : ℕ) → spots new o ≡ spots old o) → ((o : ℕ) → o ≢ key → limbs new o ≡ limbs old o)
      → ((o : ℕ) → o ≢ key → values new o ≡ values old o) → ((first : Option ℕ) (stamp : ℕ) → IsLive old first stamp → IsLive new first stamp) → ((head : Option ℕ) → HasStack old head → HasStack new head) → Renews parent key rights old new
  renewed depth limb value spots_same limbs_same values_same live stack = record {
    replaces = record {
      above = standing_of above;
      at_parent = standing_is old parent ∙ ap (option_map standing_of) at_parent;
      stands = view_at old new key (record { parent = Some parent; depth = depth }) (worth_under above rights) limb value spots_same limbs_same values_same;
    };
    live = live;
    stack = stack;
    indexed = λ all. indexed_same old new all all spots_same refl refl;
  }

  module _ (first : Option ℕ) (stamp : ℕ) (s : IsLive old first stamp) (node : Node) (at_key : node_at old key ≡ Some node) (up : node.parent ≡ Some parent) (w : SetsRights key (common above.rights rights) node.doomed old new) where
    abbrev given : Node → Node
    given n = record n { rights = common above.rights rights; doomed = node.doomed }

    now_at : node_at new key ≡ Some (given node)
    now_at = w.here ∙ ap (option_map given) at_key

    limbs_same : (k : ℕ) → limbs new k ≡ limbs old k
    limbs_same = map_at limb_of given (λ n. refl) key old new w.here w.others

    limb_is : limbs old key ≡ Some (record { parent = Some parent; depth = node.depth })
    limb_is = ap (option_map limb_of) at_key ∙ (λ i. Some (record { parent = up i; depth = node.depth }))

    value_is : values new key ≡ Some (worth_under above rights)
    value_is =
        let base = s.within key parent (record { parent = Some parent; depth = node.depth }) (worth_of node) (worth_of above) limb_is refl (ap (option_map worth_of) at_key) (ap (option_map worth_of) at_parent) in
        let plain = bare node at_key in
        ap (option_map worth_of) now_at ∙ (λ i. Some (record { frame = base.frame i; rights = common above.rights rights; source = plain.1 i; granted = plain.2 i }))

    values_same : (o : ℕ) → o ≢ key → values new o ≡ values old o
    values_same o ne = ap (option_map worth_of) (w.others o ne)

    pub renewed_own : Renews parent key rights old new
    renewed_own = renewed node.depth (limbs_same key ∙ limb_is) value_is w.spots_same (λ o _. limbs_same o) values_same
        (λ begin last l. record {
          keys = l.keys;
          forest = forest_links old new l.keys limbs_same (map_at link_of given (λ n. refl) key old new w.here w.others) l.forest;
          first_is = l.first_is;
          within = within_at old new parent key node.depth (worth_of above) rights l.within (ap (option_map worth_of) at_parent) apart (limbs_same key ∙ limb_is) value_is (λ o _. limbs_same o) values_same (λ low down. spare.leaf low (step down));
          stamped = stamped_same last old new (map_at marks_of given (λ n. refl) key old new w.here w.others) l.stamped;
        })
        (λ head. stack_off old new head key (right_at old key node at_key (bare node at_key).0) (right_at new key (given node) now_at some) (λ o ne. ap (option_map doom_of) (w.others o ne)))

  -- the other leaf has left the list, and comes back under the parent
  pub renewed_other : (mid : Slots) (p : Parts key old mid) → ((xs ys : List ℕ) → IsOrder old (xs ++ key ∷ ys) → IsOrder mid (xs ++ ys)) → (after : Node) → node_at mid parent ≡ Some after → Sprouts (limbs mid) (limbs new) parent key
      → Comes (worth_under after rights) key mid new → ((xs ys : List ℕ) → IsForest mid (xs ++ parent ∷ ys) → IsForest new (xs ++ parent ∷ key ∷ ys)) → Renews parent key rights old new
  renewed_other mid p order after at_after sprouts c forest =
      let same : worth_of after ≡ worth_of above = same_some (sym (ap (option_map worth_of) at_after) ∙ p.values_same parent apart ∙ ap (option_map worth_of) at_parent) in
      renewed (sprouts.above.depth + 1) sprouts.filled (c.value_is ∙ (λ i. Some (record { frame = (same i).frame; rights = common (same i).rights rights; source = false; granted = None }))) (λ o. c.spots_same o ∙ p.spots_same o)
      (λ o ne. c.limbs_same o ne ∙ p.limbs_same o ne) (λ o ne. c.values_same o ne ∙ p.values_same o ne) (λ first stamp l. live_child mid new first stamp parent key after rights (live_unlinked old mid key spare p order first stamp l) at_after sprouts c forest)
      (λ head h. stack_comes (worth_under after rights) key mid new head c (λ none. some (ap (λ (w : Worth). common w.rights rights) (sym same) ∙ none))
      (stack_off old mid head key (right_at old key spare.node spare.stands (bare spare.node spare.stands).0) (no_right mid key p.gone) p.dooms_same h))
