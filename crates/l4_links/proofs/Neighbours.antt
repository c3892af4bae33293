-- The neighbours of a node in its list, and what the writes to them make of the links.
use Rattle.std.proofs.Common.{◌≡◌, ◌≢◌, ℕ, ◌+◌, Bool, true, false, if◌then◌else◌, List, [], ◌∷◌, ◌++◌, Option, Some, None, refl, sym, ap, ◌∙◌, subst, inl, inr}
use Rattle.std.proofs.lemmas.Bool.{cases_eq}
use Rattle.std.specs.Option.{option_map, option_and_then}
use Rattle.l4_nodes.specs.declared.nodes.Node.{Node}
use Rattle.l4_nodes.specs.declared.nodes.Slot.{Slot}
use Rattle.l4_links.specs.Inside.Trees.{Limb, IsTree, Sprouts}
use Rattle.l4_links.specs.Inside.Orders.{IsIn, IsOnce, Link, first_of, last_of, IsLinked, PutsAfter, TakesOut, position}
use Rattle.l4_nodes.specs.Slots.{Slots, slot_at, node_at, Writes, SetsNext, SetsPrev, Spot, wanted_in, spots, spot_of}
use Rattle.l4_links.specs.Inside.Nodes.{limbs, links, IsOrder, IsForest, Parts, TakesSlot, CutsOff, left_spot, Comes}
use Rattle.l4_links.proofs.Writes.{no_some, same_some, map_from, none_from, map_both, doom_of, marks_of, limb_of, link_of, worth_of}
use Rattle.l4_links.proofs.Linking.{in_left, in_right, in_parts, once_front, once_back, once_out, once_in, parted, first_in, last_in, link_at, linked_same, linked_in, linked_out}
use Rattle.l4_links.proofs.Positions.{stands_after}
use Rattle.l4_links.proofs.Growing.{tree_sprouts}

none_before : (o : ℕ) → ◌≢◌ {A = Option ℕ} None (Some o)
none_before o w = no_some o w

last_within : (xs : List ℕ) (a : ℕ) → last_of None xs ≡ Some a → IsIn xs a
last_within [] a e = absurd (none_before a e)
last_within (x ∷ xs) a e = last_in x xs a e

pub once_apart : (xs : List ℕ) (k : ℕ) (ys : List ℕ) (a : ℕ) → IsOnce (xs ++ k ∷ ys) → IsIn xs a → ¬ (IsIn ys a)
once_apart [] k ys a once i j = i
once_apart (x ∷ xs) k ys a once i j = elim i [
  | inl e ↦ once.0 (in_right xs (k ∷ ys) x (inr (subst (λ (z : ℕ). IsIn ys z) (sym e) j)))
  | inr h ↦ once_apart xs k ys a once.1 h j
]

-- a node's neighbours are two others
pub record HasNeighbours (key : ℕ) (node : Node) : Type 0 where
  pub prev_other : node.prev ≢ Some key
  pub next_other : node.next ≢ Some key
  pub differ : (n : ℕ) → node.prev ≡ Some n → node.next ≢ Some n

pub neighbours_at : (slots : Slots) (xs : List ℕ) (key : ℕ) (ys : List ℕ) (node : Node) → IsOrder slots (xs ++ key ∷ ys) → node_at slots key ≡ Some node
    → (node.prev ≡ last_of None xs) × (node.next ≡ first_of ys None)
neighbours_at slots xs key ys node order at =
    let l = link_at (links slots) None xs key ys None order.linked in
    let e : ◌≡◌ {A = Option Link} (Some (link_of node)) (Some (record { prev = last_of None xs; next = first_of ys None })) = sym (ap (option_map link_of) at) ∙ l in
    let f : link_of node ≡ record { prev = last_of None xs; next = first_of ys None } = cc in
    (ap (λ (z : Link). z.prev) f, ap (λ (z : Link). z.next) f)

pub has_neighbours : (slots : Slots) (ks : List ℕ) (key : ℕ) (node : Node) → IsOrder slots ks → node_at slots key ≡ Some node → HasNeighbours key node
has_neighbours slots ks key node order at =
    let p = parted ks key (order.all key node at) in
    let o : IsOrder slots (p.front ++ key ∷ p.back) = subst (λ (z : List ℕ). IsOrder slots z) p.is order in
    let n = neighbours_at slots p.front key p.back node o at in
    record {
      prev_other = λ e. once_front p.front key p.back o.once (last_within p.front key (sym n.0 ∙ e));
      next_other = λ e. once_back p.front key p.back o.once (first_in p.back key (sym n.1 ∙ e));
      differ = λ k e f. once_apart p.front key p.back k o.once (last_within p.front k (sym n.0 ∙ e)) (first_in p.back k (sym n.1 ∙ f));
    }

-- what a write makes of a link
link_set : (change : Node → Node) (changed : Link → Link) → ((n : Node) → link_of (change n) ≡ changed (link_of n)) → (o : Option Node) (y : Link) → option_map link_of o ≡ Some y → option_map link_of (option_map change o) ≡ Some (changed y)
link_set change changed is None y e = absurd (let w : ◌≡◌ {A = Option Link} None (Some y) = e in cc)
link_set change changed is (Some n) y e =
    let w : ◌≡◌ {A = Option Link} (Some (link_of n)) (Some y) = e in
    let f : link_of n ≡ y = cc in
    ap (λ (z : Link). Some z) (is n ∙ ap changed f)

pub next_set : (o : Option Node) (next : Option ℕ) (y : Link) → option_map link_of o ≡ Some y → option_map link_of (option_map (λ (n : Node). record n { next = next }) o) ≡ Some (record y { next = next })
next_set o next = link_set (λ (n : Node). record n { next = next }) (λ (z : Link). record z { next = next }) (λ n. refl) o

pub prev_set : (o : Option Node) (prev : Option ℕ) (y : Link) → option_map link_of o ≡ Some y → option_map link_of (option_map (λ (n : Node). record n { prev = prev }) o) ≡ Some (record y { prev = prev })
prev_set o prev = link_set (λ (n : Node). record n { prev = prev }) (λ (z : Link). record z { prev = prev }) (λ n. refl) o

-- a key that was taken out, and its neighbours' links written
pub taken_out : (a b c d : Slots) (ks : List ℕ) (key : ℕ) (node : Node) → IsOrder a ks → node_at a key ≡ Some node → node_at b key ≡ None → ((o : ℕ) → o ≢ key → node_at b o ≡ node_at a o)
    → SetsNext node.prev node.next b c → SetsPrev node.next node.prev c d → TakesOut (links a) (links d) key
taken_out a b c d ks key node order at gone same f g =
    let h = has_neighbours a ks key node order at in
    record {
      link = link_of node;
      was = ap (option_map link_of) at;
      gone = ap (option_map link_of) (g.others key h.next_other ∙ f.others key h.prev_other ∙ gone);
      before = λ n y e l.
          let ne : n ≢ key = λ z. h.prev_other (e ∙ ap (λ (q : ℕ). Some q) z) in
          ap (option_map link_of) (g.others n (h.differ n e) ∙ f.here n e ∙ ap (option_map (λ (z : Node). record z { next = node.next })) (same n ne))
          ∙ next_set (node_at a n) node.next y l;
      after = λ n y e l.
          let ne : n ≢ key = λ z. h.next_other (e ∙ ap (λ (q : ℕ). Some q) z) in
          ap (option_map link_of) (g.here n e ∙ ap (option_map (λ (z : Node). record z { prev = node.prev })) (f.others n (λ q. h.differ n q e) ∙ same n ne))
          ∙ prev_set (node_at a n) node.prev y l;
      others = λ o ne np nn. ap (option_map link_of) (g.others o nn ∙ f.others o np ∙ same o ne);
    }

-- a key with a node is in the list
pub stands_in : (slots : Slots) (ks : List ℕ) → IsOrder slots ks → (k : ℕ) → node_at slots k ≢ None → IsIn ks k
stands_in slots ks order k some = elim (node_at slots k) as (λ o. node_at slots k ≡ o → IsIn ks k) [
  | None ↦ λ e. absurd (some e)
  | Some n ↦ λ e. order.all k n e
] refl

-- the order without it
pub order_out : (old new : Slots) (xs : List ℕ) (key : ℕ) (ys : List ℕ) → IsOrder old (xs ++ key ∷ ys) → TakesOut (links old) (links new) key
    → ((o : ℕ) (n : Node) → o ≢ key → node_at new o ≡ Some n → node_at old o ≢ None) → node_at new key ≡ None → IsOrder new (xs ++ ys)
order_out old new xs key ys order takes were gone = record {
  once = once_out xs key ys order.once;
  linked = linked_out (links old) (links new) None xs key ys order.linked order.once (λ o i. none_before o) takes;
  all = λ k n at.
      let ne : k ≢ key = λ e. let w : ◌≡◌ {A = Option Node} None (Some n) = sym gone ∙ sym (ap (node_at new) e) ∙ at in absurd (let z : ◌≡◌ {A = Option Node} None (Some n) = w in cc) in
      let i = stands_in old (xs ++ key ∷ ys) order k (were k n ne at) in
      elim (in_parts xs (key ∷ ys) k i) [
        | inl l ↦ in_left xs ys k l
        | inr r ↦ elim r [ inl e ↦ absurd (ne (sym e)) | inr j ↦ in_right xs ys k j ]
      ];
}

pub some_from : (x y : Slots) (o : ℕ) (n : Node) → limbs x o ≡ limbs y o → node_at x o ≡ Some n → node_at y o ≢ None
some_from x y o n same at none =
    let w : ◌≡◌ {A = Option Limb} (Some (record { parent = n.parent; depth = n.depth })) None = sym (ap (option_map (λ (z : Node). record { parent = z.parent; depth = z.depth })) at) ∙ same ∙ ap (option_map (λ (z : Node). record { parent = z.parent; depth = z.depth })) none in
    absurd (let z : ◌≡◌ {A = Option Limb} (Some (record { parent = n.parent; depth = n.depth })) None = w in cc)

-- each key of the list has a node
pub in_list : (slots : Slots) (ks : List ℕ) → IsOrder slots ks → (k : ℕ) → IsIn ks k → (n : Node) × (node_at slots k ≡ Some n)
in_list slots ks order k i =
    let p = parted ks k i in
    let l = link_at (links slots) None p.front k p.back None (subst (λ (z : List ℕ). IsLinked (links slots) None z None) p.is order.linked) in
    elim (node_at slots k) as (λ o. node_at slots k ≡ o → option_map link_of o ≡ Some (record { prev = last_of None p.front; next = first_of p.back None }) → (n : Node) × (node_at slots k ≡ Some n)) [
      | None ↦ λ e w. absurd (let z : ◌≡◌ {A = Option Link} None (Some (record { prev = last_of None p.front; next = first_of p.back None })) = w in cc)
      | Some n ↦ λ e w. (n, e)
    ] refl l

-- a key with a limb is in the list
pub limb_in : (slots : Slots) (ks : List ℕ) → IsOrder slots ks → (k : ℕ) (x : Limb) → limbs slots k ≡ Some x → IsIn ks k
limb_in slots ks order k x is = let n = map_from limb_of (node_at slots k) x is in order.all k n.0 n.1

-- trees and links alone make a forest
pub forest_links : (old new : Slots) (ks : List ℕ) → ((k : ℕ) → limbs new k ≡ limbs old k) → ((k : ℕ) → links new k ≡ links old k) → IsForest old ks → IsForest new ks
forest_links old new ks limbs_same links_same f = record {
  order = record {
    once = f.order.once;
    linked = linked_same (links old) (links new) None ks None (λ k i. links_same k) f.order.linked;
    all = λ k n at. limb_in old ks f.order k (limb_of n) (sym (limbs_same k) ∙ ap (option_map limb_of) at);
  };
  tree = subst (λ (g : ℕ → Option Limb). IsTree g (position ks)) (λ i k. sym (limbs_same k) i) f.tree;
}

pub not_in_list : (slots : Slots) (ks : List ℕ) → IsOrder slots ks → (k : ℕ) → node_at slots k ≡ None → ¬ (IsIn ks k)
not_in_list slots ks order k none i =
    let n = in_list slots ks order k i in
    let w : ◌≡◌ {A = Option Node} None (Some n.0) = sym none ∙ n.1 in cc

pub next_live : (slots : Slots) (ks : List ℕ) (key : ℕ) (node : Node) → IsOrder slots ks → node_at slots key ≡ Some node → (n : ℕ) → node.next ≡ Some n → IsIn ks n
next_live slots ks key node order at n e =
    let p = parted ks key (order.all key node at) in
    let o : IsOrder slots (p.front ++ key ∷ p.back) = subst (λ (z : List ℕ). IsOrder slots z) p.is order in
    let h = neighbours_at slots p.front key p.back node o at in
    subst (λ (z : List ℕ). IsIn z n) (sym p.is) (in_right p.front (key ∷ p.back) n (inr (first_in p.back n (sym h.1 ∙ e))))

-- a key that was put in, and its neighbours' links written
pub put_in : (a b c d : Slots) (ks : List ℕ) (p key : ℕ) (above node : Node) → IsOrder a ks → node_at a p ≡ Some above → node_at a key ≡ None → node.prev ≡ Some p → node.next ≡ above.next
    → node_at b key ≡ Some node → ((o : ℕ) → o ≢ key → node_at b o ≡ node_at a o) → SetsPrev above.next (Some key) b c → SetsNext (Some p) (Some key) c d → PutsAfter (links a) (links d) p key
put_in a b c d ks p key above node order at vacant prev_is next_is filled same f g =
    let h = has_neighbours a ks p above order at in
    let pk : p ≢ key = λ e. let w : ◌≡◌ {A = Option Node} (Some above) None = sym at ∙ ap (node_at a) e ∙ vacant in absurd (let z : ◌≡◌ {A = Option Node} (Some above) None = w in cc) in
    let nk : above.next ≢ Some key = λ e. not_in_list a ks order key vacant (next_live a ks p above order at key e) in
    record {
      link = link_of above;
      was = ap (option_map link_of) at;
      vacant = ap (option_map link_of) vacant;
      here =
          ap (option_map link_of) (g.others key (λ e. pk (same_some e)) ∙ f.others key nk ∙ filled)
          ∙ (λ i. Some (record { prev = prev_is i; next = next_is i }));
      before = ap (option_map link_of) (g.here p refl ∙ ap (option_map (λ (z : Node). record z { next = Some key })) (f.others p h.next_other ∙ same p pk ∙ at));
      after = λ n y e l.
          let ne : n ≢ key = λ z. nk (e ∙ ap (λ (q : ℕ). Some q) z) in
          let np : ◌≢◌ {A = Option ℕ} (Some p) (Some n) = λ z. h.next_other (e ∙ sym z) in
          ap (option_map link_of) (g.others n np ∙ f.here n e ∙ ap (option_map (λ (z : Node). record z { prev = Some key })) (same n ne))
          ∙ prev_set (node_at a n) (Some key) y l;
      others = λ o np ne nn. ap (option_map link_of) (g.others o (λ z. np (sym (same_some z))) ∙ f.others o nn ∙ same o ne);
    }

is_it : {X : Type 0} (o : Option ℕ) (k : ℕ) → (o ≡ Some k → X) → (o ≢ Some k → X) → X
is_it None k f g = g (none_before k)
is_it (Some n) k f g = elim (cases_eq n k) [ inl e ↦ f (ap (λ (q : ℕ). Some q) e) | inr ne ↦ g (λ e. ne (same_some e)) ]

-- a write to links leaves all else of the nodes
pub map_next : {X : Type 0} (F : Node → X) (at next : Option ℕ) → ((n : Node) → F (record n { next = next }) ≡ F n) → (old new : Slots) → SetsNext at next old new → (k : ℕ) → option_map F (node_at new k) ≡ option_map F (node_at old k)
map_next F at next same old new s k = is_it at k (λ e. ap (option_map F) (s.here k e) ∙ map_both F (λ (n : Node). record n { next = next }) same (node_at old k)) (λ ne. ap (option_map F) (s.others k ne))

pub map_prev : {X : Type 0} (F : Node → X) (at prev : Option ℕ) → ((n : Node) → F (record n { prev = prev }) ≡ F n) → (old new : Slots) → SetsPrev at prev old new → (k : ℕ) → option_map F (node_at new k) ≡ option_map F (node_at old k)
map_prev F at prev same old new s k = is_it at k (λ e. ap (option_map F) (s.here k e) ∙ map_both F (λ (n : Node). record n { prev = prev }) same (node_at old k)) (λ ne. ap (option_map F) (s.others k ne))

-- writes to links leave the trees
pub limbs_next : (at next : Option ℕ) (old new : Slots) → SetsNext at next old new → (k : ℕ) → limbs new k ≡ limbs old k
limbs_next at next old new s = map_next limb_of at next (λ n. refl) old new s

pub limbs_prev : (at prev : Option ℕ) (old new : Slots) → SetsPrev at prev old new → (k : ℕ) → limbs new k ≡ limbs old k
limbs_prev at prev old new s = map_prev limb_of at prev (λ n. refl) old new s

-- the new key is its parent's child
pub sprouts : (a b c d : Slots) (p key : ℕ) (above node : Node) → node_at a p ≡ Some above → node_at a key ≡ None → node.parent ≡ Some p → node.depth ≡ above.depth + 1
    → node_at b key ≡ Some node → ((o : ℕ) → o ≢ key → node_at b o ≡ node_at a o) → SetsPrev above.next (Some key) b c → SetsNext (Some p) (Some key) c d → Sprouts (limbs a) (limbs d) p key
sprouts a b c d p key above node at vacant parent_is depth_is filled same f g = record {
  above = limb_of above;
  at_parent = ap (option_map limb_of) at;
  vacant = ap (option_map limb_of) vacant;
  filled =
      limbs_next (Some p) (Some key) c d g key ∙ limbs_prev above.next (Some key) b c f key ∙ ap (option_map limb_of) filled
      ∙ (λ i. Some (record { parent = parent_is i; depth = depth_is i }));
  others = λ o ne. limbs_next (Some p) (Some key) c d g o ∙ limbs_prev above.next (Some key) b c f o ∙ ap (option_map limb_of) (same o ne);
}

-- a key without a node has neither limb nor link
pub no_node : (slots : Slots) (k : ℕ) → limbs slots k ≡ None → node_at slots k ≡ None
no_node slots k e = none_from limb_of (node_at slots k) e

-- the forest with the new key
pub forest_in : (old new : Slots) (xs : List ℕ) (p key : ℕ) (ys : List ℕ) → IsForest old (xs ++ p ∷ ys) → PutsAfter (links old) (links new) p key → Sprouts (limbs old) (limbs new) p key → IsForest new (xs ++ p ∷ key ∷ ys)
forest_in old new xs p key ys forest puts s =
    let vacant = no_node old key s.vacant in
    let out = not_in_list old (xs ++ p ∷ ys) forest.order key vacant in
    let once = once_in xs p key ys forest.order.once out in
    record {
      order = record {
        once = once;
        linked = linked_in (links old) (links new) None xs p key ys forest.order.linked forest.order.once out puts;
        all = λ k n at. elim (cases_eq k key) [
          | inl e ↦ in_right xs (p ∷ key ∷ ys) k (inr (inl (sym e)))
          | inr ne ↦
              let was = some_from new old k n (s.others k ne) at in
              let i : IsIn (xs ++ p ∷ ys) k = elim (node_at old k) as (λ o. node_at old k ≡ o → IsIn (xs ++ p ∷ ys) k) [ None ↦ λ e. absurd (was e) | Some m ↦ λ e. forest.order.all k m e ] refl in
              elim (in_parts xs (p ∷ ys) k i) [
                | inl l ↦ in_left xs (p ∷ key ∷ ys) k l
                | inr r ↦ elim r [ inl e ↦ in_right xs (p ∷ key ∷ ys) k (inl e) | inr j ↦ in_right xs (p ∷ key ∷ ys) k (inr (inr j)) ]
              ]
        ];
      };
      tree =
          tree_sprouts (limbs old) (limbs new) (position (xs ++ p ∷ ys)) (position (xs ++ p ∷ key ∷ ys)) p key forest.tree s
          (stands_after (limbs old) xs p key ys s.vacant (λ e. out (in_right xs (p ∷ ys) key (inl (sym e)))) (once_front xs p ys forest.order.once) (λ i. out (in_left xs (p ∷ ys) key i)));
    }

pub no_limb : (a b : Slots) (k : ℕ) → node_at a k ≡ node_at b k → limbs a k ≡ limbs b k
no_limb a b k e = ap (option_map limb_of) e

pub no_link : (slots : Slots) (k : ℕ) → links slots k ≡ None → node_at slots k ≡ None
no_link slots k e = none_from link_of (node_at slots k) e

-- a key that has left its list
pub parts_out : (a b c d : Slots) (key : ℕ) (node : Node) → Writes key None a b → SetsNext node.prev node.next b c → SetsPrev node.next node.prev c d → slot_at a key ≢ None → TakesOut (links a) (links d) key → Parts key a d
parts_out a b c d key node w f g slot t = record {
  gone = no_link d key t.gone;
  limbs_same = λ o ne. map_prev limb_of node.next node.prev (λ n. refl) c d g o ∙ map_next limb_of node.prev node.next (λ n. refl) b c f o ∙ ap (option_map limb_of) (w.others o ne);
  values_same = λ o ne. map_prev worth_of node.next node.prev (λ n. refl) c d g o ∙ map_next worth_of node.prev node.next (λ n. refl) b c f o ∙ ap (option_map worth_of) (w.others o ne);
  marks_same = λ o ne. map_prev marks_of node.next node.prev (λ n. refl) c d g o ∙ map_next marks_of node.prev node.next (λ n. refl) b c f o ∙ ap (option_map marks_of) (w.others o ne);
  dooms_same = λ o ne. map_prev doom_of node.next node.prev (λ n. refl) c d g o ∙ map_next doom_of node.prev node.next (λ n. refl) b c f o ∙ ap (option_map doom_of) (w.others o ne);
  spots_same = λ o. g.spots_same o ∙ f.spots_same o ∙ w.spots_same o;
}

-- a key that has come into the list
pub comes_in : (a b c d : Slots) (key : ℕ) (node : Node) (at_next next at_prev prev : Option ℕ) → node_at a key ≡ None → slot_at a key ≢ None → Writes key (Some node) a b → SetsPrev at_prev prev b c → SetsNext at_next next c d
    → node.mark ≡ 0 → node.seen ≡ 0 → Comes (worth_of node) key a d
comes_in a b c d key node at_next next at_prev prev blank slot w f g mark seen = record {
  vacant = blank;
  value_is = map_next worth_of at_next next (λ n. refl) c d g key ∙ map_prev worth_of at_prev prev (λ n. refl) b c f key ∙ ap (option_map worth_of) (w.here slot);
  marks_is = map_next marks_of at_next next (λ n. refl) c d g key ∙ map_prev marks_of at_prev prev (λ n. refl) b c f key ∙ ap (option_map marks_of) (w.here slot) ∙ (λ i. Some (record { mark = mark i; seen = seen i }));
  limbs_same = λ o ne. map_next limb_of at_next next (λ n. refl) c d g o ∙ map_prev limb_of at_prev prev (λ n. refl) b c f o ∙ ap (option_map limb_of) (w.others o ne);
  values_same = λ o ne. map_next worth_of at_next next (λ n. refl) c d g o ∙ map_prev worth_of at_prev prev (λ n. refl) b c f o ∙ ap (option_map worth_of) (w.others o ne);
  marks_same = λ o ne. map_next marks_of at_next next (λ n. refl) c d g o ∙ map_prev marks_of at_prev prev (λ n. refl) b c f o ∙ ap (option_map marks_of) (w.others o ne);
  dooms_same = λ o ne. map_next doom_of at_next next (λ n. refl) c d g o ∙ map_prev doom_of at_prev prev (λ n. refl) b c f o ∙ ap (option_map doom_of) (w.others o ne);
  spots_same = λ o. g.spots_same o ∙ f.spots_same o ∙ w.spots_same o;
}

-- a slot that goes with its key
pub takes_slot : (old middle new : Slots) (key : ℕ) → Parts key old middle → slot_at new key ≡ None → ((o : ℕ) → o ≢ key → slot_at new o ≡ slot_at middle o) → TakesSlot key old new
takes_slot old middle new key p gone others = record {
  gone = gone;
  limbs_same = λ o ne. ap (λ (s : Option Slot). option_map limb_of (option_and_then (λ (z : Slot). z.node) s)) (others o ne) ∙ p.limbs_same o ne;
  values_same = λ o ne. ap (λ (s : Option Slot). option_map worth_of (option_and_then (λ (z : Slot). z.node) s)) (others o ne) ∙ p.values_same o ne;
  marks_same = λ o ne. ap (λ (s : Option Slot). option_map marks_of (option_and_then (λ (z : Slot). z.node) s)) (others o ne) ∙ p.marks_same o ne;
  dooms_same = λ o ne. ap (λ (s : Option Slot). option_map doom_of (option_and_then (λ (z : Slot). z.node) s)) (others o ne) ∙ p.dooms_same o ne;
  spots_same = λ o ne. ap (λ (s : Option Slot). option_map spot_of s) (others o ne) ∙ p.spots_same o;
}

-- a node that is cut off: a wanted page is left, and any other goes
pub cut_wanted : (old new : Slots) (key : ℕ) → wanted_in (spots old key) ≡ true → slot_at old key ≢ None → Writes key None old new → CutsOff key old new
cut_wanted old new key wanted there w = record {
  gone = w.here there;
  spot = w.spots_same key ∙ sym (left_wanted (spots old key) wanted);
  nodes_same = w.others;
  spots_same = λ o ne. w.spots_same o;
}
  where
    left_wanted : (o : Option Spot) → wanted_in o ≡ true → left_spot o ≡ o
    left_wanted None e = refl
    left_wanted (Some s) e = ap (λ (b : Bool). if b then Some s else None) e

pub cut_unwanted : (old new : Slots) (key : ℕ) → wanted_in (spots old key) ≡ false → slot_at new key ≡ None → ((o : ℕ) → o ≢ key → slot_at new o ≡ slot_at old o) → CutsOff key old new
cut_unwanted old new key unwanted gone others = record {
  gone = ap (option_and_then (λ (s : Slot). s.node)) gone;
  spot = ap (option_map spot_of) gone ∙ sym (left_unwanted (spots old key) unwanted);
  nodes_same = λ o ne. ap (option_and_then (λ (s : Slot). s.node)) (others o ne);
  spots_same = λ o ne. ap (option_map spot_of) (others o ne);
}
  where
    left_unwanted : (o : Option Spot) → wanted_in o ≡ false → left_spot o ≡ None
    left_unwanted None e = refl
    left_unwanted (Some s) e = ap (λ (b : Bool). if b then Some s else None) e

-- the same nodes are the same order
pub order_same_nodes : (old new : Slots) (ks : List ℕ) → ((o : ℕ) → node_at new o ≡ node_at old o) → IsOrder old ks → IsOrder new ks
order_same_nodes old new ks same o = record {
  once = o.once;
  linked = subst (λ (f : ℕ → Option Link). IsLinked f None ks None) (λ i k. option_map link_of (sym (same k) i)) o.linked;
  all = λ k n at. o.all k n (sym (same k) ∙ at);
}

pub nodes_freed : (old new : Slots) (key : ℕ) → node_at old key ≡ None → slot_at new key ≡ None → ((o : ℕ) → o ≢ key → slot_at new o ≡ slot_at old o) → (k : ℕ) → node_at new k ≡ node_at old k
nodes_freed old new key blank gone others k = elim (cases_eq k key) [
  | inl e ↦ ap (node_at new) e ∙ ap (option_and_then (λ (s : Slot). s.node)) gone ∙ sym blank ∙ sym (ap (node_at old) e)
  | inr ne ↦ ap (option_and_then (λ (s : Slot). s.node)) (others k ne)
]

-- a blank that goes leaves the order
pub order_freed : (old new : Slots) (key : ℕ) {ks : List ℕ} → node_at old key ≡ None → slot_at new key ≡ None → ((o : ℕ) → o ≢ key → slot_at new o ≡ slot_at old o) → IsOrder old ks → IsOrder new ks
order_freed old new key {ks} blank gone others o = order_same_nodes old new ks (nodes_freed old new key blank gone others) o
