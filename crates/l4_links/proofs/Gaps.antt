-- A run of deeper keys whose nodes have gone, and the gap in the list that is closed then.
use Rattle.std.proofs.Common.{◌≡◌, ◌≢◌, ℕ, ◌+◌, ◌<◌, List, [], ◌∷◌, ◌++◌, length, Option, Some, None, refl, sym, ap, ◌∙◌, subst, arith, inl, inr, append_assoc, length-append}
use Rattle.std.proofs.lemmas.Bool.{cases_eq}
use Rattle.std.specs.Option.{option_map}
use Rattle.l4_nodes.specs.declared.nodes.Node.{Node}
use Rattle.l4_links.specs.Inside.Orders.{IsIn, IsOnce, Link, first_of}
use Rattle.l4_nodes.specs.Slots.{Slots, node_at, spots}
use Rattle.l4_links.specs.Inside.Nodes.{limbs, Stops, links, values, marks, IsOrder, IsForest, CutsOff, ClosesGap, left_spot}
use Rattle.l4_links.proofs.Writes.{no_some, same_some, marks_of, limb_of, link_of, worth_of}
use Rattle.l4_links.proofs.Linking.{in_left, in_right, in_parts, once_front, once_back, once_out, first_in, linked_cut}
use Rattle.l4_links.proofs.Neighbours.{once_apart, limb_in, map_next, map_prev, next_set, prev_set, order_same_nodes, no_node}
use Rattle.l4_links.proofs.Cutting.{is_in_or, once_rest, once_disjoint, in_front, is_top, in_run, in_back, stands, HasPassed, passed_first, passed_more, passed_ends, CutSoFar, passed_there}

-- the deeper keys after the top have no nodes any more up to this one, and all other nodes are as they were
pub record GoneSoFar (old cur : Slots) (top depth : ℕ) (at : Option ℕ) (count : ℕ) : Type 0 where
  pub run : List ℕ
  pub passed : HasPassed old top depth at run
  pub count_is : length run ≡ count
  pub gone : (k : ℕ) → IsIn run k → node_at cur k ≡ None
  pub nodes_same : (k : ℕ) → ¬ (IsIn run k) → node_at cur k ≡ node_at old k
  pub spots_gone : (k : ℕ) → IsIn run k → spots cur k ≡ left_spot (spots old k)
  pub spots_same : (k : ℕ) → ¬ (IsIn run k) → spots cur k ≡ spots old k

-- the walk before its first step
pub gone_first : (old : Slots) (ks : List ℕ) (top : ℕ) (node : Node) → IsForest old ks → node_at old top ≡ Some node → GoneSoFar old old top node.depth node.next 0
gone_first old ks top node forest at = record {
  run = [];
  passed = passed_first old ks top node forest at;
  count_is = refl;
  gone = λ k i. absurd i;
  nodes_same = λ k out. refl;
  spots_gone = λ k i. absurd i;
  spots_same = λ k out. refl;
}

-- a node that is there was there before
pub gone_was : (old cur : Slots) (top depth count key : ℕ) (at : Option ℕ) (node : Node) (c : GoneSoFar old cur top depth at count) → node_at cur key ≡ Some node → (node_at old key ≡ Some node) × ¬ (IsIn c.run key)
gone_was old cur top depth count key at node c at_key = grind arith

-- one more node has gone
pub gone_more : (old cur new : Slots) (top depth count key : ℕ) (at : Option ℕ) (node : Node) → GoneSoFar old cur top depth at count → at ≡ Some key → node_at cur key ≡ Some node → depth < node.depth → CutsOff key cur new
    → GoneSoFar old new top depth node.next (count + 1)
gone_more old cur new top depth count key at node c is_key at_key deep out =
    let was = gone_was old cur top depth count key at node c at_key in
    let in_run : (k : ℕ) → k ≢ key → IsIn (c.run ++ key ∷ []) k → IsIn c.run k = λ k ne i. grind (arith, in_parts) in
    let other : (k : ℕ) → ¬ (IsIn (c.run ++ key ∷ []) k) → k ≢ key = λ k off ke. off (in_right c.run (key ∷ []) k (inl (sym ke))) in
    let off_run : (k : ℕ) → ¬ (IsIn (c.run ++ key ∷ []) k) → ¬ (IsIn c.run k) = λ k off i. off (in_left c.run (key ∷ []) k i) in
    record {
      run = c.run ++ key ∷ [];
      passed = passed_more old top depth key at node c.run c.passed is_key was.0 deep;
      count_is = (let l : length (c.run ++ key ∷ []) ≡ length c.run + length (key ∷ []) = length-append c.run (key ∷ []) in let n = c.count_is in let one : length (key ∷ []) ≡ 1 = omega arith in omega (arith, l, n, one));
      gone = λ k i. grind arith;
      nodes_same = λ k off. out.nodes_same k (other k off) ∙ c.nodes_same k (off_run k off);
      spots_gone = λ k i. grind arith;
      spots_same = λ k off. out.spots_same k (other k off) ∙ c.spots_same k (off_run k off);
    }

-- fewer nodes have gone than there are slots
pub gone_ends : (old cur : Slots) (top depth : ℕ) (at : Option ℕ) (count : ℕ) → GoneSoFar old cur top depth at count → count < length old
gone_ends old cur top depth at count c = (let e = passed_ends old top depth at c.run c.passed in let n = c.count_is in omega (arith, e, n))

-- the next key of the walk has its node
pub gone_there : (old cur : Slots) (top depth count key : ℕ) (at : Option ℕ) → GoneSoFar old cur top depth at count → at ≡ Some key → node_at cur key ≢ None
gone_there old cur top depth count key at c is_key none =
    let p = c.passed in
    let once = once_rest p.front top (c.run ++ p.back) p.forest.order.once in
    passed_there old top depth key at c.run p is_key (sym (c.nodes_same key (λ j. once_disjoint c.run p.back key once j (first_in p.back key (sym p.at_is ∙ is_key)))) ∙ none)

-- where the walk stops now, it stopped before
pub gone_stops : (old cur : Slots) (top depth : ℕ) (at : Option ℕ) (count : ℕ) → GoneSoFar old cur top depth at count → Stops (limbs cur) depth at → Stops (limbs old) depth at
gone_stops old cur top depth at count c stops b y is at_b =
    let p = c.passed in
    let once = once_rest p.front top (c.run ++ p.back) p.forest.order.once in
    stops b y is (ap (option_map limb_of) (c.nodes_same b (λ j. once_disjoint c.run p.back b once j (first_in p.back b (sym p.at_is ∙ is)))) ∙ at_b)

-- the keys that are left each stand once
once_cut : (xs run back : List ℕ) → IsOnce (xs ++ (run ++ back)) → IsOnce (xs ++ back)
once_cut xs [] back once = once
once_cut xs (r ∷ run) back once = once_cut xs run back (once_out xs r (run ++ back) once)

-- what is left is as it was, whatever was written to links
cut_from : (old cur new : Slots) (top depth : ℕ) (at : Option ℕ) (count : ℕ) (c : GoneSoFar old cur top depth at count) → IsOrder new (c.passed.front ++ top ∷ c.passed.back)
    → ((k : ℕ) → limbs new k ≡ limbs cur k) → ((k : ℕ) → values new k ≡ values cur k) → ((k : ℕ) → marks new k ≡ marks cur k) → ((k : ℕ) → spots new k ≡ spots cur k) → CutSoFar old new top depth at
cut_from old cur new top depth at count c order limbs_same values_same marks_same spots_same = record {
  run = c.run;
  passed = c.passed;
  order = order;
  gone = λ k i. no_node new k (limbs_same k ∙ ap (option_map limb_of) (c.gone k i));
  limbs_same = λ k off. limbs_same k ∙ ap (option_map limb_of) (c.nodes_same k off);
  spots_gone = λ k i. spots_same k ∙ c.spots_gone k i;
  values_same = λ k off. values_same k ∙ ap (option_map worth_of) (c.nodes_same k off);
  marks_same = λ k off. marks_same k ∙ ap (option_map marks_of) (c.nodes_same k off);
  spots_same = λ k off. spots_same k ∙ c.spots_same k off;
}

-- the list once the gap is closed
module _ (old cur new : Slots) (top depth : ℕ) (at : Option ℕ) (count : ℕ) (c : GoneSoFar old cur top depth at count) (g : ClosesGap top at cur new) where
  keeps : {X : Type 0} (F : Node → X) → ((n : Node) → F (record n { next = at }) ≡ F n) → ((n : Node) → F (record n { prev = Some top }) ≡ F n) → (k : ℕ) → option_map F (node_at new k) ≡ option_map F (node_at cur k)
  keeps F onward back k = map_prev F at (Some top) back g.middle new g.back k ∙ map_next F (Some top) at onward cur g.middle g.onward k

  same_limbs : (k : ℕ) → limbs new k ≡ limbs cur k
  same_limbs k = keeps limb_of (λ n. refl) (λ n. refl) k

  top_behind : ¬ (IsIn (c.run ++ c.passed.back) top)
  top_behind = once_back c.passed.front top (c.run ++ c.passed.back) c.passed.forest.order.once

  back_not_top : (k : ℕ) → IsIn c.passed.back k → k ≢ top
  back_not_top k i e = top_behind (in_right c.run c.passed.back top (subst (λ (z : ℕ). IsIn c.passed.back z) e i))

  back_not_run : (k : ℕ) → IsIn c.passed.back k → ¬ (IsIn c.run k)
  back_not_run k i j = once_disjoint c.run c.passed.back k (once_rest c.passed.front top (c.run ++ c.passed.back) c.passed.forest.order.once) j i

  not_next : (k : ℕ) → ¬ (IsIn c.passed.back k) → at ≢ Some k
  not_next k off e = off (first_in c.passed.back k (sym c.passed.at_is ∙ e))

  plain : (k : ℕ) → k ≢ top → at ≢ Some k → ¬ (IsIn c.run k) → node_at new k ≡ node_at old k
  plain k ne na off = g.back.others k na ∙ g.onward.others k (λ e. ne (sym (same_some e))) ∙ c.nodes_same k off

  front_same : (k : ℕ) → IsIn c.passed.front k → links new k ≡ links old k
  front_same k i = grind (arith, once_apart, link_of, plain, once_front, not_next, in_right, in_left)

  here : (y : Link) → links old top ≡ Some y → links new top ≡ Some (record y { next = first_of c.passed.back None })
  here y e = grind (arith, top_behind, in_left, link_of, not_next, in_right, next_set)

  first : (b : ℕ) (y : Link) → first_of c.passed.back None ≡ Some b → links old b ≡ Some y → links new b ≡ Some (record y { prev = Some top })
  first b y e l =
      let i : IsIn c.passed.back b = first_in c.passed.back b e in
      let was : node_at g.middle b ≡ node_at old b = g.onward.others b (λ w. back_not_top b i (sym (same_some w))) ∙ c.nodes_same b (back_not_run b i) in
      ap (option_map link_of) (g.back.here b (c.passed.at_is ∙ e)) ∙ prev_set (node_at g.middle b) (Some top) y (ap (option_map link_of) was ∙ l)

  rest_same : (k : ℕ) → IsIn c.passed.back k → first_of c.passed.back None ≢ Some k → links new k ≡ links old k
  rest_same k i ne = ap (option_map link_of) (plain k (back_not_top k i) (λ e. ne (sym c.passed.at_is ∙ e)) (back_not_run k i))

  left_once : IsOnce (c.passed.front ++ top ∷ c.passed.back)
  left_once =
      subst (λ (z : List ℕ). IsOnce z) (append_assoc c.passed.front (top ∷ []) c.passed.back)
      (once_cut (c.passed.front ++ top ∷ []) c.run c.passed.back (subst (λ (z : List ℕ). IsOnce z) (sym (append_assoc c.passed.front (top ∷ []) (c.run ++ c.passed.back))) c.passed.forest.order.once))

  gone_new : (k : ℕ) → IsIn c.run k → node_at new k ≡ None
  gone_new k i = no_node new k (same_limbs k ∙ ap (option_map limb_of) (c.gone k i))

  left_all : (k : ℕ) (n : Node) → node_at new k ≡ Some n → IsIn (c.passed.front ++ top ∷ c.passed.back) k
  left_all k n is = grind (arith, is_in_or, no_some, gone_new, limb_of, same_limbs, stands, limb_in, in_front, in_left, is_top, in_right, in_run, in_back)

  gap_closed : CutSoFar old new top depth at
  gap_closed =
      cut_from old cur new top depth at count c (record {
        once = left_once;
        linked = linked_cut (links old) (links new) None c.passed.front top c.run c.passed.back c.passed.forest.order.linked front_same here first rest_same (once_rest c.passed.front top c.passed.back left_once);
        all = left_all;
      }) same_limbs (keeps worth_of (λ n. refl) (λ n. refl)) (keeps marks_of (λ n. refl) (λ n. refl)) (λ k. g.back.spots_same k ∙ g.onward.spots_same k)

-- where no node has gone there is no gap
none_gone : (old cur : Slots) (top depth : ℕ) (at : Option ℕ) (count : ℕ) → GoneSoFar old cur top depth at count → count ≡ 0 → CutSoFar old cur top depth at
none_gone old cur top depth at count c zero =
    let empty : c.run ≡ [] = no_keys c.run (c.count_is ∙ zero) in
    let order = subst (λ (z : List ℕ). IsOrder old (c.passed.front ++ top ∷ (z ++ c.passed.back))) empty c.passed.forest.order in
    cut_from old cur cur top depth at count c
    (order_same_nodes old cur (c.passed.front ++ top ∷ c.passed.back) (λ k. c.nodes_same k (λ i. subst (λ (z : List ℕ). IsIn z k) empty i)) order) (λ k. refl) (λ k. refl) (λ k. refl) (λ k. refl)
  where
    no_keys : (ks : List ℕ) → length ks ≡ 0 → ks ≡ []
    no_keys [] e = refl
    no_keys (k ∷ ks) e = absurd (let l : length (k ∷ ks) ≡ length ks + 1 = omega arith in omega (arith, l, e))

pub closed : (old cur new : Slots) (top depth : ℕ) (at : Option ℕ) (count : ℕ) → GoneSoFar old cur top depth at count → (count ≡ 0 → new ≡ cur) → (count ≢ 0 → ClosesGap top at cur new) → CutSoFar old new top depth at
closed old cur new top depth at count c whole gap = elim (cases_eq count 0) [
  | inl z ↦ subst (λ (s : Slots). CutSoFar old s top depth at) (sym (whole z)) (none_gone old cur top depth at count c z)
  | inr some ↦ gap_closed old cur new top depth at count c (gap some)
]

-- the pages are those that there were
pub spots_closed : (cur new : Slots) (top : ℕ) (at : Option ℕ) (count : ℕ) → (count ≡ 0 → new ≡ cur) → (count ≢ 0 → ClosesGap top at cur new) → (k : ℕ) → spots new k ≡ spots cur k
spots_closed cur new top at count whole gap k = grind arith
