-- A run of deeper keys that is taken out is what descends from the key before it.
use Rattle.std.proofs.Common.{◌≡◌, ◌≢◌, ◌↔◌, ℕ, suc, zero, ◌+◌, ◌<◌, ◌≤◌, List, [], ◌∷◌, ◌++◌, length, Option, Some, None, refl, sym, ap, ◌∙◌, subst, arith, inl, inr, ◌⊎◌, append_assoc, length-append}
use Rattle.std.proofs.lemmas.Bool.{cases_eq, cases_lt}
use Rattle.std.proofs.lemmas.List.{get_or_past}
use Rattle.std.specs.Option.{option_map}
use Rattle.l4_nodes.specs.declared.nodes.Node.{Node}
use Rattle.l4_links.specs.Leads.{Leads, steps}
use Rattle.l4_links.specs.Inside.Trees.{Limb, IsInRun, parent_at, Sheds}
use Rattle.l4_links.specs.Inside.Orders.{IsIn, IsOnce, first_of, position}
use Rattle.l4_nodes.specs.Slots.{Slots, node_at, spots}
use Rattle.l4_links.specs.Inside.Nodes.{limbs, values, marks, IsOrder, IsForest, Stops, left_spot, Prunes}
use Rattle.l4_links.proofs.Linking.{in_left, in_right, in_parts, once_front, once_back, once_out, parted, begins_with, first_in}
use Rattle.l4_links.proofs.Positions.{position_here, position_further, position_within, order_back}
use Rattle.l4_links.proofs.Neighbours.{once_apart, in_list, limb_in, neighbours_at}
use Rattle.l4_links.proofs.Runs.{descendants, one_limb, parent_is}
use Rattle.l4_links.proofs.Growing.{tree_sheds}
use Rattle.l4_links.proofs.Writes.{no_some, limb_of}

pub is_in_or : (ks : List ℕ) (k : ℕ) → IsIn ks k ⊎ ¬ (IsIn ks k)
is_in_or [] k = inr (λ i. i)
is_in_or (x ∷ ks) k = elim (cases_eq x k) [
  | inl e ↦ inl (inl e)
  | inr ne ↦ elim (is_in_or ks k) [ inl i ↦ inl (inr i) | inr out ↦ inr (λ i. elim i [ inl e ↦ ne e | inr j ↦ out j ]) ]
]

pub position_left : (xs ys : List ℕ) (k : ℕ) → IsIn xs k → position (xs ++ ys) k ≡ position xs k
position_left [] ys k i = absurd i
position_left (x ∷ xs) ys k i = elim (cases_eq x k) [
  | inl e ↦ position_here x (xs ++ ys) k e ∙ sym (position_here x xs k e)
  | inr ne ↦
      let p = position_further x (xs ++ ys) k ne in
      let q = position_further x xs k ne in
      let r = position_left xs ys k (elim i [ inl e ↦ absurd (ne e) | inr j ↦ j ]) in
      omega (arith, p, q, r)
]

pub position_right : (xs ys : List ℕ) (k : ℕ) → ¬ (IsIn xs k) → position (xs ++ ys) k ≡ length xs + position ys k
position_right [] ys k out = omega arith
position_right (x ∷ xs) ys k out =
    let p = position_further x (xs ++ ys) k (λ e. out (inl e)) in
    let r = position_right xs ys k (λ i. out (inr i)) in
    omega (arith, p, r)

-- keys below a number, each once, are at most so many
pub once_fits : (n : ℕ) (ks : List ℕ) → IsOnce ks → ((k : ℕ) → IsIn ks k → k < n) → length ks ≤ n
once_fits zero [] once each = omega arith
once_fits zero (k ∷ ks) once each = absurd (let l = each k (inl refl) in omega (arith, l))
once_fits (suc n) ks once each = elim (is_in_or ks n) [
  | inl i ↦
      let p = parted ks n i in
      let once_p : IsOnce (p.front ++ n ∷ p.back) = subst (λ (z : List ℕ). IsOnce z) p.is once in
      let less = once_fits n (p.front ++ p.back) (once_out p.front n p.back once_p) (λ k j.
      let i_k : IsIn ks k = subst (λ (z : List ℕ). IsIn z k) (sym p.is) (elim (in_parts p.front p.back k j) [ inl l ↦ in_left p.front (n ∷ p.back) k l | inr r ↦ in_right p.front (n ∷ p.back) k (inr r) ]) in
      let lt = each k i_k in
      let ne : k ≢ n = λ e. grind (arith, in_parts, once_front, once_back) in
      omega (arith, lt, ne)) in
      let e : length ks ≡ length (p.front ++ n ∷ p.back) = ap length p.is in
      let f : length (p.front ++ n ∷ p.back) ≡ length p.front + length (n ∷ p.back) = length-append p.front (n ∷ p.back) in
      let g : length (p.front ++ p.back) ≡ length p.front + length p.back = length-append p.front p.back in
      let h : length (n ∷ p.back) ≡ length p.back + 1 = omega arith in
      omega (arith, e, f, g, h, less)
  | inr out ↦
      let less = once_fits n ks once (λ k j. let lt = each k j in let ne : k ≢ n = λ e. out (subst (λ (z : ℕ). IsIn ks z) e j) in omega (arith, lt, ne)) in
      omega (arith, less)
]

pub node_within : (slots : Slots) (k : ℕ) (n : Node) → node_at slots k ≡ Some n → k < length slots
node_within slots k n at = grind (arith, cases_lt, no_some, get_or_past)

pub order_fits : (slots : Slots) (ks : List ℕ) → IsOrder slots ks → length ks ≤ length slots
order_fits slots ks order = once_fits (length slots) ks order.once (λ k i. let n = in_list slots ks order k i in node_within slots k n.0 n.1)

pub once_rest : (xs : List ℕ) (k : ℕ) (ys : List ℕ) → IsOnce (xs ++ k ∷ ys) → IsOnce ys
once_rest [] k ys once = once.1
once_rest (x ∷ xs) k ys once = once_rest xs k ys once.1

pub once_disjoint : (xs ys : List ℕ) (k : ℕ) → IsOnce (xs ++ ys) → IsIn xs k → ¬ (IsIn ys k)
once_disjoint [] ys k once i j = i
once_disjoint (x ∷ xs) ys k once i j = elim i [
  | inl e ↦ once.0 (in_right xs ys x (subst (λ (z : ℕ). IsIn ys z) (sym e) j))
  | inr h ↦ once_disjoint xs ys k once.1 h j
]

-- where the keys stand in a list with a run in it
module _ (front : List ℕ) (top : ℕ) (run back : List ℕ) (once : IsOnce (front ++ top ∷ (run ++ back))) where
  pos_front : (k : ℕ) → IsIn front k → position (front ++ top ∷ (run ++ back)) k < length front
  pos_front k i = grind (arith, position_left, position_within)

  pos_top : position (front ++ top ∷ (run ++ back)) top ≡ length front
  pos_top = grind (arith, position_right, once_front, position_here)

  -- a key behind the top
  pos_behind : (k : ℕ) → IsIn (run ++ back) k → position (front ++ top ∷ (run ++ back)) k ≡ length front + (position (run ++ back) k + 1)
  pos_behind k i = grind (arith, position_right, once_apart, position_further, once_back)

  pos_run : (k : ℕ) → IsIn run k → (length front < position (front ++ top ∷ (run ++ back)) k) × (position (front ++ top ∷ (run ++ back)) k ≤ length front + length run)
  pos_run k i = grind (arith, pos_behind, in_left, position_left, position_within)

  pos_back : (k : ℕ) → IsIn back k → position (front ++ top ∷ (run ++ back)) k ≡ length front + length run + 1 + position back k
  pos_back k i = grind (arith, pos_behind, in_right, position_right, once_disjoint, once_rest)

-- what stands where in a list with a run in it
pub data Stands (front : List ℕ) (top : ℕ) (run back : List ℕ) (k : ℕ) : Type 0 where
  in_front : IsIn front k → Stands front top run back k
  is_top : top ≡ k → Stands front top run back k
  in_run : IsIn run k → Stands front top run back k
  in_back : IsIn back k → Stands front top run back k

pub stands : (front : List ℕ) (top : ℕ) (run back : List ℕ) (k : ℕ) → IsIn (front ++ top ∷ (run ++ back)) k → Stands front top run back k
stands front top run back k i = grind (arith, in_parts)

-- a walk has passed these keys, which are deeper than the top, and comes to this one
pub record HasPassed (slots : Slots) (top depth : ℕ) (at : Option ℕ) (run : List ℕ) : Type 0 where
  pub front : List ℕ
  pub back : List ℕ
  pub forest : IsForest slots (front ++ top ∷ (run ++ back))
  pub at_is : at ≡ first_of back None
  pub deeper : (k : ℕ) (x : Limb) → IsIn run k → limbs slots k ≡ Some x → depth < x.depth

-- the walk before its first step
pub passed_first : (slots : Slots) (ks : List ℕ) (top : ℕ) (node : Node) → IsForest slots ks → node_at slots top ≡ Some node → HasPassed slots top node.depth node.next []
passed_first slots ks top node forest at =
    let p = parted ks top (forest.order.all top node at) in
    let f : IsForest slots (p.front ++ top ∷ p.back) = subst (λ (z : List ℕ). IsForest slots z) p.is forest in
    record { front = p.front; back = p.back; forest = f; at_is = (neighbours_at slots p.front top p.back node f.order at).1; deeper = λ k x i. absurd i }

-- one key more
pub passed_more : (slots : Slots) (top depth key : ℕ) (at : Option ℕ) (node : Node) (run : List ℕ) → HasPassed slots top depth at run → at ≡ Some key → node_at slots key ≡ Some node → depth < node.depth
    → HasPassed slots top depth node.next (run ++ key ∷ [])
passed_more slots top depth key at node run c is_key at_key deep =
    let r = begins_with c.back key (sym c.at_is ∙ is_key) in
    let near : IsOrder slots ((c.front ++ top ∷ run) ++ key ∷ r.0) =
    subst (λ (z : List ℕ). IsOrder slots z) (ap (λ (z : List ℕ). c.front ++ top ∷ (run ++ z)) r.1 ∙ sym (append_assoc c.front (top ∷ run) (key ∷ r.0))) c.forest.order in
    record {
      front = c.front;
      back = r.0;
      forest = subst (λ (z : List ℕ). IsForest slots (c.front ++ top ∷ z)) (ap (λ (z : List ℕ). run ++ z) r.1 ∙ sym (append_assoc run (key ∷ []) r.0)) c.forest;
      at_is = (neighbours_at slots (c.front ++ top ∷ run) key r.0 node near at_key).1;
      deeper = λ k x i is. grind (arith, in_parts, one_limb, limb_of);
    }

-- the walk has passed fewer keys than there are slots
pub passed_ends : (slots : Slots) (top depth : ℕ) (at : Option ℕ) (run : List ℕ) → HasPassed slots top depth at run → length run < length slots
passed_ends slots top depth at run c = grind (arith, order_fits, length-append)

-- the next key has its node
pub passed_there : (slots : Slots) (top depth key : ℕ) (at : Option ℕ) (run : List ℕ) → HasPassed slots top depth at run → at ≡ Some key → node_at slots key ≢ None
passed_there slots top depth key at run c is_key none =
    let i : IsIn c.back key = first_in c.back key (sym c.at_is ∙ is_key) in
    let n = in_list slots (c.front ++ top ∷ (run ++ c.back)) c.forest.order key (in_right c.front (top ∷ (run ++ c.back)) key (inr (in_right run c.back key i))) in
    no_some n.0 (sym none ∙ n.1)

-- the walk has come to a key that is not deeper, or to the end
module _ (slots : Slots) (top : ℕ) (at : Option ℕ) (run : List ℕ) (head : Limb) (c : HasPassed slots top head.depth at run) (stops : Stops (limbs slots) head.depth at) (at_top : limbs slots top ≡ Some head) where
  abbrev all : List ℕ
  all = c.front ++ top ∷ (run ++ c.back)

  -- a key of the run is of the top's run, in the order of the list
  run_is_run : (k : ℕ) → IsIn run k → IsInRun (limbs slots) (position all) top k
  run_is_run k i =
      let once = c.forest.order.once in
      let n = in_list slots all c.forest.order k (in_right c.front (top ∷ (run ++ c.back)) k (inr (in_left run c.back k i))) in
      let t = pos_top c.front top run c.back once in
      let r = pos_run c.front top run c.back once k i in
      let r0 = r.0 in
      let r1 = r.1 in
      let is_k : limbs slots k ≡ Some (limb_of n.0) = ap (option_map limb_of) n.1 in
      grind (arith, in_list, in_right, in_left, pos_top, pos_run, limb_of, stands, limb_in, pos_front, pos_back)

  -- and the other way round
  run_from_run : (k : ℕ) → IsInRun (limbs slots) (position all) top k → IsIn run k
  run_from_run k r =
      let once = c.forest.order.once in
      let t = pos_top c.front top run c.back once in
      let after = r.after in
      let dt : r.top.depth ≡ head.depth = ap (λ (z : Limb). z.depth) (one_limb (limbs slots) top r.at_top at_top) in
      let rd = r.deeper in
      elim (stands c.front top run c.back k (limb_in slots all c.forest.order k r.limb r.at_limb)) [
        | in_front j ↦ absurd (let q = pos_front c.front top run c.back once k j in omega (arith, q, after, t))
        | is_top e ↦ absurd (let q : position all top ≡ position all k = ap (position all) e in omega (arith, q, after))
        | in_run j ↦ j
        | in_back j ↦ absurd (
            elim c.back as (λ (bs : List ℕ). c.back ≡ bs → ⊥) [
              | [] ↦ λ e. subst (λ (z : List ℕ). IsIn z k) e j
              | b ∷ bs ↦ λ e.
                  let i_b : IsIn c.back b = subst (λ (z : List ℕ). IsIn z b) (sym e) (inl refl) in
                  let nb = in_list slots all c.forest.order b (in_right c.front (top ∷ (run ++ c.back)) b (inr (in_right run c.back b i_b))) in
                  let is_b : limbs slots b ≡ Some (limb_of nb.0) = ap (option_map limb_of) nb.1 in
                  let s : nb.0.depth ≤ head.depth = stops b (limb_of nb.0) (c.at_is ∙ ap (λ (z : List ℕ). first_of z None) e) is_b in
                  let pb = pos_back c.front top run c.back once b i_b in
                  let pk = pos_back c.front top run c.back once k j in
                  let b_here : position c.back b ≡ 0 = ap (λ (z : List ℕ). position z b) e ∙ position_here b bs b refl in
                  grind arith
            ] refl)
      ]

  -- what the walk has passed is what descends from the top
  pub run_leads : (k : ℕ) → Leads (parent_at (limbs slots)) k top ↔ IsIn run k
  run_leads k = grind (arith, descendants, run_from_run, run_is_run)

-- the deeper keys after the top are taken out up to this one
pub record CutSoFar (old cur : Slots) (top depth : ℕ) (at : Option ℕ) : Type 0 where
  pub run : List ℕ
  pub passed : HasPassed old top depth at run
  pub order : IsOrder cur (passed.front ++ top ∷ passed.back)
  pub gone : (k : ℕ) → IsIn run k → node_at cur k ≡ None
  pub limbs_same : (k : ℕ) → ¬ (IsIn run k) → limbs cur k ≡ limbs old k
  pub spots_gone : (k : ℕ) → IsIn run k → spots cur k ≡ left_spot (spots old k)
  pub values_same : (k : ℕ) → ¬ (IsIn run k) → values cur k ≡ values old k
  pub marks_same : (k : ℕ) → ¬ (IsIn run k) → marks cur k ≡ marks old k
  pub spots_same : (k : ℕ) → ¬ (IsIn run k) → spots cur k ≡ spots old k

-- what was taken out is what descends from the top, and the rest is a forest
pub pruned : (old cur : Slots) (top : ℕ) (at : Option ℕ) (head : Node) → CutSoFar old cur top head.depth at → Stops (limbs old) head.depth at → node_at old top ≡ Some head → Prunes top old cur
pruned old cur top at head c stops at_top =
    let front = c.passed.front in
    let back = c.passed.back in
    let once = c.passed.forest.order.once in
    let leads = run_leads old top at c.run (limb_of head) c.passed stops (ap (option_map limb_of) at_top) in
    let sheds : Sheds (limbs old) (limbs cur) = record {
      left = λ a. elim (is_in_or c.run a) [ inl i ↦ inl (ap (option_map limb_of) (c.gone a i)) | inr out ↦ inr (c.limbs_same a out) ];
      closed = λ a p x is up. elim (is_in_or c.run p) [
        | inl i ↦ absurd (
            elim (is_in_or c.run a) [
              | inl ia ↦ no_some x (sym (ap (option_map limb_of) (c.gone a ia)) ∙ is)
              | inr out ↦ out ((leads a).0 (steps (parent_is (limbs old) a x (sym (c.limbs_same a out) ∙ is) ∙ up) ((leads p).1 i)))
            ])
        | inr out ↦ c.limbs_same p out
      ];
    } in
    let moved : (a : ℕ) (x : Limb) → limbs cur a ≡ Some x
    → ((position (front ++ top ∷ (c.run ++ back)) a < length front + 1) × (position (front ++ top ∷ back) a ≡ position (front ++ top ∷ (c.run ++ back)) a))
    ⊎ ((length front + 1 + length c.run ≤ position (front ++ top ∷ (c.run ++ back)) a) × (position (front ++ top ∷ back) a + length c.run ≡ position (front ++ top ∷ (c.run ++ back)) a)) =
    λ a x is. elim (in_parts front (top ∷ back) a (limb_in cur (front ++ top ∷ back) c.order a x is)) [
      | inl i ↦
          let p = pos_front front top c.run back once a i in
          inl (omega (arith, p), position_left front (top ∷ back) a i ∙ sym (position_left front (top ∷ (c.run ++ back)) a i))
      | inr r ↦ elim r [
        | inl e ↦
            let p : position (front ++ top ∷ (c.run ++ back)) a ≡ length front = sym (ap (position (front ++ top ∷ (c.run ++ back))) e) ∙ pos_top front top c.run back once in
            let q : position (front ++ top ∷ back) a ≡ length front = sym (ap (position (front ++ top ∷ back)) e) ∙ pos_top front top [] back c.order.once in
            inl (omega (arith, p), q ∙ sym p)
        | inr j ↦
            let p = pos_back front top c.run back once a j in
            let q = pos_back front top [] back c.order.once a j in
            inr (omega (arith, p), omega (arith, p, q))
      ]
    ] in
    record {
      gone = λ k l. c.gone k ((leads k).0 l);
      spots_gone = λ k l. c.spots_gone k ((leads k).0 l);
      limbs_kept = λ k off. c.limbs_same k (λ i. off ((leads k).1 i));
      values_kept = λ k off. c.values_same k (λ i. off ((leads k).1 i));
      marks_kept = λ k off. c.marks_same k (λ i. off ((leads k).1 i));
      spots_kept = λ k off. c.spots_same k (λ i. off ((leads k).1 i));
      front = front;
      rest = c.run ++ back;
      left = back;
      was = c.passed.forest;
      forest = record {
        order = c.order;
        tree =
            tree_sheds (limbs old) (limbs cur) (position (front ++ top ∷ (c.run ++ back))) (position (front ++ top ∷ back)) c.passed.forest.tree sheds
            (order_back (limbs cur) (position (front ++ top ∷ (c.run ++ back))) (position (front ++ top ∷ back)) (length front + 1) (length c.run) moved);
      };
    }
