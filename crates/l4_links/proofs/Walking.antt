-- A walk over the run of a key's descendants that passes by the runs that were done before, and what one that caps rights makes of them.
use Rattle.std.proofs.Common.{Bool, true, false, ◌&&◌, ◌≡◌, ◌≢◌, ℕ, ◌+◌, ◌<◌, ◌≤◌, List, [], ◌∷◌, ◌++◌, length, Option, Some, None, refl, sym, ap, ◌∙◌, subst, arith, inl, inr, length-append}
use Rattle.std.proofs.lemmas.Bool.{cases_eq, cases_lt}
use Rattle.std.specs.Option.{option_map}
use Rattle.l4_nodes.specs.declared.nodes.Node.{Node}
use Rattle.l4_links.specs.Leads.{Leads}
use Rattle.l4_links.specs.Inside.Trees.{Limb, parent_at}
use Rattle.l4_links.specs.Inside.Orders.{IsIn, first_of, position}
use Rattle.l4_nodes.specs.Slots.{Slots, node_at, spots, Closes}
use Rattle.l4_links.specs.Inside.Nodes.{limbs, links, values, capped_worth, sources, IsOrder, IsForest, Caps, place_of, IsMarked, IsLow, IsStamped, Passes, Stops, IsDone, AreDone, HasMarks, HasLow, NoneMet, HasSeen, NoSource, CapsBelow}
use Rattle.l4_fpage.specs.Rights.{RightsSet, common}
use Rattle.l4_links.proofs.Writes.{map_over, written_was, marks_of, map_at, stamped_same, stamped_at, limb_of, link_of, worth_of, no_some}
use Rattle.l4_links.proofs.Linking.{once_front, once_back, parted}
use Rattle.l4_links.proofs.Positions.{position_here, position_further, position_within}
use Rattle.l4_links.proofs.Neighbours.{once_apart, in_list, limb_in, forest_links, neighbours_at, next_live}
use Rattle.l4_links.proofs.Runs.{descendants, one_limb, below, same, above, order}
use Rattle.l4_links.proofs.Cutting.{is_in_or, position_right, order_fits}

-- rights that were capped twice are those that were capped once
all_twice : (a c : Bool) → (a && c) && c ≡ a && c
all_twice false c = refl
all_twice true false = refl
all_twice true true = refl

all_turned : (a b c : Bool) → (a && b) && c ≡ (a && c) && b
all_turned false b c = refl
all_turned true false false = refl
all_turned true false true = refl
all_turned true true false = refl
all_turned true true true = refl

all_over : (l h c : Bool) → l && (h && c) ≡ (l && h) && c
all_over false h c = refl
all_over true h c = refl

pub common_over : (l h c : RightsSet) → common l (common h c) ≡ common (common l h) c
common_over l h c = λ i. record { r = all_over l.r h.r c.r i; w = all_over l.w h.w c.w i; x = all_over l.x h.x c.x i }

pub low_of_common : (r c : RightsSet) → IsLow c (common r c)
low_of_common r c = λ i. record { r = all_twice r.r c.r i; w = all_twice r.w c.w i; x = all_twice r.x c.x i }

common_turned : (r b c : RightsSet) → common (common r b) c ≡ common (common r c) b
common_turned r b c = λ i. record { r = all_turned r.r b.r c.r i; w = all_turned r.w b.w c.w i; x = all_turned r.x b.x c.x i }

-- a cap leaves low rights low
pub low_stays : (r b c : RightsSet) → IsLow c r → IsLow c (common r b)
low_stays r b c low = common_turned r b c ∙ ap (λ (z : RightsSet). common z b) low

position_out_of : (ks : List ℕ) (k : ℕ) → ¬ (IsIn ks k) → position ks k ≡ length ks
position_out_of [] k out = refl
position_out_of (x ∷ ks) k out =
    let p = position_further x ks k (λ e. out (inl e)) in
    let r = position_out_of ks k (λ i. out (inr i)) in
    omega (arith, p, r)

-- a place within the list is that of one of its keys
is_within : (ks : List ℕ) (k : ℕ) → position ks k < length ks → IsIn ks k
is_within ks k lt = elim (is_in_or ks k) [ inl i ↦ i | inr out ↦ absurd (let p = position_out_of ks k out in omega (arith, p, lt)) ]

-- and of no other one
position_one : (ks : List ℕ) (j k : ℕ) → IsIn ks k → position ks j ≡ position ks k → j ≡ k
position_one [] j k i e = absurd i
position_one (x ∷ ks) j k i e = elim (cases_eq x k) [
  | inl xk ↦ grind arith
  | inr nk ↦ elim (cases_eq x j) [
    | inl xj ↦ absurd (let p = position_here x ks j xj in let q = position_further x ks k nk in omega (arith, e, p, q))
    | inr nj ↦
        let p = position_further x ks j nj in
        let q = position_further x ks k nk in
        position_one ks j k (elim i [ inl xk ↦ absurd (nk xk) | inr h ↦ h ]) (omega (arith, e, p, q))
  ]
]

place_le : (ks : List ℕ) (at : Option ℕ) → ((b : ℕ) → at ≡ Some b → IsIn ks b) → place_of ks at ≤ length ks
place_le ks None live = omega arith
place_le ks (Some b) live = (let p = position_within ks b (live b refl) in omega (arith, p))

-- the next key stands one further
pub place_next : (slots : Slots) (ks : List ℕ) (key : ℕ) (node : Node) → IsOrder slots ks → node_at slots key ≡ Some node → place_of ks node.next ≡ position ks key + 1
place_next slots ks key node ordered at =
    let p = parted ks key (ordered.all key node at) in
    let o : IsOrder slots (p.front ++ key ∷ p.back) = subst (λ (z : List ℕ). IsOrder slots z) p.is ordered in
    let h = (neighbours_at slots p.front key p.back node o at).1 in
    let here : position (p.front ++ key ∷ p.back) key ≡ length p.front =
    (let a = position_right p.front (key ∷ p.back) key (once_front p.front key p.back o.once) in let b = position_here key p.back key refl in omega (arith, a, b)) in
    let there : (bs : List ℕ) → p.back ≡ bs → place_of (p.front ++ key ∷ p.back) (first_of bs None) ≡ length p.front + 1 =
    λ bs e. elim bs as (λ (bs : List ℕ). p.back ≡ bs → place_of (p.front ++ key ∷ p.back) (first_of bs None) ≡ length p.front + 1) [
      | [] ↦ λ e.
          let l : length (p.front ++ key ∷ p.back) ≡ length p.front + length (key ∷ p.back) = length-append p.front (key ∷ p.back) in
          let m : length (key ∷ p.back) ≡ 1 = ap (λ (z : List ℕ). length (key ∷ z)) e in
          omega (arith, l, m)
      | b ∷ bs ↦ λ e.
          let i : IsIn p.back b = subst (λ (z : List ℕ). IsIn z b) (sym e) (inl refl) in
          let out : ¬ (IsIn p.front b) = λ j. once_apart p.front key p.back b o.once j i in
          let a = position_right p.front (key ∷ p.back) b out in
          let c = position_further key p.back b (λ kb. once_back p.front key p.back o.once (subst (λ (z : ℕ). IsIn p.back z) (sym kb) i)) in
          let d : position p.back b ≡ 0 = ap (λ (z : List ℕ). position z b) e ∙ position_here b bs b refl in
          omega (arith, a, c, d)
    ] e in
    let r : place_of (p.front ++ key ∷ p.back) node.next ≡ position (p.front ++ key ∷ p.back) key + 1 =
    ap (place_of (p.front ++ key ∷ p.back)) h ∙ there p.back refl ∙ sym (ap (λ (z : ℕ). z + 1) here) in
    subst (λ (z : List ℕ). place_of z node.next ≡ position z key + 1) (sym p.is) r

-- from a key a walk may go on at the next one
pub passes_next : (slots : Slots) (Holds : ℕ → Type 0) (ks : List ℕ) (key : ℕ) (node : Node) → IsOrder slots ks → node_at slots key ≡ Some node → Passes (limbs slots) Holds ks key node.depth node.next
passes_next slots Holds ks key node ordered at = grind (arith, place_next, next_live)

-- or at the end of its run, where that was done
pub passes_on : (slots : Slots) (Holds : ℕ → Type 0) (ks : List ℕ) (key stamp : ℕ) (node : Node) (on : Option ℕ) → IsOrder slots ks → node_at slots key ≡ Some node → AreDone Holds stamp slots ks
    → (node.mark ≡ stamp → 1 ≤ stamp → on ≡ node.end) → (node.mark ≢ stamp → on ≡ node.next) → (stamp ≡ 0 → on ≡ node.next) → Passes (limbs slots) Holds ks key node.depth on
passes_on slots Holds ks key stamp node on ordered at marked over onto off =
    let plain : on ≡ node.next → Passes (limbs slots) Holds ks key node.depth on = λ is. subst (λ (o : Option ℕ). Passes (limbs slots) Holds ks key node.depth o) (sym is) (passes_next slots Holds ks key node ordered at) in
    elim (cases_lt 0 stamp) [
      | inr zero ↦ plain (off (omega (arith, zero)))
      | inl some ↦ elim (cases_eq node.mark stamp) [
        | inr ne ↦ plain (onto ne)
        | inl e ↦
            let one : 1 ≤ stamp = omega (arith, some) in
            subst (λ (o : Option ℕ). Passes (limbs slots) Holds ks key node.depth o) (sym (over e one)) (marked key node at (record { same = e; some = one })).passes
      ]
    ]

-- a run up to a key, that key, and what comes after it
passes_more : (at : ℕ → Option Limb) (Holds : ℕ → Type 0) (ks : List ℕ) (top depth key : ℕ) (x : Limb) (on : Option ℕ) → Passes at Holds ks top depth (Some key) → at key ≡ Some x → depth < x.depth → Holds key
    → Passes at Holds ks key x.depth on → Passes at Holds ks top depth on
passes_more at Holds ks top depth key x on c is_key deep here a =
    let before = c.beyond in
    let behind = a.beyond in
    let one : (j : ℕ) → position ks j ≡ position ks key → j ≡ key = λ j e. position_one ks j key (c.live key refl) e in
    grind arith

-- what descends from a key stands before its run's end
pub leads_range : (slots : Slots) (Holds : ℕ → Type 0) (ks : List ℕ) (top : ℕ) (end : Option ℕ) (head : Limb) → IsForest slots ks → IsDone (limbs slots) Holds ks top head.depth end → limbs slots top ≡ Some head
    → (k : ℕ) → Leads (parent_at (limbs slots)) k top → (position ks top < position ks k) × (position ks k < place_of ks end)
leads_range slots Holds ks top end head f done at k l =
    let r = (descendants (limbs slots) (position ks) f.tree top k).0 l in
    let dt : r.top.depth ≡ head.depth = ap (λ (z : Limb). z.depth) (one_limb (limbs slots) top r.at_top at) in
    let rd = r.deeper in
    let i = limb_in slots ks f.order k r.limb r.at_limb in
    let beyond = done.passes.beyond in (
      r.after,
      elim (cases_lt (position ks k) (place_of ks end)) [
        | inl lt ↦ lt
        | inr ge ↦ absurd (
            elim end as (λ o. end ≡ o → ⊥) [
              | None ↦ grind (arith, position_within)
              | Some b ↦ λ is.
                  let p : place_of ks end ≡ position ks b = ap (place_of ks) is in
                  let n = in_list slots ks f.order b (done.passes.live b is) in
                  let is_b : limbs slots b ≡ Some (limb_of n.0) = ap (option_map limb_of) n.1 in
                  let s : n.0.depth ≤ head.depth = done.stops b (limb_of n.0) is is_b in
                  grind arith
            ] refl)
      ],
    )

-- and what stands before the end of a run of deeper keys descends from the key
pub range_leads : (slots : Slots) (Holds : ℕ → Type 0) (ks : List ℕ) (top : ℕ) (end : Option ℕ) (head : Limb) → IsForest slots ks → Passes (limbs slots) Holds ks top head.depth end → limbs slots top ≡ Some head
    → (k : ℕ) → position ks top < position ks k → position ks k < place_of ks end → Leads (parent_at (limbs slots)) k top
range_leads slots Holds ks top end head f p at k lo hi =
    let le = place_le ks end p.live in
    let n = in_list slots ks f.order k (is_within ks k (omega (arith, hi, le))) in
    let is_k : limbs slots k ≡ Some (limb_of n.0) = ap (option_map limb_of) n.1 in
    (descendants (limbs slots) (position ks) f.tree top k).1 (record {
      top = head;
      at_top = at;
      limb = limb_of n.0;
      at_limb = is_k;
      after = lo;
      deeper = p.deeper k (limb_of n.0) is_k lo hi;
      between = λ b y is lo_b hi_b. p.deeper b y is lo_b (omega (arith, hi, hi_b));
    })

-- what has a mark had it before, with the same run
abbrev pub KeepsMarks : ℕ → Slots → Slots → Type 0
KeepsMarks stamp old new = (k : ℕ) (n : Node) → node_at new k ≡ Some n → IsMarked stamp n.mark → (m : Node) × (node_at old k ≡ Some m) × IsMarked stamp m.mark × (n.depth ≡ m.depth) × (n.end ≡ m.end)

pub keeps_written : (f : Node → Node) (stamp key : ℕ) (old new : Slots) → ((n : Node) → IsMarked stamp (f n).mark → IsMarked stamp n.mark) → ((n : Node) → (f n).depth ≡ n.depth) → ((n : Node) → (f n).end ≡ n.end)
    → node_at new key ≡ option_map f (node_at old key) → ((o : ℕ) → o ≢ key → node_at new o ≡ node_at old o) → KeepsMarks stamp old new
keeps_written f stamp key old new marked depths ends here others k n at m = grind arith

-- what holds of a run holds of it after a write that leaves the trees
module _ (P Q : ℕ → Type 0) (old new : Slots) (limbs_same : (k : ℕ) → limbs new k ≡ limbs old k) (still : (j : ℕ) → P j → Q j) where
  pub passes_same : {ks : List ℕ} {top depth : ℕ} {end : Option ℕ} → Passes (limbs old) P ks top depth end → Passes (limbs new) Q ks top depth end
  passes_same p = grind arith

  pub done_same : {ks : List ℕ} {top depth : ℕ} {end : Option ℕ} → IsDone (limbs old) P ks top depth end → IsDone (limbs new) Q ks top depth end
  done_same d = record { passes = passes_same d.passes; stops = λ b y e is. d.stops b y e (sym (limbs_same b) ∙ is) }

  pub marked_same : (stamp : ℕ) (ks : List ℕ) → KeepsMarks stamp old new → AreDone P stamp old ks → AreDone Q stamp new ks
  marked_same stamp ks keeps marked k n at m =
      let v = keeps k n at m in
      subst (λ (z : Option ℕ). IsDone (limbs new) Q ks k n.depth z) (sym v.4) (subst (λ (z : ℕ). IsDone (limbs new) Q ks k z v.0.end) (sym v.3) (done_same (marked k v.0 v.1 v.2)))

  pub marks_same : (stamp : ℕ) → ((k : ℕ) → links new k ≡ links old k) → KeepsMarks stamp old new → HasMarks P stamp old → HasMarks Q stamp new
  marks_same stamp links_same keeps m = record { keys = m.keys; forest = forest_links old new m.keys limbs_same links_same m.forest; marked = marked_same stamp m.keys keeps m.marked }

-- so does what was found of sources, where none has come
pub none_same : (old new : Slots) → ((k : ℕ) → limbs new k ≡ limbs old k) → ((k : ℕ) → sources new k ≡ Some true → sources old k ≡ Some true) → (k : ℕ) → NoneMet k old → NoneMet k new
none_same old new limbs_same less k none j l e = none j (subst (λ (g : ℕ → Option Limb). Leads (parent_at g) j k) (λ i a. limbs_same a i) l) (less j e)

pub seen_same : (old new : Slots) (stamp : ℕ) → ((k : ℕ) → limbs new k ≡ limbs old k) → ((k : ℕ) → links new k ≡ links old k) → ((k : ℕ) → sources new k ≡ Some true → sources old k ≡ Some true) → KeepsMarks stamp old new
    → ((k : ℕ) (n : Node) → node_at new k ≡ Some n → IsMarked stamp n.seen → (m : Node) × (node_at old k ≡ Some m) × IsMarked stamp m.seen) → HasSeen stamp old → HasSeen stamp new
seen_same old new stamp limbs_same links_same less keeps keeps_seen s = record {
  marks = marks_same (NoSource old) (NoSource new) old new limbs_same (λ j none e. none (less j e)) stamp links_same keeps s.marks;
  seen = λ k n at m. (let v = keeps_seen k n at m in none_same old new limbs_same less k (s.seen k v.0 v.1 v.2));
}

-- a walk has come to this key, or to the end, after so many steps, and this holds of what it has passed
pub record IsWalking (Holds : ℕ → Type 0) (stamp : ℕ) (slots : Slots) (ks : List ℕ) (top depth : ℕ) (at : Option ℕ) (count : ℕ) : Type 0 where
  pub forest : IsForest slots ks
  pub marked : AreDone Holds stamp slots ks
  pub stamped : IsStamped stamp slots
  pub passes : Passes (limbs slots) Holds ks top depth at
  pub reached : position ks top + count + 1 ≤ place_of ks at

-- before its first step
pub walking_first : (Holds : ℕ → Type 0) (stamp : ℕ) (slots : Slots) (top : ℕ) (node : Node) (h : HasMarks Holds stamp slots) → IsStamped stamp slots → node_at slots top ≡ Some node → IsWalking Holds stamp slots h.keys top node.depth node.next 0
walking_first Holds stamp slots top node h stamped at = record {
  forest = h.forest;
  marked = h.marked;
  stamped = stamped;
  passes = passes_next slots Holds h.keys top node h.forest.order at;
  reached = (let p = place_next slots h.keys top node h.forest.order at in omega (arith, p));
}

-- one step more, with a write to the key
pub walking_more : (P Q : ℕ → Type 0) (stamp : ℕ) (cur new : Slots) (ks : List ℕ) (top depth count key : ℕ) (node : Node) (on : Option ℕ) → IsWalking P stamp cur ks top depth (Some key) count → node_at cur key ≡ Some node → depth < node.depth
    → Passes (limbs cur) P ks key node.depth on → Q key → ((k : ℕ) → limbs new k ≡ limbs cur k) → ((k : ℕ) → links new k ≡ links cur k) → ((j : ℕ) → P j → Q j) → KeepsMarks stamp cur new → IsStamped stamp new
    → IsWalking Q stamp new ks top depth on (count + 1)
walking_more P Q stamp cur new ks top depth count key node on c at deep a here limbs_same links_same still keeps stamped = record {
  forest = forest_links cur new ks limbs_same links_same c.forest;
  marked = marked_same P Q cur new limbs_same still stamp ks keeps c.marked;
  stamped = stamped;
  passes =
      passes_more (limbs new) Q ks top depth key (limb_of node) on (passes_same P Q cur new limbs_same still c.passes) (limbs_same key ∙ ap (option_map limb_of) at) deep here
      (passes_same P Q cur new limbs_same still a);
  reached = (let r = c.reached in let b = a.beyond in omega (arith, r, b));
}

-- a key of the list has a node
pub walking_there : (Holds : ℕ → Type 0) (stamp : ℕ) (slots : Slots) (ks : List ℕ) (top depth count key : ℕ) (at : Option ℕ) → IsWalking Holds stamp slots ks top depth at count → at ≡ Some key → node_at slots key ≢ None
walking_there Holds stamp slots ks top depth count key at c is none = (let n = in_list slots ks c.forest.order key (c.passes.live key is) in no_some n.0 (sym none ∙ n.1))

-- fewer steps are taken than there were slots
pub walking_ends : (Holds : ℕ → Type 0) (stamp : ℕ) (old cur : Slots) (ks : List ℕ) (top depth count : ℕ) (at : Option ℕ) → IsWalking Holds stamp cur ks top depth at count → ((k : ℕ) → limbs cur k ≡ limbs old k) → ((k : ℕ) → links cur k ≡ links old k) → count < length old
walking_ends Holds stamp old cur ks top depth count at c limbs_same links_same = grind (arith, order_fits, forest_links, order, place_le)

-- the end of a walk writes this to its top
abbrev pub closed_node : ℕ → Option ℕ → Node → Node
closed_node stamp end n = record n { seen = stamp; mark = stamp; end = end }

-- where it stops the top is done too
pub walking_done : (P Q : ℕ → Type 0) (stamp : ℕ) (cur new : Slots) (ks : List ℕ) (top count : ℕ) (head : Node) (at : Option ℕ) → IsWalking P stamp cur ks top head.depth at count → Stops (limbs cur) head.depth at → limbs cur top ≡ Some (limb_of head)
    → Closes top stamp at cur new → ((k : ℕ) → limbs new k ≡ limbs cur k) → ((k : ℕ) → links new k ≡ links cur k) → ((j : ℕ) → P j → Q j) → HasMarks Q stamp new
walking_done P Q stamp cur new ks top count head at c stops at_top w limbs_same links_same still = record {
  keys = ks;
  forest = forest_links cur new ks limbs_same links_same c.forest;
  marked = λ k n is m. elim (written_was (closed_node stamp at) top cur new w.here w.others k n is) [
    | inl was ↦ done_same P Q cur new limbs_same still (c.marked k n was m)
    | inr v ↦
        let deep : n.depth ≡ head.depth = ap (λ (z : Node). z.depth) v.2 ∙ ap (λ (z : Limb). z.depth) (one_limb (limbs cur) top (sym (ap (limbs cur) v.3) ∙ ap (option_map limb_of) v.1) at_top) in
        subst (λ (z : ℕ). IsDone (limbs new) Q ks z n.depth n.end) (sym v.3)
        (subst (λ (z : ℕ). IsDone (limbs new) Q ks top z n.end) (sym deep)
        (subst (λ (z : Option ℕ). IsDone (limbs new) Q ks top head.depth z) (sym (ap (λ (z : Node). z.end) v.2)) (done_same P Q cur new limbs_same still (record { passes = c.passes; stops = stops }))))
  ];
}

-- the writes of the walks
abbrev pub capped_node : RightsSet → Option ℕ → Node → Node
capped_node cap doomed n = record n { rights = common n.rights cap; doomed = doomed }

pub closed_same : {X : Type 0} (F : Node → X) (key stamp : ℕ) (end : Option ℕ) (old new : Slots) → Closes key stamp end old new → ((n : Node) → F (closed_node stamp end n) ≡ F n) → (k : ℕ) → option_map F (node_at new k) ≡ option_map F (node_at old k)
closed_same F key stamp end old new c keeps = map_at F (closed_node stamp end) keeps key old new c.here c.others

-- no mark is above the stamp once the walk has left its own
pub closed_stamped : (key stamp : ℕ) (end : Option ℕ) (old new : Slots) → Closes key stamp end old new → IsStamped stamp old → IsStamped stamp new
closed_stamped key stamp end old new c = stamped_at (closed_node stamp end) stamp (λ n m s. (omega arith, omega arith)) key old new c.here c.others

pub capped_same : {X : Type 0} (F : Node → X) (key : ℕ) (cap : RightsSet) (old new : Slots) (c : Caps key cap old new) → ((n : Node) → F (capped_node cap c.doomed n) ≡ F n) → (k : ℕ) → option_map F (node_at new k) ≡ option_map F (node_at old k)
capped_same F key cap old new c keeps = map_at F (capped_node cap c.doomed) keeps key old new c.here c.others

pub capped_keeps : (key stamp : ℕ) (cap : RightsSet) (old new : Slots) → Caps key cap old new → KeepsMarks stamp old new
capped_keeps key stamp cap old new c = keeps_written (capped_node cap c.doomed) stamp key old new (λ n m. m) (λ n. refl) (λ n. refl) c.here c.others

-- low rights stay low, and those of the key become so
pub capped_low : (key : ℕ) (cap low : RightsSet) (old new : Slots) → Caps key cap old new → (j : ℕ) → HasLow low old j → HasLow low new j
capped_low key cap low old new c j has n at = grind arith

low_capped : (key : ℕ) (cap : RightsSet) (old new : Slots) → Caps key cap old new → HasLow cap new key
low_capped key cap old new c n at = grind arith

pub values_capped : (key : ℕ) (cap : RightsSet) (old new : Slots) → Caps key cap old new → values new key ≡ option_map (capped_worth cap) (values old key)
values_capped key cap old new c = ap (option_map worth_of) c.here ∙ map_over (capped_node cap c.doomed) worth_of worth_of (capped_worth cap) (λ n. refl) (node_at old key)

closed_low : (key stamp : ℕ) (end : Option ℕ) (cap : RightsSet) (old new : Slots) → Closes key stamp end old new → (j : ℕ) → HasLow cap old j → HasLow cap new j
closed_low key stamp end cap old new c j has n at = grind arith

-- what a walk that caps rights has been over
pub record WalkSoFar (old cur : Slots) (top depth : ℕ) (cap : RightsSet) (stamp : ℕ) (at : Option ℕ) (count : ℕ) : Type 0 where
  pub keys : List ℕ
  pub is : IsWalking (HasLow cap cur) stamp cur keys top depth at count
  pub limbs_same : (k : ℕ) → limbs cur k ≡ limbs old k
  pub links_same : (k : ℕ) → links cur k ≡ links old k
  pub spots_same : (k : ℕ) → spots cur k ≡ spots old k
  pub inside : (k : ℕ) → position keys top < position keys k → position keys k < place_of keys at → values cur k ≡ option_map (capped_worth cap) (values old k)
  pub outside : (k : ℕ) → (position keys top < position keys k → position keys k < place_of keys at → ⊥) → values cur k ≡ values old k

-- the walk before its first step
pub walk_first : (old : Slots) (top : ℕ) (cap : RightsSet) (stamp : ℕ) (node : Node) (h : HasMarks (HasLow cap old) stamp old) → IsStamped stamp old → node_at old top ≡ Some node → WalkSoFar old old top node.depth cap stamp node.next 0
walk_first old top cap stamp node h stamped at =
    let p = place_next old h.keys top node h.forest.order at in
    record {
      keys = h.keys;
      is = walking_first (HasLow cap old) stamp old top node h stamped at;
      limbs_same = λ k. refl;
      links_same = λ k. refl;
      spots_same = λ k. refl;
      inside = λ k lo hi. absurd (omega (arith, p, lo, hi));
      outside = λ k off. refl;
    }

-- one key more
pub walk_more : (old cur new : Slots) (top depth : ℕ) (cap : RightsSet) (stamp count key : ℕ) (node : Node) (on : Option ℕ) → WalkSoFar old cur top depth cap stamp (Some key) count → node_at cur key ≡ Some node → depth < node.depth
    → Caps key cap cur new → (node.mark ≡ stamp → 1 ≤ stamp → on ≡ node.end) → (node.mark ≢ stamp → on ≡ node.next) → (stamp ≡ 0 → on ≡ node.next) → WalkSoFar old new top depth cap stamp on (count + 1)
walk_more old cur new top depth cap stamp count key node on c at deep w over onto off =
    let keys = c.keys in
    let a = passes_on cur (HasLow cap cur) keys key stamp node on c.is.forest.order at c.is.marked over onto off in
    let reached = c.is.reached in
    let beyond = a.beyond in
    let limbs_w : (k : ℕ) → limbs new k ≡ limbs cur k = capped_same limb_of key cap cur new w (λ n. refl) in
    let links_w : (k : ℕ) → links new k ≡ links cur k = capped_same link_of key cap cur new w (λ n. refl) in
    let others : (k : ℕ) → k ≢ key → values new k ≡ values cur k = λ k ne. ap (option_map worth_of) (w.others k ne) in
    record {
      keys = keys;
      is =
          walking_more (HasLow cap cur) (HasLow cap new) stamp cur new keys top depth count key node on c.is at deep a (low_capped key cap cur new w) limbs_w links_w (capped_low key cap cap cur new w)
          (capped_keeps key stamp cap cur new w) (stamped_same stamp cur new (capped_same marks_of key cap cur new w (λ n. refl)) c.is.stamped);
      limbs_same = λ k. limbs_w k ∙ c.limbs_same k;
      links_same = λ k. links_w k ∙ c.links_same k;
      spots_same = λ k. w.spots_same k ∙ c.spots_same k;
      inside = λ k lo hi. elim (order (position keys k) (position keys key)) [
        | below lt ↦ others k (λ e. let p : position keys k ≡ position keys key = ap (position keys) e in omega (arith, p, lt)) ∙ c.inside k lo lt
        | same eq ↦
            let e : k ≡ key = position_one keys k key (c.is.passes.live key refl) eq in
            let was : values cur key ≡ values old key = c.outside key (λ lo_key hi_key. omega (arith, hi_key)) in
            let r : values new key ≡ option_map (capped_worth cap) (values old key) = values_capped key cap cur new w ∙ ap (option_map (capped_worth cap)) was in
            subst (λ (z : ℕ). values new z ≡ option_map (capped_worth cap) (values old z)) (sym e) r
        | above gt ↦
            let was : values cur k ≡ values old k = c.outside k (λ lo_k hi_k. omega (arith, gt, hi_k)) in
            others k (λ e. let p : position keys k ≡ position keys key = ap (position keys) e in omega (arith, p, gt)) ∙ low_worth cap (node_at cur k) (a.each k gt hi) ∙ ap (option_map (capped_worth cap)) was
      ];
      outside = grind arith;
    }
  where
    low_worth : (cap : RightsSet) (o : Option Node) → ((n : Node) → o ≡ Some n → IsLow cap n.rights) → option_map worth_of o ≡ option_map (capped_worth cap) (option_map worth_of o)
    low_worth cap None low = refl
    low_worth cap (Some n) low = ap (λ (z : RightsSet). Some (record { frame = n.frame; rights = z; source = n.source; granted = n.granted })) (sym (low n refl))

-- the walk stops: what it was over is what descends from the top, and the top's run is done
pub walked : (old cur new : Slots) (top : ℕ) (cap : RightsSet) (stamp count : ℕ) (head : Node) (at : Option ℕ) → node_at old top ≡ Some head → WalkSoFar old cur top head.depth cap stamp at count → Stops (limbs cur) head.depth at
    → Closes top stamp at cur new → CapsBelow top cap old new × HasMarks (HasLow cap new) stamp new × IsStamped stamp new
walked old cur new top cap stamp count head at stood c stops w =
    let keys = c.keys in
    let limbs_w : (k : ℕ) → limbs new k ≡ limbs cur k = closed_same limb_of top stamp at cur new w (λ n. refl) in
    let links_w : (k : ℕ) → links new k ≡ links cur k = closed_same link_of top stamp at cur new w (λ n. refl) in
    let values_w : (k : ℕ) → values new k ≡ values cur k = closed_same worth_of top stamp at cur new w (λ n. refl) in
    let at_top : limbs cur top ≡ Some (limb_of head) = c.limbs_same top ∙ ap (option_map limb_of) stood in
    let over : (k : ℕ) → Leads (parent_at (limbs old)) k top → (position keys top < position keys k) × (position keys k < place_of keys at) =
    λ k l. leads_range cur (HasLow cap cur) keys top at (limb_of head) c.is.forest (record { passes = c.is.passes; stops = stops }) at_top k (subst (λ (g : ℕ → Option Limb). Leads (parent_at g) k top) (λ i j. sym (c.limbs_same j) i) l) in
    let under : (k : ℕ) → position keys top < position keys k → position keys k < place_of keys at → Leads (parent_at (limbs old)) k top =
    λ k lo hi. subst (λ (g : ℕ → Option Limb). Leads (parent_at g) k top) (λ i j. c.limbs_same j i) (range_leads cur (HasLow cap cur) keys top at (limb_of head) c.is.forest c.is.passes at_top k lo hi) in (
      grind arith,
      walking_done (HasLow cap cur) (HasLow cap new) stamp cur new keys top count head at c.is stops at_top w limbs_w links_w (closed_low top stamp at cap cur new w),
      closed_stamped top stamp at cur new w c.is.stamped,
    )
