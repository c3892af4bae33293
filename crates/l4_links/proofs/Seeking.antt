-- A walk that looks for a node that is a source below a key, and passes by what was looked at before.
use Rattle.std.proofs.Common.{Bool, true, List, ◌≡◌, ◌≢◌, ℕ, ◌+◌, ◌<◌, ◌≤◌, Option, Some, refl, sym, ap, ◌∙◌, subst, arith, inl, inr, ◌⊎◌}
use Rattle.std.specs.Option.{option_map}
use Rattle.l4_nodes.specs.declared.nodes.Node.{Node}
use Rattle.l4_links.specs.Leads.{Leads, step, steps}
use Rattle.l4_links.specs.Inside.Trees.{Limb, parent_at}
use Rattle.l4_links.specs.Inside.Orders.{position}
use Rattle.l4_nodes.specs.Slots.{Slots, node_at, Closes, Sees}
use Rattle.l4_links.specs.Inside.Nodes.{limbs, sources, Worth, place_of, IsMarked, IsStamped, Stops, IsSame, HasSeen, Meets, NoneMet, NoSource}
use Rattle.l4_links.proofs.Writes.{same_some, written_was, map_at, stamped_at, doom_of, limb_of, link_of, worth_of}
use Rattle.l4_links.proofs.Runs.{descendants}
use Rattle.l4_links.proofs.Walking.{closed_node, closed_same, keeps_written, none_same, IsWalking, walking_first, walking_more, walking_done, passes_on, leads_range, range_leads}

leads_on : (parent : ℕ → Option ℕ) {a b d : ℕ} → Leads parent a b → Leads parent b d → Leads parent a d
leads_on parent (step up) more = steps up more
leads_on parent (steps up rest) more = steps up (leads_on parent rest more)

pub sources_same : (old new : Slots) → IsSame old new → (k : ℕ) → sources new k ≡ sources old k
sources_same old new s k = ap (option_map (λ (w : Worth). w.source)) (s.values_same k)

-- no source has come, and none has gone
no_more : (old new : Slots) → IsSame old new → (k : ℕ) → sources new k ≡ Some true → sources old k ≡ Some true
no_more old new s k e = sym (sources_same old new s k) ∙ e

still_none : (old new : Slots) → IsSame old new → (k : ℕ) → NoSource old k → NoSource new k
still_none old new s k none e = none (no_more old new s k e)

pub same_on : (a b d : Slots) → IsSame a b → IsSame b d → IsSame a d
same_on a b d s t = record { limbs_same = λ k. t.limbs_same k ∙ s.limbs_same k; links_same = λ k. t.links_same k ∙ s.links_same k; values_same = λ k. t.values_same k ∙ s.values_same k; dooms_same = λ k. t.dooms_same k ∙ s.dooms_same k; spots_same = λ k. t.spots_same k ∙ s.spots_same k }

pub same_back : (a b : Slots) → IsSame a b → IsSame b a
same_back a b s = record { limbs_same = λ k. sym (s.limbs_same k); links_same = λ k. sym (s.links_same k); values_same = λ k. sym (s.values_same k); dooms_same = λ k. sym (s.dooms_same k); spots_same = λ k. sym (s.spots_same k) }

-- the writes of the walk
abbrev seen_node : ℕ → Node → Node
seen_node stamp n = record n { seen = stamp; mark = 0 }

sees_same : (key stamp : ℕ) (old new : Slots) → Sees key stamp old new → IsSame old new
sees_same key stamp old new c = grind (arith, map_at, limb_of, link_of, worth_of, doom_of)

closes_same : (key stamp : ℕ) (end : Option ℕ) (old new : Slots) → Closes key stamp end old new → IsSame old new
closes_same key stamp end old new c = grind (arith, closed_same, limb_of, link_of, worth_of, doom_of)

-- what was looked at: of what was seen, no source descends, or the walk has passed it
pub record SeekSoFar (old cur : Slots) (top depth stamp : ℕ) (at : Option ℕ) (count : ℕ) : Type 0 where
  pub keys : List ℕ
  pub is : IsWalking (NoSource cur) stamp cur keys top depth at count
  pub still : IsSame old cur
  pub seen : (k : ℕ) (n : Node) → node_at cur k ≡ Some n → IsMarked stamp n.seen → NoneMet k cur ⊎ ((position keys top < position keys k) × (position keys k < place_of keys at))

pub seek_first : (old : Slots) (top stamp : ℕ) (node : Node) → HasSeen stamp old → IsStamped stamp old → node_at old top ≡ Some node → SeekSoFar old old top node.depth stamp node.next 0
seek_first old top stamp node h stamped at = record {
  keys = h.marks.keys;
  is = walking_first (NoSource old) stamp old top node h.marks stamped at;
  still = record { limbs_same = λ k. refl; links_same = λ k. refl; values_same = λ k. refl; dooms_same = λ k. refl; spots_same = λ k. refl };
  seen = λ k n is s. inl (h.seen k n is s);
}

pub seek_more : (old cur new : Slots) (top depth stamp count key : ℕ) (node : Node) (on : Option ℕ) → SeekSoFar old cur top depth stamp (Some key) count → node_at cur key ≡ Some node → depth < node.depth → node.source ≢ true
    → Sees key stamp cur new → (node.mark ≡ stamp → 1 ≤ stamp → on ≡ node.end) → (node.mark ≢ stamp → on ≡ node.next) → (stamp ≡ 0 → on ≡ node.next) → SeekSoFar old new top depth stamp on (count + 1)
seek_more old cur new top depth stamp count key node on c at deep none w over onto off =
    let keys = c.keys in
    let a = passes_on cur (NoSource cur) keys key stamp node on c.is.forest.order at c.is.marked over onto off in
    let s = sees_same key stamp cur new w in
    let reached = c.is.reached in
    let beyond = a.beyond in
    let source_key : sources cur key ≡ Some node.source = ap (λ (o : Option Node). option_map (λ (w : Worth). w.source) (option_map worth_of o)) at in
    record {
      keys = keys;
      is =
          walking_more (NoSource cur) (NoSource new) stamp cur new keys top depth count key node on c.is at deep a (still_none cur new s key (λ e. none (same_some (sym source_key ∙ e)))) s.limbs_same s.links_same (still_none cur new s)
          (keeps_written (seen_node stamp) stamp key cur new (λ n m. absurd (let z = m.same in let some = m.some in omega (arith, z, some))) (λ n. refl) (λ n. refl) w.here w.others)
          (stamped_at (seen_node stamp) stamp (λ n m s. (omega arith, omega arith)) key cur new w.here w.others c.is.stamped);
      still = same_on old cur new c.still s;
      seen = λ k n is m. elim (written_was (seen_node stamp) key cur new w.here w.others k n is) [
        | inl was ↦ elim (c.seen k n was m) [
          | inl free ↦ inl (none_same cur new s.limbs_same (no_more cur new s) k free)
          | inr r ↦ (let r1 = r.1 in inr (r.0, omega (arith, r1, beyond)))
        ]
        | inr v ↦ (let p : position keys k ≡ position keys key = ap (position keys) v.3 in inr (omega (arith, p, reached), omega (arith, p, beyond)))
      ];
    }

-- a source was met
pub seek_found : (old cur : Slots) (top stamp count key : ℕ) (head node : Node) → SeekSoFar old cur top head.depth stamp (Some key) count → node_at old top ≡ Some head → node_at cur key ≡ Some node → head.depth < node.depth → node.source ≡ true → Meets top old
seek_found old cur top stamp count key head node c at at_key deep met =
    let reached = c.is.reached in
    let d = (descendants (limbs cur) (position c.keys) c.is.forest.tree top key).1 (record {
      top = limb_of head;
      at_top = c.still.limbs_same top ∙ ap (option_map limb_of) at;
      limb = limb_of node;
      at_limb = ap (option_map limb_of) at_key;
      after = omega (arith, reached);
      deeper = deep;
      between = c.is.passes.deeper;
    }) in (
      key,
      (
        subst (λ (g : ℕ → Option Limb). Leads (parent_at g) key top) (λ i a. c.still.limbs_same a i) d,
        sym (sources_same old cur c.still key) ∙ ap (λ (o : Option Node). option_map (λ (w : Worth). w.source) (option_map worth_of o)) at_key ∙ ap (λ (z : Bool). Some z) met,
      ),
    )

-- the walk has come to the end of the run
pub sought : (old cur new : Slots) (top stamp count : ℕ) (head : Node) (at : Option ℕ) → node_at old top ≡ Some head → SeekSoFar old cur top head.depth stamp at count → Stops (limbs cur) head.depth at → Closes top stamp at cur new
    → NoneMet top old × HasSeen stamp new
sought old cur new top stamp count head at stood c stops w =
    let keys = c.keys in
    let s = closes_same top stamp at cur new w in
    let at_top : limbs cur top ≡ Some (limb_of head) = c.still.limbs_same top ∙ ap (option_map limb_of) stood in
    let none : NoneMet top cur = λ j l. (let r = leads_range cur (NoSource cur) keys top at (limb_of head) c.is.forest (record { passes = c.is.passes; stops = stops }) at_top j l in c.is.passes.each j r.0 r.1) in
    let stays : (k : ℕ) → NoneMet k cur → NoneMet k new = none_same cur new s.limbs_same (no_more cur new s) in
    let back = same_back old cur c.still in (
      none_same cur old back.limbs_same (no_more cur old back) top none,
      record {
        marks = walking_done (NoSource cur) (NoSource new) stamp cur new keys top count head at c.is stops at_top w s.limbs_same s.links_same (still_none cur new s);
        seen = λ k n is m. stays k (elim (written_was (closed_node stamp at) top cur new w.here w.others k n is) [
          | inr t ↦ subst (λ (q : ℕ). NoneMet q cur) (sym t.3) none
          | inl was ↦ elim (c.seen k n was m) [
            | inl free ↦ free
            | inr r ↦ λ j l. none j (leads_on (parent_at (limbs cur)) l (range_leads cur (NoSource cur) keys top at (limb_of head) c.is.forest c.is.passes at_top k r.0 r.1))
          ]
        ]);
      },
    )
