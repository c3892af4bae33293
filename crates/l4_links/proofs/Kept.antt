-- What the nodes keep, after each operation.
use Rattle.std.proofs.Common.{◌≡◌, ◌≢◌, ℕ, Bool, true, false, ◌&&◌, ◌+◌, List, [], ◌∷◌, ◌++◌, Option, Some, None, refl, sym, ap, ◌∙◌, subst, arith, inl, inr}
use Rattle.std.proofs.lemmas.Bool.{cases_eq}
use Rattle.std.specs.Option.{option_map}
use Rattle.l4_fpage.specs.Rights.{RightsSet, common, set_of_bits, bits_of}
use Rattle.l4_fpage.proofs.Eight.{bits_below, set_of_sum}
use Rattle.l4_nodes.specs.declared.nodes.Node.{Node}
use Rattle.l4_nodes.specs.declared.nodes.Slot.{Slot}
use Rattle.l4_links.specs.Leads.{Leads, steps}
use Rattle.l4_links.specs.Inside.Trees.{Limb, parent_at, Sprouts, Rises}
use Rattle.l4_links.specs.Inside.Orders.{Link, IsLinked, first_of, last_of, position}
use Rattle.l4_nodes.specs.Slots.{Slots, slot_at, node_at, SetsWanted}
use Rattle.l4_links.specs.Inside.Nodes.{limbs, links, values, marks, Marks, Worth, capped_worth, IsOrder, IsForest, IsLow, IsMarked, IsStamped, AreUnmarked, HasLow, HasMarks, NoSource, HasSeen, sources, Comes, Prunes, Clears, CapsBelow, IsSame}
use Rattle.l4_links.specs.Inside.Keeping.{IsWithin, LiesWithin, IsFresh, BeginsWalk, sources_walk, IsSound, IsLive}
use Rattle.l4_links.proofs.Writes.{no_some, same_some, map_from, stamped_same, limb_of, link_of, worth_of, marks_of}
use Rattle.l4_links.proofs.Linking.{parted, link_at, first_same, last_some}
use Rattle.l4_links.proofs.Neighbours.{in_list}
pub use Rattle.l4_links.proofs.Neighbours.{forest_links}
use Rattle.l4_links.proofs.Runs.{run_from_leads, parent_is, has_limb}
use Rattle.l4_links.proofs.Walking.{low_stays, KeepsMarks, marks_same, seen_same}

-- no node has a mark of this stamp
abbrev NoneMarked : ℕ → Slots → Type 0
NoneMarked stamp slots = (k : ℕ) (m : Marks) → marks slots k ≡ Some m → ¬ (IsMarked stamp m.mark) × ¬ (IsMarked stamp m.seen)

-- so none says anything that is wrong
none_marks : (Holds : ℕ → Type 0) (slots : Slots) (ks : List ℕ) (stamp : ℕ) → IsForest slots ks → NoneMarked stamp slots → HasMarks Holds stamp slots
none_marks Holds slots ks stamp forest none = record { keys = ks; forest = forest; marked = λ k n at m. absurd ((none k (marks_of n) (ap (option_map marks_of) at)).0 m) }

none_seen : (slots : Slots) (ks : List ℕ) (stamp : ℕ) → IsForest slots ks → NoneMarked stamp slots → HasSeen stamp slots
none_seen slots ks stamp forest none = record {
  marks = none_marks (NoSource slots) slots ks stamp forest none;
  seen = λ k n at m. absurd ((none k (marks_of n) (ap (option_map marks_of) at)).1 m);
}

-- where no walk has left a mark none is of the first stamp, and none above any
first_none : (slots : Slots) (stamp : ℕ) → stamp ≡ 1 → AreUnmarked slots → NoneMarked stamp slots
first_none slots stamp one u k m is = grind arith

stamped_unmarked : (slots : Slots) (stamp : ℕ) → AreUnmarked slots → IsStamped stamp slots
stamped_unmarked slots stamp u some k m is = grind arith

-- no node has a fresh stamp
fresh_none : (slots : Slots) (stamp fresh : ℕ) → IsStamped stamp slots → IsFresh stamp fresh → NoneMarked fresh slots
fresh_none slots stamp fresh s f k m is = grind arith

pub stamped_fresh : (slots : Slots) (stamp fresh : ℕ) → IsStamped stamp slots → IsFresh stamp fresh → IsStamped fresh slots
stamped_fresh slots stamp fresh s f some k m is = grind arith

-- with a fresh stamp all marks are right
pub sound_fresh : (slots : Slots) (first : Option ℕ) (stamp fresh walk : ℕ) (ks : List ℕ) → IsForest slots ks → first_of ks None ≡ first → IsWithin slots → IsStamped stamp slots → IsFresh stamp fresh → IsSound slots first fresh walk
sound_fresh slots first stamp fresh walk ks forest first_is within s f = search (stamped_fresh, none_marks, fresh_none, none_seen, arith)

pub sound_live : (slots : Slots) (first : Option ℕ) (stamp fresh walk : ℕ) → IsLive slots first stamp → IsFresh stamp fresh → IsSound slots first fresh walk
sound_live slots first stamp fresh walk l f = sound_fresh slots first stamp fresh walk l.keys l.forest l.first_is l.within l.stamped f

pub live_of : (slots : Slots) (first : Option ℕ) (stamp walk : ℕ) → IsSound slots first stamp walk → IsLive slots first stamp
live_of slots first stamp walk s = record { keys = s.keys; forest = s.forest; first_is = s.first_is; within = s.within; stamped = s.stamped }

-- no node
pub sound_empty : (walk : ℕ) → IsSound [] None 1 walk
sound_empty walk =
    let forest : IsForest [] [] = grind arith in
    grind arith

-- the nodes are the same, whatever blanks came or went
module _ (a b : Slots) (same : (k : ℕ) → node_at b k ≡ node_at a k) where
  forest_nodes : (ks : List ℕ) → IsForest a ks → IsForest b ks
  forest_nodes ks = forest_links a b ks (λ k. ap (option_map limb_of) (same k)) (λ k. ap (option_map link_of) (same k))

  within_nodes : IsWithin a → IsWithin b
  within_nodes within k p x l h is up v w = within k p x l h (sym (ap (option_map limb_of) (same k)) ∙ is) up (sym (ap (option_map worth_of) (same k)) ∙ v) (sym (ap (option_map worth_of) (same p)) ∙ w)

  stamped_nodes : (stamp : ℕ) → IsStamped stamp a → IsStamped stamp b
  stamped_nodes stamp = stamped_same stamp a b (λ k. ap (option_map marks_of) (same k))

  pub live_nodes : (first : Option ℕ) (stamp : ℕ) → IsLive a first stamp → IsLive b first stamp
  live_nodes first stamp s = record { keys = s.keys; forest = forest_nodes s.keys s.forest; first_is = s.first_is; within = within_nodes s.within; stamped = stamped_nodes stamp s.stamped }

  pub sound_nodes : (first : Option ℕ) (stamp walk : ℕ) → IsSound a first stamp walk → IsSound b first stamp walk
  sound_nodes first stamp walk s =
      let limbs_same : (k : ℕ) → limbs b k ≡ limbs a k = λ k. ap (option_map limb_of) (same k) in
      let links_same : (k : ℕ) → links b k ≡ links a k = λ k. ap (option_map link_of) (same k) in
      let less : (k : ℕ) → sources b k ≡ Some true → sources a k ≡ Some true = λ k e. ap (λ (o : Option Node). option_map (λ (w : Worth). w.source) (option_map worth_of o)) (sym (same k)) ∙ e in
      let keeps : KeepsMarks stamp a b = λ k n at m. (n, sym (same k) ∙ at, m, refl, refl) in
      let low = HasLow (set_of_bits walk) in
      record {
        keys = s.keys;
        forest = forest_nodes s.keys s.forest;
        first_is = s.first_is;
        within = within_nodes s.within;
        stamped = stamped_nodes stamp s.stamped;
        capped = λ ne. marks_same (low a) (low b) a b limbs_same (λ j has n at. has n (sym (same j) ∙ at)) stamp links_same keeps (s.capped ne);
        sought = λ e. seen_same a b stamp limbs_same links_same less keeps (λ k n at m. (n, sym (same k) ∙ at, m)) (s.sought e);
      }

pub nodes_blank : (old new : Slots) (key : ℕ) (slot : Slot) → slot.node ≡ None → slot_at old key ≡ None → slot_at new key ≡ Some slot → ((o : ℕ) → o ≢ key → slot_at new o ≡ slot_at old o) → (k : ℕ) → node_at new k ≡ node_at old k
nodes_blank old new key slot blank vacant filled others k = grind arith

-- the marks after a key without marks has come
pub stamped_comes : (worth : Worth) (key : ℕ) (old new : Slots) (stamp : ℕ) → Comes worth key old new → IsStamped stamp old → IsStamped stamp new
stamped_comes worth key old new stamp c s some k m is = grind arith

-- a parent stands
pub parent_stands : (slots : Slots) (ks : List ℕ) → IsForest slots ks → (k p : ℕ) (x : Limb) → limbs slots k ≡ Some x → x.parent ≡ Some p → (y : Limb) × (limbs slots p ≡ Some y)
parent_stands slots ks f k p x is up = let u = f.tree.under k p x is up in (u.above, u.at_parent)

-- a root lies within nothing
pub within_root : (old new : Slots) (ks : List ℕ) (worth : Worth) (key : ℕ) → IsForest old ks → IsWithin old → Rises (limbs old) (limbs new) key → Comes worth key old new → IsWithin new
within_root old new ks worth key f within r c k p x l h is up v w = elim (cases_eq k key) [
  | inl e ↦ no_some p (sym (ap (λ (q : Limb). q.parent) (same_some (sym is ∙ ap (limbs new) e ∙ r.filled))) ∙ up)
  | inr ne ↦
      let was = sym (r.others k ne) ∙ is in
      let above = parent_stands old ks f k p x was up in
      let pk : p ≢ key = λ e. no_some above.0 (sym r.vacant ∙ sym (ap (limbs old) e) ∙ above.1) in
      within k p x l h was up (sym (c.values_same k ne) ∙ v) (sym (c.values_same p pk) ∙ w)
]

all_with : (a c : Bool) → (a && c) && a ≡ a && c
all_with true true = refl
all_with true false = refl
all_with false c = refl

-- what a parent has of some rights is of the parent's
pub low_of_parent : (a r : RightsSet) → IsLow a (common a r)
low_of_parent a r = λ i. record { r = all_with a.r r.r i; w = all_with a.w r.w i; x = all_with a.x r.x i }

-- a child that is no parent lies within its parent
pub within_at : (old new : Slots) (parent key depth : ℕ) (above : Worth) (rights : RightsSet) → IsWithin old → values old parent ≡ Some above → parent ≢ key → limbs new key ≡ Some (record { parent = Some parent; depth = depth })
    → values new key ≡ Some (record { frame = above.frame; rights = common above.rights rights; source = false; granted = None }) → ((o : ℕ) → o ≢ key → limbs new o ≡ limbs old o) → ((o : ℕ) → o ≢ key → values new o ≡ values old o)
    → ((low : ℕ) → parent_at (limbs old) low ≢ Some key) → IsWithin new
within_at old new parent key depth above rights within at other limb value limbs_same values_same leaf k p x l h is up v w = elim (cases_eq k key) [
  | inl e ↦
      let pp : p ≡ parent = same_some (sym up ∙ ap (λ (q : Limb). q.parent) (same_some (sym is ∙ ap (limbs new) e ∙ limb))) in
      let ls : l ≡ record { frame = above.frame; rights = common above.rights rights; source = false; granted = None } = same_some (sym v ∙ ap (values new) e ∙ value) in
      let hs : h ≡ above = same_some (sym w ∙ ap (values new) pp ∙ values_same parent other ∙ at) in
      subst (λ (q : Worth). LiesWithin l q) (sym hs)
      (subst (λ (q : Worth). LiesWithin q above) (sym ls) (record { rights = low_of_parent above.rights rights; frame = refl }))
  | inr ne ↦
      let was = sym (limbs_same k ne) ∙ is in
      let p_other : p ≢ key = λ e. leaf k (parent_is (limbs old) k x was ∙ up ∙ ap (λ (q : ℕ). Some q) e) in
      within k p x l h was up (sym (values_same k ne) ∙ v) (sym (values_same p p_other) ∙ w)
]

within_child : (old new : Slots) (ks : List ℕ) (parent key : ℕ) (above : Worth) (rights : RightsSet) → IsForest old ks → IsWithin old → values old parent ≡ Some above → Sprouts (limbs old) (limbs new) parent key
    → Comes (record { frame = above.frame; rights = common above.rights rights; source = false; granted = None }) key old new → IsWithin new
within_child old new ks parent key above rights f within at s c =
    let other : (q : ℕ) (y : Limb) → limbs old q ≡ Some y → q ≢ key = λ q y old_q e. no_some y (sym s.vacant ∙ sym (ap (limbs old) e) ∙ old_q) in
    within_at old new parent key (s.above.depth + 1) above rights within at (other parent s.above s.at_parent) s.filled c.value_is s.others c.values_same
    (λ low up. (let h = has_limb (limbs old) low key up in let p = parent_stands old ks f low key h.limb h.is h.up in other key p.0 p.1 refl))

-- two orders of the same links begin with the same key
pub first_unique : (slots : Slots) (ks ls : List ℕ) → IsOrder slots ks → IsOrder slots ls → first_of ks None ≡ first_of ls None
first_unique slots [] [] a b = refl
first_unique slots [] (l ∷ ls) a b = absurd (let n = in_list slots (l ∷ ls) b l (inl refl) in a.all l n.0 n.1)
first_unique slots (k ∷ ks) ls a b =
    let n = in_list slots (k ∷ ks) a k (inl refl) in
    let p = parted ls k (b.all k n.0 n.1) in
    let l = link_at (links slots) None p.front k p.back None (subst (λ (z : List ℕ). IsLinked (links slots) None z None) p.is b.linked) in
    let e : record { prev = None; next = first_of ks None } ≡ record { prev = last_of None p.front; next = first_of p.back None } = same_some (sym a.linked.0 ∙ l) in
    none_front k p.front p.back (sym (ap (λ (z : Link). z.prev) e)) ∙ sym (ap (λ (z : List ℕ). first_of z None) p.is)
  where
    none_front : (k : ℕ) (front back : List ℕ) → last_of None front ≡ None → ◌≡◌ {A = Option ℕ} (Some k) (first_of (front ++ k ∷ back) None)
    none_front k [] back e = refl
    none_front k (x ∷ xs) back e = absurd (last_some x xs e)

-- what is left of the nodes lies within as it did
pub within_kept : (old new : Slots) (ks : List ℕ) → IsForest new ks → IsWithin old → ((k : ℕ) (x : Limb) → limbs new k ≡ Some x → (limbs new k ≡ limbs old k) × (values new k ≡ values old k)) → IsWithin new
within_kept old new ks f within kept k p x l h is up v w =
    let a = kept k x is in
    let above = parent_stands new ks f k p x is up in
    let b = kept p above.0 above.1 in
    within k p x l h (sym a.0 ∙ is) up (sym a.1 ∙ v) (sym b.1 ∙ w)

-- nothing descends from a key without a node
pub none_below : (slots : Slots) (ks : List ℕ) → IsForest slots ks → (top k : ℕ) → node_at slots top ≡ None → Leads (parent_at (limbs slots)) k top → ⊥
none_below slots ks f top k none l =
    let r = run_from_leads (limbs slots) (position ks) f.tree l in
    no_some r.top (sym (ap (option_map limb_of) none) ∙ r.at_top)

-- what lies within stays within, where both are capped
low_both : (h r c : RightsSet) → IsLow h r → IsLow (common h c) (common r c)
low_both h r c low = grind arith

pub same_worth : {v w : Worth} → ◌≡◌ {A = Option Worth} (Some v) (Some w) → v ≡ w
same_worth {v} {w} e = same_some e

within_capped : (old new : Slots) (ks : List ℕ) (top : ℕ) (cap : RightsSet) → IsForest old ks → IsWithin old → CapsBelow top cap old new → IsWithin new
within_capped old new ks top cap f within c k p x l h is up v w =
    let was : limbs old k ≡ Some x = sym (c.limbs_same k) ∙ is in
    let above = parent_stands old ks f k p x was up in
    let up_k : parent_at (limbs old) k ≡ Some p = parent_is (limbs old) k x was ∙ up in
    let n = map_from limb_of (node_at old k) x was in
    let m = map_from limb_of (node_at old p) above.0 above.1 in
    let lo : values old k ≡ Some (worth_of n.0) = ap (option_map worth_of) n.1 in
    let hi : values old p ≡ Some (worth_of m.0) = ap (option_map worth_of) m.1 in
    let base = within k p x (worth_of n.0) (worth_of m.0) was up lo hi in
    let put : (a b : Worth) → a ≡ l → b ≡ h → LiesWithin a b → LiesWithin l h = λ a b e g r. subst (λ (z : Worth). LiesWithin l z) g (subst (λ (z : Worth). LiesWithin z b) e r) in
    elim (c.decided k) [
      | inr off ↦
          let off_p : ¬ (Leads (parent_at (limbs old)) p top) = λ q. off (steps up_k q) in
          put (worth_of n.0) (worth_of m.0) (same_worth (sym lo ∙ sym (c.kept k off) ∙ v)) (same_worth (sym hi ∙ sym (c.kept p off_p) ∙ w)) base
      | inl on ↦
          let low_is : capped_worth cap (worth_of n.0) ≡ l = same_worth (sym (ap (option_map (capped_worth cap)) lo) ∙ sym (c.capped k on) ∙ v) in
          grind (arith, worth_of, same_worth, low_both, low_stays)
    ]

from_zero : (n : ℕ) → n ≡ 0 + n
from_zero n = omega arith

pub bits_back : (cap : RightsSet) → set_of_bits (bits_of cap) ≡ cap
bits_back cap = ap set_of_bits (from_zero (bits_of cap)) ∙ set_of_sum 0 cap refl

pub no_sources_walk : (cap : RightsSet) → bits_of cap ≢ sources_walk
no_sources_walk cap e = let b = bits_below cap in let z : bits_of cap ≡ 8 = e in absurd (omega (arith, b, z))

pub sound_capped : (old new : Slots) (first : Option ℕ) (stamp walk later top : ℕ) (cap : RightsSet) → IsSound old first stamp walk → CapsBelow top cap old new → HasMarks (HasLow cap new) later new → IsStamped later new → IsSound new first later (bits_of cap)
sound_capped old new first stamp walk later top cap s c m t = record {
  keys = s.keys;
  forest = forest_links old new s.keys c.limbs_same c.links_same s.forest;
  first_is = s.first_is;
  within = within_capped old new s.keys top cap s.forest s.within c;
  stamped = t;
  capped = λ _. subst (λ (z : RightsSet). HasMarks (HasLow z new) later new) (sym (bits_back cap)) m;
  sought = λ e. absurd (no_sources_walk cap e);
}

-- what a walk starts with is known from the last walk, or nothing has its mark
walk_begins : (Knows : ℕ → Slots → Type 0) (old new : Slots) (first : Option ℕ) (stamp last walk later : ℕ) (s : IsSound old first stamp last) → IsSame old new → BeginsWalk last walk stamp later old new → (last ≡ walk → Knows stamp old)
    → ((n : ℕ) (slots : Slots) → IsForest slots s.keys → NoneMarked n slots → Knows n slots) → Knows later new × IsStamped later new
walk_begins Knows old new first stamp last walk later s still e known nothing = elim e [
  | inl kept ↦ subst (λ (z : Slots). Knows later z × IsStamped later z) (sym kept.2) (subst (λ (z : ℕ). Knows z old × IsStamped z old) (sym kept.1) (known kept.0, s.stamped))
  | inr r ↦ elim r [
    | inl f ↦ subst (λ (z : Slots). Knows later z × IsStamped later z) (sym f.1) (nothing later old s.forest (fresh_none old stamp later s.stamped f.0), stamped_fresh old stamp later s.stamped f.0)
    | inr u ↦ (nothing later new (forest_links old new s.keys still.limbs_same still.links_same s.forest) (first_none new later u.0 u.1), stamped_unmarked new later u.1)
  ]
]

pub marks_for : (old new : Slots) (first : Option ℕ) (stamp walk later : ℕ) (cap : RightsSet) → IsSound old first stamp walk → IsSame old new → BeginsWalk walk (bits_of cap) stamp later old new → HasMarks (HasLow cap new) later new × IsStamped later new
marks_for old new first stamp walk later cap s still e =
    walk_begins (λ n slots. HasMarks (HasLow cap slots) n slots) old new first stamp walk (bits_of cap) later s still e
    (λ same. subst (λ (z : RightsSet). HasMarks (HasLow z old) stamp old) (ap set_of_bits same ∙ bits_back cap) (s.capped (λ w. no_sources_walk cap (sym same ∙ w))))
    (λ n slots forest none. none_marks (HasLow cap slots) slots s.keys n forest none)

pub seen_for : (old new : Slots) (first : Option ℕ) (stamp walk later : ℕ) → IsSound old first stamp walk → IsSame old new → BeginsWalk walk sources_walk stamp later old new → HasSeen later new × IsStamped later new
seen_for old new first stamp walk later s still e =
    walk_begins (λ n slots. HasSeen n slots) old new first stamp walk sources_walk later s still e s.sought (λ n slots forest none. none_seen slots s.keys n forest none)

within_same : (old new : Slots) → IsSame old new → IsWithin old → IsWithin new
within_same old new e within k p x l h is up v w = within k p x l h (sym (e.limbs_same k) ∙ is) up (sym (e.values_same k) ∙ v) (sym (e.values_same p) ∙ w)

-- after a walk for sources that found none
pub sound_sought : (old new : Slots) (first : Option ℕ) (stamp walk later : ℕ) → IsSound old first stamp walk → IsSame old new → HasSeen later new → IsStamped later new → IsSound new first later sources_walk
sound_sought old new first stamp walk later s e h t = record {
  keys = s.keys;
  forest = forest_links old new s.keys e.limbs_same e.links_same s.forest;
  first_is = s.first_is;
  within = within_same old new e s.within;
  stamped = t;
  capped = λ ne. absurd (ne refl);
  sought = λ _. h;
}

-- and after one that found a source, with a fresh stamp
pub sound_found : (old new : Slots) (first : Option ℕ) (stamp walk later fresh next : ℕ) → IsSound old first stamp walk → IsSame old new → IsStamped later new → IsFresh later fresh → IsSound new first fresh next
sound_found old new first stamp walk later fresh next s e t f =
    sound_fresh new first later fresh next s.keys (forest_links old new s.keys e.limbs_same e.links_same s.forest) s.first_is (within_same old new e s.within) t f

pub sound_root : (old new : Slots) (first : Option ℕ) (stamp fresh walk key : ℕ) (worth : Worth) → IsSound old first stamp walk → Rises (limbs old) (limbs new) key → Comes worth key old new
    → ((ks : List ℕ) → IsForest old ks → first_of ks None ≡ first → IsForest new (key ∷ ks)) → IsFresh stamp fresh → IsSound new (Some key) fresh walk
sound_root old new first stamp fresh walk key worth s r c forest f =
    sound_fresh new (Some key) stamp fresh walk (key ∷ s.keys) (forest s.keys s.forest s.first_is) refl (within_root old new s.keys worth key s.forest s.within r c) (stamped_comes worth key old new stamp c s.stamped) f

pub live_child : (old new : Slots) (first : Option ℕ) (stamp parent key : ℕ) (above : Node) (rights : RightsSet) → IsLive old first stamp → node_at old parent ≡ Some above → Sprouts (limbs old) (limbs new) parent key
    → Comes (record { frame = above.frame; rights = common above.rights rights; source = false; granted = None }) key old new → ((xs ys : List ℕ) → IsForest old (xs ++ parent ∷ ys) → IsForest new (xs ++ parent ∷ key ∷ ys)) → IsLive new first stamp
live_child old new first stamp parent key above rights s at sprouts c forest =
    let p = parted s.keys parent (s.forest.order.all parent above at) in
    record {
      keys = p.front ++ parent ∷ key ∷ p.back;
      forest = forest p.front p.back (subst (λ (z : List ℕ). IsForest old z) p.is s.forest);
      first_is = first_same p.front parent (key ∷ p.back) p.back None ∙ sym (ap (λ (z : List ℕ). first_of z None) p.is) ∙ s.first_is;
      within = within_child old new s.keys parent key (worth_of above) rights s.forest s.within (ap (option_map worth_of) at) sprouts c;
      stamped = stamped_comes (record { frame = above.frame; rights = common above.rights rights; source = false; granted = None }) key old new stamp c s.stamped;
    }

pub sound_child : (old new : Slots) (first : Option ℕ) (stamp fresh walk parent key : ℕ) (above : Node) (rights : RightsSet) → IsSound old first stamp walk → node_at old parent ≡ Some above → Sprouts (limbs old) (limbs new) parent key
    → Comes (record { frame = above.frame; rights = common above.rights rights; source = false; granted = None }) key old new → ((xs ys : List ℕ) → IsForest old (xs ++ parent ∷ ys) → IsForest new (xs ++ parent ∷ key ∷ ys)) → IsFresh stamp fresh → IsSound new first fresh walk
sound_child old new first stamp fresh walk parent key above rights s at sprouts c forest f = search (sound_live, live_child, live_of, arith)

-- the nodes that are left after a node went with all that descends from it
pub live_cleared : (old new : Slots) (first after : Option ℕ) (stamp top : ℕ) → IsLive old first stamp → Clears top first after old new → IsLive new after stamp
live_cleared old new first after stamp top s p = record {
  keys = p.front ++ p.left;
  forest = p.forest;
  first_is = p.first_is (first_unique old (p.front ++ top ∷ p.rest) s.keys p.was.order s.forest.order ∙ s.first_is);
  within = within_kept old new (p.front ++ p.left) p.forest s.within (λ k x is. (let off = left old new first after top p limb_of k x is in (p.limbs_kept k off.0 off.1, p.values_kept k off.0 off.1)));
  stamped = λ some k m is. (let off = left old new first after top p marks_of k m is in s.stamped some k m (sym (p.marks_kept k off.0 off.1) ∙ is));
}
  where
    left : (old new : Slots) (first after : Option ℕ) (top : ℕ) (p : Clears top first after old new) {X : Type 0} (F : Node → X) (k : ℕ) (x : X) → option_map F (node_at new k) ≡ Some x → (k ≢ top) × ¬ (Leads (parent_at (limbs old)) k top)
    left old new first after top p F k x is = (
      λ e. no_some x (sym (ap (option_map F) (ap (node_at new) e ∙ p.here)) ∙ is),
      λ l. no_some x (sym (ap (option_map F) (p.gone k l)) ∙ is),
    )

pub sound_cleared : (old new : Slots) (first after : Option ℕ) (stamp fresh walk top : ℕ) → IsSound old first stamp walk → Clears top first after old new → IsFresh stamp fresh → IsSound new after fresh walk
sound_cleared old new first after stamp fresh walk top s p f = sound_live new after stamp fresh walk (live_cleared old new first after stamp top (live_of old first stamp walk s) p) f

-- the nodes that are left after all that descends from a node went
pub sound_pruned : (old new : Slots) (first : Option ℕ) (stamp fresh walk top : ℕ) → IsSound old first stamp walk → Prunes top old new → IsFresh stamp fresh → IsSound new first fresh walk
sound_pruned old new first stamp fresh walk top s p f =
    sound_fresh new first stamp fresh walk (p.front ++ top ∷ p.left) p.forest
    (first_same p.front top p.left p.rest None ∙ first_unique old (p.front ++ top ∷ p.rest) s.keys p.was.order s.forest.order ∙ s.first_is)
    (within_kept old new (p.front ++ top ∷ p.left) p.forest s.within (λ k x is. (let off = left old new top p limb_of k x is in (p.limbs_kept k off, p.values_kept k off))))
    (λ some k m is. s.stamped some k m (sym (p.marks_kept k (left old new top p marks_of k m is)) ∙ is)) f
  where
    left : (old new : Slots) (top : ℕ) (p : Prunes top old new) {X : Type 0} (F : Node → X) (k : ℕ) (x : X) → option_map F (node_at new k) ≡ Some x → ¬ (Leads (parent_at (limbs old)) k top)
    left old new top p F k x is l = no_some x (sym (ap (option_map F) (p.gone k l)) ∙ is)

-- a slot whose page is wanted or not has the same node
pub nodes_wanted : (old new : Slots) (key : ℕ) (wanted : Bool) → SetsWanted key wanted old new → (k : ℕ) → node_at new k ≡ node_at old k
nodes_wanted old new key wanted c k = grind arith
