-- The stack of nodes without rights, after a write.
use Rattle.std.proofs.Common.{◌≡◌, ◌≢◌, ℕ, Bool, true, false, not, ◌&&◌, List, [], ◌∷◌, Option, Some, None, refl, sym, ap, ◌∙◌, subst, inl, inr}
use Rattle.std.proofs.lemmas.Bool.{cases_eq, false≢true}
use Rattle.std.specs.Option.{option_map}
use Rattle.l4_fpage.specs.Rights.{RightsSet, common, no_rights, is_none}
use Rattle.l4_links.specs.declared.Standing.{Standing}
use Rattle.l4_nodes.specs.declared.nodes.Node.{Node}
use Rattle.l4_links.specs.Inside.Orders.{IsIn, first_of}
use Rattle.l4_nodes.specs.Slots.{Slots, node_at, Writes, SetsRights, Closes}
use Rattle.l4_links.specs.Inside.Nodes.{values, Worth, Doom, dooms, Caps, Comes, Prunes, Clears}
use Rattle.l4_links.specs.Inside.Stacks.{IsStacked, IsStack, HasStack}
use Rattle.l4_links.specs.Inside.Keeping.{standing_of, entries_of}
use Rattle.l4_links.specs.Entries.{standing_at, HaveRights}
use Rattle.l4_links.proofs.Writes.{no_some, same_some, map_from, map_both, map_at, doom_of, has_slot, worth_of}
use Rattle.l4_links.proofs.Noting.{quiet_of, IsQuiet}
use Rattle.l4_links.proofs.Seen.{standing_is}

-- the key has no node, or one with a right
abbrev pub HasRight : Slots → ℕ → Type 0
HasRight slots key = (d : Doom) → dooms slots key ≡ Some d → d.rights ≢ no_rights

-- a node that gets rights is written so
pub rights_written : (key : ℕ) (rights : RightsSet) (doomed : Option ℕ) (old new : Slots) (n : Node) → node_at old key ≡ Some n → SetsRights key rights doomed old new → Writes key (Some (record n { rights = rights; doomed = doomed })) old new
rights_written key rights doomed old new n at w = record {
  here = λ _. w.here ∙ ap (option_map {T = Node} (λ m. record m { rights = rights; doomed = doomed })) at;
  others = w.others;
  spots_same = w.spots_same;
}

-- a set that is said to be empty
none_of : (a b c : Bool) → not a && not b && not c ≡ true → ◌≡◌ {A = RightsSet} (record { r = a; w = b; x = c }) no_rights
none_of false false false e = refl
none_of true b c e = absurd (false≢true e)
none_of false true c e = absurd (false≢true e)
none_of false false true e = absurd (false≢true e)

pub none_is : (r : RightsSet) → is_none r ≡ true → r ≡ no_rights
none_is r e = none_of r.r r.w r.x e

pub some_is : (r : RightsSet) → is_none r ≡ false → r ≢ no_rights
some_is r e none = false≢true (sym e ∙ ap is_none none)

with_none : (a : Bool) → a && false ≡ false
with_none false = refl
with_none true = refl

-- within no rights there are none
pub common_none : (r : RightsSet) → common r no_rights ≡ no_rights
common_none r = λ i. record { r = with_none r.r i; w = with_none r.w i; x = with_none r.x i }

pub doom_at : (slots : Slots) (k : ℕ) (n : Node) → node_at slots k ≡ Some n → dooms slots k ≡ Some (doom_of n)
doom_at slots k n at = ap (option_map doom_of) at

-- the links of a stack are those of its keys alone
stacked_same : (old new : ℕ → Option Doom) (ks : List ℕ) → ((k : ℕ) → IsIn ks k → new k ≡ old k) → IsStacked old ks → IsStacked new ks
stacked_same old new [] same l = l
stacked_same old new (k ∷ ks) same l = (same k (inl refl) ∙ l.0, stacked_same old new ks (λ j i. same j (inr i)) l.1)

-- each key of the stack has no rights
pub stacked_none : (at : ℕ → Option Doom) (ks : List ℕ) → IsStacked at ks → (k : ℕ) → IsIn ks k → (d : Doom) × (at k ≡ Some d) × (d.rights ≡ no_rights)
stacked_none at [] l k i = absurd i
stacked_none at (x ∷ xs) l k i = elim i [
  | inl e ↦ (record { rights = no_rights; next = first_of xs None }, sym (ap at e) ∙ l.0, refl)
  | inr j ↦ stacked_none at xs l.1 k j
]

off_stack : (slots : Slots) (ks : List ℕ) → IsStacked (dooms slots) ks → (k : ℕ) → HasRight slots k → ¬ (IsIn ks k)
off_stack slots ks l k some i = let n = stacked_none (dooms slots) ks l k i in some n.0 n.1 n.2

-- a write that the stack doesn't see
pub stack_same : (old new : Slots) (head : Option ℕ) → ((k : ℕ) → dooms new k ≡ dooms old k) → HasStack old head → HasStack new head
stack_same old new head same s = record { keys = s.keys; stack = subst (λ (g : ℕ → Option Doom). IsStack g s.keys) (λ i k. sym (same k) i) s.stack; head_is = s.head_is }

pub stack_closed : (key stamp : ℕ) (end : Option ℕ) (old new : Slots) (head : Option ℕ) → Closes key stamp end old new → HasStack old head → HasStack new head
stack_closed key stamp end old new head c s = stack_same old new head (map_at doom_of (λ (n : Node). record n { seen = stamp; mark = stamp; end = end }) (λ n. refl) key old new c.here c.others) s

-- a write to a key that has a right, before and after it
pub stack_off : (old new : Slots) (head : Option ℕ) (key : ℕ) → HasRight old key → HasRight new key → ((o : ℕ) → o ≢ key → dooms new o ≡ dooms old o) → HasStack old head → HasStack new head
stack_off old new head key was now others s =
    let out = off_stack old s.keys s.stack.stacked key was in
    record {
      keys = s.keys;
      stack = record {
        once = s.stack.once;
        stacked = stacked_same (dooms old) (dooms new) s.keys (λ k i. others k (λ e. out (subst (λ (z : ℕ). IsIn s.keys z) e i))) s.stack.stacked;
        all = λ k d is none. elim (cases_eq k key) [
          | inl e ↦ absurd (now d (sym (ap (dooms new) e) ∙ is) none)
          | inr ne ↦ s.stack.all k d (sym (others k ne) ∙ is) none
        ];
      };
      head_is = s.head_is;
    }

-- a node that lost its last right stands on the stack
pub stack_pushed : (old new : Slots) (head : Option ℕ) (key : ℕ) → HasRight old key → dooms new key ≡ Some (record { rights = no_rights; next = head }) → ((o : ℕ) → o ≢ key → dooms new o ≡ dooms old o) → HasStack old head
    → HasStack new (Some key)
stack_pushed old new head key was now others s =
    let out = off_stack old s.keys s.stack.stacked key was in
    record {
      keys = key ∷ s.keys;
      stack = record {
        once = (out, s.stack.once);
        stacked = (
          now ∙ ap (λ (o : Option ℕ). Some (record { rights = no_rights; next = o })) (sym s.head_is),
          stacked_same (dooms old) (dooms new) s.keys (λ k i. others k (λ e. out (subst (λ (z : ℕ). IsIn s.keys z) e i))) s.stack.stacked,
        );
        all = λ k d is none. elim (cases_eq k key) [
          | inl e ↦ inl (sym e)
          | inr ne ↦ inr (s.stack.all k d (sym (others k ne) ∙ is) none)
        ];
      };
      head_is = refl;
    }

-- the stack without its first key, which has gone
pub stack_popped : (old new : Slots) (key : ℕ) (rest : List ℕ) → IsStack (dooms old) (key ∷ rest) → dooms new key ≡ None → ((o : ℕ) → o ≢ key → dooms new o ≡ dooms old o) → IsStack (dooms new) rest
stack_popped old new key rest s gone others = record {
  once = s.once.1;
  stacked = stacked_same (dooms old) (dooms new) rest (λ k i. others k (λ e. s.once.0 (subst (λ (z : ℕ). IsIn rest z) e i))) s.stacked.1;
  all = λ k d is none. elim (cases_eq k key) [
    | inl e ↦ no_some d (sym gone ∙ sym (ap (dooms new) e) ∙ is)
    | inr ne ↦ elim (s.all k d (sym (others k ne) ∙ is) none) [ inl e ↦ absurd (ne (sym e)) | inr i ↦ i ]
  ];
}

-- where each node has a right the stack is empty
pub stack_empty : (slots : Slots) → ((k : ℕ) → HasRight slots k) → HasStack slots None
stack_empty slots some = record { keys = []; stack = record { once = tt; stacked = tt; all = λ k d is none. absurd (some k d is none) }; head_is = refl }

pub head_none : (slots : Slots) (head : Option ℕ) → HasStack slots head → ((k : ℕ) → HasRight slots k) → head ≡ None
head_none slots head s some = sym s.head_is ∙ no_keys slots s.keys s.stack.stacked some
  where
    no_keys : (slots : Slots) (ks : List ℕ) → IsStacked (dooms slots) ks → ((k : ℕ) → HasRight slots k) → first_of ks None ≡ None
    no_keys slots [] l some = refl
    no_keys slots (k ∷ ks) l some = absurd (some k (record { rights = no_rights; next = first_of ks None }) l.0 refl)

-- what a contract says of rights
pub right_of_value : (slots : Slots) (k : ℕ) → ((w : Worth) → values slots k ≡ Some w → w.rights ≢ no_rights) → HasRight slots k
right_of_value slots k some d is none =
    let n = map_from doom_of (node_at slots k) d is in
    some (worth_of n.0) (ap (option_map worth_of) n.1) (ap (λ (z : Doom). z.rights) n.2 ∙ none)

pub right_of_standing : (slots : Slots) (k : ℕ) → ((t : Standing) → standing_at (entries_of slots) k ≡ Some t → t.rights ≢ no_rights) → HasRight slots k
right_of_standing slots k some d is none =
    let n = map_from doom_of (node_at slots k) d is in
    some (standing_of n.0) (standing_is slots k ∙ ap (option_map standing_of) n.1) (ap (λ (z : Doom). z.rights) n.2 ∙ none)

pub no_right : (slots : Slots) (k : ℕ) → node_at slots k ≡ None → HasRight slots k
no_right slots k none d is = no_some d (sym (ap (option_map doom_of) none) ∙ is)

-- the worth and the rights of a key
pub some_worth : (slots : Slots) (k : ℕ) (w : Worth) → values slots k ≡ Some w → w.rights ≢ no_rights → HasRight slots k
some_worth slots k w is some = right_of_value slots k (λ v at none. some (ap (λ (z : Worth). z.rights) (same_some (sym is ∙ at)) ∙ none))

pub right_at : (slots : Slots) (k : ℕ) (n : Node) → node_at slots k ≡ Some n → n.rights ≢ no_rights → HasRight slots k
right_at slots k n at some d is none = some (ap (λ (z : Doom). z.rights) (same_some (sym (doom_at slots k n at) ∙ is)) ∙ none)

-- the cap of a node without rights
pub caps_kept : (slots : Slots) (key : ℕ) (cap : RightsSet) (n : Node) → node_at slots key ≡ Some n → n.rights ≡ no_rights → Caps key cap slots slots
caps_kept slots key cap n at none =
    let capped : n.rights ≡ common n.rights cap = none ∙ sym (ap (λ (z : RightsSet). common z cap) none) in
    record {
      doomed = n.doomed;
      here = at ∙ (λ i. Some (record n { rights = capped i; doomed = n.doomed })) ∙ sym (ap (option_map (λ (m : Node). record m { rights = common m.rights cap; doomed = n.doomed })) at);
      others = λ o ne. refl;
      spots_same = λ o. refl;
    }

-- and of one with a right
module _ (old new : Slots) (key : ℕ) (cap rights : RightsSet) (doomed : Option ℕ) (n : Node) (at : node_at old key ≡ Some n) (is : rights ≡ common n.rights cap) (w : Writes key (Some (record n { rights = rights; doomed = doomed })) old new) where
  now_at : node_at new key ≡ Some (record n { rights = rights; doomed = doomed })
  now_at = w.here (has_slot old key n at)

  pub caps_written : Caps key cap old new
  caps_written = record {
    doomed = doomed;
    here = now_at ∙ (λ i. Some (record n { rights = is i; doomed = doomed })) ∙ sym (ap (option_map (λ (m : Node). record m { rights = common m.rights cap; doomed = doomed })) at);
    others = w.others;
    spots_same = w.spots_same;
  }

  pub stack_left : n.rights ≢ no_rights → rights ≢ no_rights → (head : Option ℕ) → HasStack old head → HasStack new head
  stack_left was now head s =
      stack_off old new head key (right_at old key n at was) (right_at new key (record n { rights = rights; doomed = doomed }) now_at now) (λ o ne. ap (option_map doom_of) (w.others o ne)) s

  pub stack_grown : n.rights ≢ no_rights → rights ≡ no_rights → HasStack old doomed → HasStack new (Some key)
  stack_grown was none s =
      stack_pushed old new doomed key (right_at old key n at was) (ap (option_map doom_of) now_at ∙ (λ i. Some (record { rights = none i; next = doomed })))
      (λ o ne. ap (option_map doom_of) (w.others o ne)) s

-- the same nodes, whatever blanks came or went
pub stack_nodes : (old new : Slots) (head : Option ℕ) → ((k : ℕ) → node_at new k ≡ node_at old k) → HasStack old head → HasStack new head
stack_nodes old new head same s = stack_same old new head (λ k. ap (option_map doom_of) (same k)) s

pub stack_comes : (worth : Worth) (key : ℕ) (old new : Slots) (head : Option ℕ) → Comes worth key old new → worth.rights ≢ no_rights → HasStack old head → HasStack new head
stack_comes worth key old new head c some s = stack_off old new head key (no_right old key c.vacant) (some_worth new key worth c.value_is some) c.dooms_same s

-- the same nodes but for their notes
pub stack_quiet : (old new : Slots) (head : Option ℕ) → IsQuiet old new → HasStack old head → HasStack new head
stack_quiet old new head quiet s = stack_same old new head (λ k. sym (map_both doom_of quiet_of (λ n. refl) (node_at new k)) ∙ ap (option_map doom_of) (quiet k) ∙ map_both doom_of quiet_of (λ n. refl) (node_at old k)) s

-- where all have rights, and what is left has what it had
stack_kept : (old new : Slots) (head : Option ℕ) → HaveRights (entries_of old) → ((k : ℕ) (w : Worth) → values new k ≡ Some w → values new k ≡ values old k) → HasStack old head → HasStack new head
stack_kept old new head some kept s =
    let was : (k : ℕ) → HasRight old k = λ k. right_of_standing old k (some k) in
    subst (λ (o : Option ℕ). HasStack new o) (sym (head_none old head s was))
    (stack_empty new (λ k. right_of_value new k (λ w is none. (let v = map_from worth_of (node_at old k) w (sym (kept k w is) ∙ is) in was k (doom_of v.0) (doom_at old k v.0 v.1) (ap (λ (z : Worth). z.rights) v.2 ∙ none)))))

pub stack_cleared : (top : ℕ) (first after : Option ℕ) (old new : Slots) (head : Option ℕ) → HaveRights (entries_of old) → Clears top first after old new → HasStack old head → HasStack new head
stack_cleared top first after old new head some p s =
    stack_kept old new head some
    (λ k w is. p.values_kept k
    (λ e. no_some w (sym (ap (option_map worth_of) (ap (node_at new) e ∙ p.here)) ∙ is))
    (λ l. no_some w (sym (ap (option_map worth_of) (p.gone k l)) ∙ is))) s

pub stack_pruned : (top : ℕ) (old new : Slots) (head : Option ℕ) → HaveRights (entries_of old) → Prunes top old new → HasStack old head → HasStack new head
stack_pruned top old new head some p s =
    stack_kept old new head some (λ k w is. p.values_kept k (λ l. no_some w (sym (ap (option_map worth_of) (p.gone k l)) ∙ is))) s
