-- The keys that a walk below a key has passed, and that they are what descends from the key.
use Rattle.std.proofs.Common.{◌≡◌, ℕ, zero, suc, List, [], ◌∷◌, ◌++◌, Option, Some, refl, sym, ap, subst, inl, inr, slice_get}
use Rattle.std.specs.Option.{option_map}
use Rattle.l4_nodes.specs.declared.nodes.Node.{Node}
use Rattle.l4_nodes.specs.Slots.{Slots, node_at}
use Rattle.l4_links.specs.Leads.{Leads}
use Rattle.l4_links.specs.ListOf.{IsListOf}
use Rattle.l4_links.specs.Entries.{Descends}
use Rattle.l4_links.specs.Inside.Trees.{parent_at}
use Rattle.l4_links.specs.Inside.Orders.{IsIn, IsOnce}
use Rattle.l4_links.specs.Inside.Nodes.{limbs, Stops}
use Rattle.l4_links.specs.Inside.Keeping.{entries_of}
use Rattle.l4_links.proofs.Linking.{in_left}
use Rattle.l4_links.proofs.Cutting.{HasPassed, once_rest, run_leads}
use Rattle.l4_links.proofs.Seen.{leads_of, descends_of}
use Rattle.l4_links.proofs.Writes.{no_some, same_some, limb_of}

-- a list of keys by its places
in_get : (ks : List ℕ) (k : ℕ) → IsIn ks k → (i : ℕ) × (slice_get ks i ≡ Some k)
in_get [] k i = absurd i
in_get (x ∷ ks) k i = elim i [
  | inl e ↦ (0, ap (λ (z : ℕ). Some z) e)
  | inr j ↦ (let r = in_get ks k j in (suc r.0, r.1))
]

get_in : (ks : List ℕ) (i k : ℕ) → slice_get ks i ≡ Some k → IsIn ks k
get_in [] i k e = no_some k e
get_in (x ∷ ks) zero k e = inl (same_some e)
get_in (x ∷ ks) (suc i) k e = inr (get_in ks i k e)

get_once : (ks : List ℕ) → IsOnce ks → (i j k : ℕ) → slice_get ks i ≡ Some k → slice_get ks j ≡ Some k → i ≡ j
get_once [] once i j k e f = no_some k e
get_once (x ∷ ks) once zero zero k e f = refl
get_once (x ∷ ks) once zero (suc j) k e f = absurd (once.0 (subst (λ (z : ℕ). IsIn ks z) (sym (same_some e)) (get_in ks j k f)))
get_once (x ∷ ks) once (suc i) zero k e f = absurd (once.0 (subst (λ (z : ℕ). IsIn ks z) (sym (same_some f)) (get_in ks i k e)))
get_once (x ∷ ks) once (suc i) (suc j) k e f = ap (λ (z : ℕ). suc z) (get_once ks once.1 i j k e f)

once_left : (xs ys : List ℕ) → IsOnce (xs ++ ys) → IsOnce xs
once_left [] ys once = tt
once_left (x ∷ xs) ys once = (λ i. once.0 (in_left xs ys x i), once_left xs ys once.1)

-- where the walk stops, it has passed what descends from the top
pub passed_all : (slots : Slots) (top : ℕ) (at : Option ℕ) (run : List ℕ) (head : Node) → HasPassed slots top head.depth at run → node_at slots top ≡ Some head → Stops (limbs slots) head.depth at
    → IsListOf (λ (key : ℕ). Leads (parent_at (limbs slots)) key top) run
passed_all slots top at run head c at_top stops =
    let leads = run_leads slots top at run (limb_of head) c stops (ap (option_map limb_of) at_top) in
    record {
      each = λ key. (λ l. in_get run key ((leads key).0 l), λ g. (leads key).1 (get_in run g.0 key g.1));
      once = get_once run (once_left run c.back (once_rest c.front top (run ++ c.back) c.forest.order.once));
    }

-- what a contract sees of the list
pub view_list : (slots : Slots) (top : ℕ) (keys : List ℕ) → IsListOf (λ (key : ℕ). Leads (parent_at (limbs slots)) key top) keys → IsListOf (λ (key : ℕ). Descends (entries_of slots) key top) keys
view_list slots top keys l = record {
  each = λ key. (λ d. (l.each key).0 (leads_of slots d), λ g. descends_of slots ((l.each key).1 g));
  once = l.once;
}

-- the list of what nothing meets
pub list_of_none : {X : Type 0} (Meets : X → Type 0) → ((x : X) → ¬ (Meets x)) → IsListOf Meets []
list_of_none {X} Meets none = record {
  each = λ x. (λ m. absurd (none x m), λ g. no_some x g.1);
  once = λ j k x e f. no_some x e;
}
