-- What a write to one node leaves as it was.
use Rattle.std.proofs.Common.{◌≡◌, ◌≢◌, ℕ, ◌≤◌, Option, Some, None, refl, sym, ap, ◌∙◌, subst, inl, inr, ◌⊎◌}
use Rattle.std.proofs.lemmas.Bool.{cases_eq}
use Rattle.std.specs.Option.{option_map, option_and_then}
use Rattle.l4_nodes.specs.declared.nodes.Node.{Node}
use Rattle.l4_nodes.specs.declared.nodes.Slot.{Slot}
use Rattle.l4_spaces.specs.Keys.{IsKey}
use Rattle.l4_nodes.specs.Slots.{Slots, slot_at, node_at, spots, spot_of}
use Rattle.l4_links.specs.Inside.Nodes.{AreKeys, marks, Marks, Doom, IsStamped, Worth}
use Rattle.l4_links.specs.Inside.Orders.{Link}
use Rattle.l4_links.specs.Inside.Trees.{Limb}

-- the pieces of a node
abbrev pub limb_of : Node → Limb
limb_of n = record { parent = n.parent; depth = n.depth }

abbrev pub link_of : Node → Link
link_of n = record { prev = n.prev; next = n.next }

abbrev pub worth_of : Node → Worth
worth_of n = record { frame = n.frame; rights = n.rights; source = n.source; granted = n.granted }

abbrev pub marks_of : Node → Marks
marks_of n = record { mark = n.mark; seen = n.seen }

abbrev pub doom_of : Node → Doom
doom_of n = record { rights = n.rights; next = n.doomed }

-- no value is not some value, and some value is one
pub no_some : {X Y : Type 0} (x : X) → ◌≡◌ {A = Option X} None (Some x) → Y
no_some {X} x e = absurd (let w : ◌≡◌ {A = Option X} None (Some x) = e in cc)

pub same_some : {X : Type 0} {x y : X} → ◌≡◌ {A = Option X} (Some x) (Some y) → x ≡ y
same_some {X} {x} {y} e = let w : ◌≡◌ {A = Option X} (Some x) (Some y) = e in cc

-- what a value is a piece of
pub map_from : {T X : Type 0} (F : T → X) (o : Option T) (x : X) → option_map F o ≡ Some x → (t : T) × (o ≡ Some t) × (F t ≡ x)
map_from F None x e = no_some x e
map_from F (Some t) x e = (t, refl, same_some e)

pub none_from : {T X : Type 0} (F : T → X) (o : Option T) → option_map F o ≡ None → o ≡ None
none_from F None e = refl
none_from F (Some t) e = no_some (F t) (sym e)

pub map_both : {X : Type 0} (F : Node → X) (f : Node → Node) → ((n : Node) → F (f n) ≡ F n) → (o : Option Node) → option_map F (option_map f o) ≡ option_map F o
map_both F f same None = refl
map_both F f same (Some n) = ap (λ x. Some x) (same n)

pub map_over : {S T X Y : Type 0} (f : S → T) (F : T → Y) (G : S → X) (g : X → Y) → ((s : S) → F (f s) ≡ g (G s)) → (o : Option S) → option_map F (option_map f o) ≡ option_map g (option_map G o)
map_over f F G g same None = refl
map_over f F G g same (Some s) = ap (λ y. Some y) (same s)

pub map_twice : {S T X : Type 0} (f : S → T) (F : T → X) (o : Option S) → option_map F (option_map f o) ≡ option_map (λ (s : S). F (f s)) o
map_twice f F None = refl
map_twice f F (Some s) = refl

-- what the write keeps of a node is the same of all nodes
pub map_at : {X : Type 0} (F : Node → X) (f : Node → Node) → ((n : Node) → F (f n) ≡ F n) → (key : ℕ) (old new : Slots) → node_at new key ≡ option_map f (node_at old key)
    → ((o : ℕ) → o ≢ key → node_at new o ≡ node_at old o) → (k : ℕ) → option_map F (node_at new k) ≡ option_map F (node_at old k)
map_at F f same key old new here others k = elim (cases_eq k key) [
  | inl e ↦ ap (option_map F) (ap (node_at new) e ∙ here) ∙ map_both F f same (node_at old key) ∙ sym (ap (option_map F) (ap (node_at old) e))
  | inr ne ↦ ap (option_map F) (others k ne)
]

-- what a node was before a write to the node of this key
pub written_was : (f : Node → Node) (key : ℕ) (old new : Slots) → node_at new key ≡ option_map f (node_at old key) → ((o : ℕ) → o ≢ key → node_at new o ≡ node_at old o) → (k : ℕ) (n : Node) → node_at new k ≡ Some n
    → (node_at old k ≡ Some n) ⊎ ((m : Node) × (node_at old k ≡ Some m) × (n ≡ f m) × (k ≡ key))
written_was f key old new here others k n at = elim (cases_eq k key) [
  | inl e ↦
      let m = map_from f (node_at old key) n (sym here ∙ sym (ap (node_at new) e) ∙ at) in
      inr (m.0, ap (node_at old) e ∙ m.1, sym m.2, e)
  | inr ne ↦ inl (sym (others k ne) ∙ at)
]

pub stamped_same : (stamp : ℕ) (old new : Slots) → ((k : ℕ) → marks new k ≡ marks old k) → IsStamped stamp old → IsStamped stamp new
stamped_same stamp old new same s some k m is = s some k m (sym (same k) ∙ is)

pub stamped_at : (f : Node → Node) (stamp : ℕ) → ((n : Node) → n.mark ≤ stamp → n.seen ≤ stamp → ((f n).mark ≤ stamp) × ((f n).seen ≤ stamp)) → (key : ℕ) (old new : Slots) → node_at new key ≡ option_map f (node_at old key)
    → ((o : ℕ) → o ≢ key → node_at new o ≡ node_at old o) → IsStamped stamp old → IsStamped stamp new
stamped_at f stamp fits key old new here others s some k m is =
    let n = map_from marks_of (node_at new k) m is in
    elim (written_was f key old new here others k n.0 n.1) [
      | inl same ↦ s some k m (ap (option_map marks_of) same ∙ ap (λ (z : Marks). Some z) n.2)
      | inr w ↦
          let b = s some k (marks_of w.0) (ap (option_map marks_of) w.1) in
          subst (λ (z : Marks). (z.mark ≤ stamp) × (z.seen ≤ stamp)) (ap marks_of (sym w.2) ∙ n.2) (fits w.0 b.0 b.1)
    ]

-- a node has a slot
pub has_slot : (slots : Slots) (k : ℕ) (n : Node) → node_at slots k ≡ Some n → slot_at slots k ≢ None
has_slot slots k n at none = no_some n (sym (ap (option_and_then (λ (s : Slot). s.node)) none) ∙ at)

pub slot_there : (slots : Slots) (k : ℕ) → node_at slots k ≢ None → slot_at slots k ≢ None
slot_there slots k some none = some (ap (option_and_then (λ (s : Slot). s.node)) none)

-- a node can keep the key of a slot, and that of a node
pub slot_key : (slots : Slots) (k : ℕ) → AreKeys slots → slot_at slots k ≢ None → IsKey k
slot_key slots k few there = elim (slot_at slots k) as (λ o. slot_at slots k ≡ o → IsKey k) [
  | None ↦ λ e. absurd (there e)
  | Some s ↦ λ e. few k (spot_of s) (ap (option_map spot_of) e)
] refl

pub node_key : (slots : Slots) (k : ℕ) (n : Node) → AreKeys slots → node_at slots k ≡ Some n → IsKey k
node_key slots k n few at = slot_key slots k few (has_slot slots k n at)

pub keys_same : (old new : Slots) → ((k : ℕ) → spots new k ≡ spots old k) → AreKeys old → AreKeys new
keys_same old new same few k s at = few k s (sym (same k) ∙ at)
