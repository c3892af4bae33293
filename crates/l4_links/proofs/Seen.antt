-- What a contract sees of the slots, piece by piece.
use Rattle.std.proofs.Common.{◌≡◌, ℕ, Bool, true, false, if◌then◌else◌, Option, Some, None, refl, sym, ap, ◌∙◌, subst}
use Rattle.std.proofs.Math.ListN.{get_or-map}
use Rattle.std.specs.Option.{option_map, option_and_then}
use Rattle.l4_fpage.specs.Rights.{RightsSet}
use Rattle.l4_links.specs.declared.Standing.{Standing}
use Rattle.l4_links.specs.declared.Entry.{Entry}
use Rattle.l4_nodes.specs.declared.nodes.Node.{Node}
use Rattle.l4_nodes.specs.declared.nodes.Slot.{Slot}
use Rattle.l4_links.specs.Leads.{Leads}
use Rattle.l4_links.specs.Inside.Trees.{Limb, parent_at}
use Rattle.l4_nodes.specs.Slots.{Slots, Spot, slot_at, node_at, spots, spot_of}
use Rattle.l4_links.specs.Inside.Nodes.{left_spot, limbs, values, sources, Worth, capped_worth}
use Rattle.l4_links.specs.Entries.{entry_at, standing_at, IsBlank, parent_of, Descends, capped, cut_off}
use Rattle.l4_links.specs.Inside.Keeping.{standing_of, entry_of, entries_of}
use Rattle.l4_links.proofs.Writes.{none_from, map_from, map_over, limb_of, worth_of}

-- what stands, of its tree and its worth
abbrev pub stands_as : Option Limb → Option Worth → Option Standing
stands_as None w = None
stands_as (Some x) None = None
stands_as (Some x) (Some w) = Some (record { frame = w.frame; rights = w.rights; source = w.source; granted = w.granted; parent = x.parent })

abbrev pub joined : Option Spot → Option Limb → Option Worth → Option Entry
joined None x w = None
joined (Some p) x w = Some (record { place = p.place; wanted = p.wanted; stands = stands_as x w })

pub at_seen : (slots : Slots) (k : ℕ) → entry_at (entries_of slots) k ≡ option_map entry_of (slot_at slots k)
at_seen slots k = get_or-map (option_map entry_of) slots k None

pub shown_is : (slots : Slots) (k : ℕ) → entry_at (entries_of slots) k ≡ joined (spots slots k) (limbs slots k) (values slots k)
shown_is slots k = at_seen slots k ∙ over (slot_at slots k)
  where
    inside : (p : Spot) (o : Option Node) → ◌≡◌ {A = Option Entry} (Some (record { place = p.place; wanted = p.wanted; stands = option_map standing_of o })) (joined (Some p) (option_map limb_of o) (option_map worth_of o))
    inside p None = refl
    inside p (Some n) = refl

    over : (o : Option Slot) → option_map entry_of o ≡ joined (option_map spot_of o) (option_map limb_of (option_and_then (λ (s : Slot). s.node) o)) (option_map worth_of (option_and_then (λ (s : Slot). s.node) o))
    over None = refl
    over (Some s) = inside (spot_of s) s.node

pub entry_same : (a b : Slots) (k : ℕ) → spots b k ≡ spots a k → limbs b k ≡ limbs a k → values b k ≡ values a k → entry_at (entries_of b) k ≡ entry_at (entries_of a) k
entry_same a b k p l v = shown_is b k ∙ (λ i. joined (p i) (l i) (v i)) ∙ sym (shown_is a k)

pub standing_is : (slots : Slots) (k : ℕ) → standing_at (entries_of slots) k ≡ option_map standing_of (node_at slots k)
standing_is slots k = ap (option_and_then (λ (e : Entry). e.stands)) (at_seen slots k) ∙ over (slot_at slots k)
  where
    over : (o : Option Slot) → option_and_then (λ (e : Entry). e.stands) (option_map entry_of o) ≡ option_map standing_of (option_and_then (λ (s : Slot). s.node) o)
    over None = refl
    over (Some s) = refl

pub parent_same : (slots : Slots) (k : ℕ) → parent_of (entries_of slots) k ≡ parent_at (limbs slots) k
parent_same slots k = ap (option_and_then (λ (t : Standing). t.parent)) (standing_is slots k) ∙ over (node_at slots k)
  where
    over : (o : Option Node) → option_and_then (λ (t : Standing). t.parent) (option_map standing_of o) ≡ option_and_then (λ (x : Limb). x.parent) (option_map limb_of o)
    over None = refl
    over (Some n) = refl

pub leads_of : (slots : Slots) {low high : ℕ} → Descends (entries_of slots) low high → Leads (parent_at (limbs slots)) low high
leads_of slots {low} {high} d = subst (λ (f : ℕ → Option ℕ). Leads f low high) (λ i k. parent_same slots k i) d

pub descends_of : (slots : Slots) {low high : ℕ} → Leads (parent_at (limbs slots)) low high → Descends (entries_of slots) low high
descends_of slots {low} {high} l = subst (λ (f : ℕ → Option ℕ). Leads f low high) (λ i k. sym (parent_same slots k) i) l

pub no_standing : (o : Option Node) → option_map standing_of o ≡ None → o ≡ None
no_standing o e = none_from standing_of o e

pub blank_node : (slots : Slots) (k : ℕ) → IsBlank (entries_of slots) k → node_at slots k ≡ None
blank_node slots k b = no_standing (node_at slots k) (sym (standing_is slots k) ∙ b.blank)

pub source_is : (slots : Slots) (k : ℕ) → option_map (λ (t : Standing). t.source) (standing_at (entries_of slots) k) ≡ sources slots k
source_is slots k = ap (option_map (λ (t : Standing). t.source)) (standing_is slots k) ∙ map_over standing_of (λ (t : Standing). t.source) worth_of (λ (w : Worth). w.source) (λ n. refl) (node_at slots k)

-- an entry where something stands now
pub stands_joined : (o : Option Spot) (x : Limb) (w : Worth) (y : Option Limb) (v : Option Worth)
    → joined o (Some x) (Some w) ≡ option_map (λ (e : Entry). record e { stands = Some (record { frame = w.frame; rights = w.rights; source = w.source; granted = w.granted; parent = x.parent }) }) (joined o y v)
stands_joined None x w y v = refl
stands_joined (Some p) x w y v = refl

-- an entry that was capped
pub capped_joined : (cap : RightsSet) (o : Option Spot) (x : Option Limb) (w : Option Worth) → joined o x (option_map (capped_worth cap) w) ≡ option_map (capped cap) (joined o x w)
capped_joined cap None x w = refl
capped_joined cap (Some p) None w = refl
capped_joined cap (Some p) (Some x) None = refl
capped_joined cap (Some p) (Some x) (Some w) = refl

pub source_joined : (source : Bool) (o : Option Spot) (x : Option Limb) (w : Option Worth)
    → joined o x (option_map (λ (v : Worth). record v { source = source }) w) ≡ option_map (λ (e : Entry). record e { stands = option_map (λ (t : Standing). record t { source = source }) e.stands }) (joined o x w)
source_joined source None x w = refl
source_joined source (Some p) None w = refl
source_joined source (Some p) (Some x) None = refl
source_joined source (Some p) (Some x) (Some w) = refl

-- an entry that is a source no more, nor granted
pub plain_joined : (o : Option Spot) (x : Option Limb) (w : Option Worth)
    → joined o x (option_map (λ (v : Worth). record v { source = false; granted = None }) w)
    ≡ option_map (λ (e : Entry). record e { stands = option_map (λ (t : Standing). record t { source = false; granted = None }) e.stands }) (joined o x w)
plain_joined None x w = refl
plain_joined (Some p) None w = refl
plain_joined (Some p) (Some x) None = refl
plain_joined (Some p) (Some x) (Some w) = refl

-- an entry that was cut off
pub cut_joined : (o : Option Spot) (x : Option Limb) (w : Option Worth) → joined (left_spot o) None None ≡ cut_off (joined o x w)
cut_joined None x w = refl
cut_joined (Some p) x w =
    elim (p.wanted) as (λ b. joined (if b then Some p else None) None None ≡ (if b then Some (record { place = p.place; wanted = p.wanted; stands = None }) else None)) [ true ↦ refl | false ↦ refl ]

-- what stands under a key is a node
pub standing_node : (slots : Slots) (k : ℕ) (t : Standing) → standing_at (entries_of slots) k ≡ Some t → (n : Node) × (node_at slots k ≡ Some n) × (standing_of n ≡ t)
standing_node slots k t is = map_from standing_of (node_at slots k) t (sym (standing_is slots k) ∙ is)
