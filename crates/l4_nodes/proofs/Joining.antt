-- What is read of the slots and of what is noted beside them.
use Rattle.std.proofs.Common.{◌≡◌, ◌≢◌, ℕ, zero, suc, ◌+◌, Bool, true, false, if◌then◌else◌, List, [], ◌∷◌, drop, length, slice_index_or, slice_set, Option, Some, None, is_some, cond, count_by, arith, refl, ap, ◌∙◌}
use Rattle.std.proofs.lemmas.List.{get_or-set_same, get_or-set_other, get_or_past}
use Rattle.std.proofs.lemmas.List.Sums.{sum_by-cons}
use Rattle.std.specs.Option.{option_map, option_and_then}
use Rattle.l4_nodes.specs.declared.nodes.Node.{Node}
use Rattle.l4_nodes.specs.declared.nodes.Slot.{Slot}
use Rattle.l4_nodes.specs.declared.packed.Packed.{Packed}
use Rattle.l4_nodes.specs.declared.slots.Note.{Note}
use Rattle.l4_nodes.specs.Slots.{Slots, Spot, slot_at, spot_of, unnoted}
use Rattle.l4_nodes.specs.Inside.Packed.{no_note, notes_shown, node_shown, slot_shown, with_node}
use Rattle.l4_nodes.specs.Inside.Joined.{note_of, joined}

-- what is noted behind the first
after : (notes : List Note) (key : ℕ) → note_of (drop 1 notes) key ≡ note_of notes (suc key)
after [] key = refl
after (note ∷ notes) key = refl

pub joined_long : (slots : List (Option Packed)) (notes : List Note) → length (joined slots notes) ≡ length slots
joined_long [] notes = refl
joined_long (slot ∷ slots) notes = ap suc (joined_long slots (drop 1 notes))

one_more : {T : Type 0} (x : Option T) (xs : List (Option T)) → count_by is_some (x ∷ xs) ≡ cond (is_some x) 1 0 + count_by is_some xs
one_more {T} x xs = sum_by-cons (λ (o : Option T). cond (is_some o) 1 0) x xs

-- as many slots are in use
pub joined_used : (slots : List (Option Packed)) (notes : List Note) → count_by is_some (joined slots notes) ≡ count_by is_some slots
joined_used [] notes = refl
joined_used (None ∷ slots) notes = omega (arith, joined_used slots (drop 1 notes), one_more None (joined slots (drop 1 notes)), one_more None slots)
joined_used (Some p ∷ slots) notes = omega (arith, joined_used slots (drop 1 notes), one_more (Some (slot_shown p (note_of notes 0))) (joined slots (drop 1 notes)), one_more (Some p) slots)

-- a slot that is written is in use as before
pub set_used : (slots : List (Option Packed)) (key : ℕ) (p : Packed) → slice_index_or slots key None ≢ None → count_by is_some (slice_set slots key (Some p)) ≡ count_by is_some slots
set_used [] key p some = absurd (some refl)
set_used (None ∷ slots) zero p some = absurd (some refl)
set_used (Some x ∷ slots) zero p some = omega (arith, one_more (Some p) slots, one_more (Some x) slots)
set_used (x ∷ slots) (suc key) p some = omega (arith, set_used slots key p some, one_more x (slice_set slots key (Some p)), one_more x slots)

-- a slot is read with what is noted of its key
pub joined_at : (slots : List (Option Packed)) (notes : List Note) (key : ℕ) → slot_at (joined slots notes) key ≡ option_map (λ (p : Packed). slot_shown p (note_of notes key)) (slice_index_or slots key None)
joined_at [] notes key = refl
joined_at (slot ∷ slots) notes zero = refl
joined_at (slot ∷ slots) notes (suc key) = joined_at slots (drop 1 notes) key ∙ ap (λ (n : Note). option_map (λ (p : Packed). slot_shown p n) (slice_index_or slots key None)) (after notes key)

-- what the proofs of all reads and writes of slots cite
pub ruleset joins = (joined_at, joined_long, joined_used, set_used, get_or-set_same, get_or-set_other, get_or_past)

pub node_in : (change : Node → Node) (o : Option Slot) → option_and_then (λ (s : Slot). s.node) (option_map (with_node change) o) ≡ option_map change (option_and_then (λ (s : Slot). s.node) o)
node_in change None = refl
node_in change (Some s) = refl

-- a change that leaves a slot's page leaves what is said of it
pub spot_in : (change : Slot → Slot) → ((s : Slot) → spot_of (change s) ≡ spot_of s) → (o : Option Slot) → option_map spot_of (option_map change o) ≡ option_map spot_of o
spot_in change same None = refl
spot_in change same (Some s) = ap (λ (x : Spot). Some x) (same s)

-- no stamp is left where nothing is noted
no_mark : (closed : Bool) → ◌≡◌ {A = ℕ} (if closed then 0 else 0) 0
no_mark true = refl
no_mark false = refl

noted_off : (p : Packed) (note : Note) → slot_shown p no_note ≡ with_node unnoted (slot_shown p note)
noted_off p note = ap (λ (n : Option Node). record (slot_shown p note) { node = n }) (each p.depth)
  where
    each : (o : Option ℕ) → option_map (node_shown p no_note) o ≡ option_map unnoted (option_map (node_shown p note) o)
    each None = refl
    each (Some depth) = ap (λ (m : ℕ). Some (record (node_shown p no_note depth) { mark = m })) (no_mark (notes_shown p.word.notes).closed)

pub unnoted_all : (slots : List (Option Packed)) (notes : List Note) (old : Slots) (key : ℕ) → joined slots notes ≡ old → slot_at (joined slots []) key ≡ option_map (with_node unnoted) (slot_at old key)
unnoted_all slots notes old key is = grind (arith, joined_at, each)
  where
    each : (o : Option Packed) → option_map (λ (p : Packed). slot_shown p no_note) o ≡ option_map (with_node unnoted) (option_map (λ (p : Packed). slot_shown p (note_of notes key)) o)
    each None = refl
    each (Some p) = ap (λ (s : Slot). Some s) (noted_off p (note_of notes key))
