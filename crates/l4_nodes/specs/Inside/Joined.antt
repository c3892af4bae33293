-- The slots, joined with what walks have noted of their keys.
use Rattle.std.specs.Prelude.{◌≢◌, ℕ, ◌<◌, List, [], ◌∷◌, drop, Option, None, slice_index_or, vec_capacity}
use Rattle.std.specs.Option.{option_map}
use Rattle.slab.specs.Slab.{get}
use Rattle.l4_nodes.specs.declared.packed.Packed.{Packed}
use Rattle.l4_nodes.specs.declared.slots.Note.{Note}
use Rattle.l4_nodes.specs.declared.slots.Slots.TheInside.{Inside}
use Rattle.l4_nodes.specs.Slots.{Slots, Store}
use Rattle.l4_nodes.specs.Inside.Packed.{no_note, slot_shown}

-- what is noted of a key
abbrev pub note_of : List Note → ℕ → Note
note_of notes key = slice_index_or notes key no_note

-- each slot with what is noted of its key
abbrev pub joined : List (Option Packed) → List Note → Slots
joined [] notes = []
joined (slot ∷ slots) notes = option_map (λ (p : Packed). slot_shown p (note_of notes 0)) slot ∷ joined slots (drop 1 notes)

abbrev pub store_shown : Inside → Store
store_shown a = record {
  slots = joined a.packed.slots a.notes.items;
  vacant_key = a.packed.vacant_key;
  capacity = a.packed.capacity;
  noted = vec_capacity a.notes;
}

-- something can be noted of each key that has a slot with no allocation
abbrev pub HaveNotes : Inside → Type 0
HaveNotes a = (key : ℕ) → get a.packed key ≢ None → key < vec_capacity a.notes
