-- How a slot is kept in thirty-six bytes, without what walks note of its key.
use Rattle.std.specs.Prelude.{◌≡◌, ℕ, ◌+◌, ◌*◌, ◌/◌, ◌%◌, ◌==◌, ◌^◌, eqb, Option, Some, None, if◌then◌else◌}
use Rattle.std.specs.Option.{option_map}
use Rattle.l4_fpage.specs.Rights.{RightsSet, set_of_bits}
use Rattle.l4_nodes.specs.declared.nodes.Node.{Node}
use Rattle.l4_nodes.specs.declared.nodes.Slot.{Slot}
use Rattle.l4_nodes.specs.declared.packed.Notes.{Notes}
use Rattle.l4_nodes.specs.declared.packed.Parts.{Parts}
use Rattle.l4_nodes.specs.declared.packed.Halves.TheInside as halves
use Rattle.l4_nodes.specs.declared.packed.Word.TheInside as words
use Rattle.l4_nodes.specs.declared.packed.Packed.{Packed}
use Rattle.l4_nodes.specs.declared.slots.Note.{Note}

-- the number of two halves
abbrev pub number_shown : halves.Inside → ℕ
number_shown a = a.high * 2 ^ 32 + a.low

-- the numbers of four bytes: the page in the low 22 bits, the rights in three, the notes in three, the rights of an item in the last four
abbrev pub parts_shown : words.Inside → Parts
parts_shown a = record { page = a.bits % 2 ^ 22; rights = a.bits / 2 ^ 22 % 8; notes = a.bits / 2 ^ 25 % 8; granted = a.bits / 2 ^ 28 }

-- the rights of an item, of which there are none where the digit is above those of all rights
abbrev pub rights_shown : ℕ → Option RightsSet
rights_shown digit = if eqb digit 8 then None else Some (set_of_bits digit)

-- the notes of a digit, one a bit
abbrev pub notes_shown : ℕ → Notes
notes_shown digit = record { wanted = digit % 2 == 1; source = digit / 2 % 2 == 1; closed = digit / 4 % 2 == 1 }

-- nothing is noted
abbrev pub no_note : Note
no_note = record { stamp = 0; end = None }

-- the node of this depth, with what is noted of its key
abbrev pub node_shown : Packed → Note → ℕ → Node
node_shown p note depth = record {
  frame = p.frame;
  rights = set_of_bits p.word.rights;
  source = (notes_shown p.word.notes).source;
  granted = rights_shown p.word.granted;
  depth = depth;
  seen = note.stamp;
  mark = if (notes_shown p.word.notes).closed then note.stamp else 0;
  end = note.end;
  parent = p.parent;
  prev = p.prev;
  next = p.next;
  doomed = p.doomed;
}

abbrev pub slot_shown : Packed → Note → Slot
slot_shown p note = record {
  place = record { space = p.space; page = p.word.page };
  wanted = (notes_shown p.word.notes).wanted;
  node = option_map (node_shown p note) p.depth;
}

-- whatever is noted of its key, the slot is now what this makes of what it was
abbrev pub Turns : (Slot → Slot) → Packed → Packed → Type 0
Turns change old new = (note : Note) → slot_shown new note ≡ change (slot_shown old note)

-- the slot, with this change of its node
abbrev pub with_node : (Node → Node) → Slot → Slot
with_node change s = record s { node = option_map change s.node }
