-- What a list of nodes keeps between two messages, and what a delivered one leaves in it. (this profile's own)
use Rattle.std.specs.Prelude.{◌≡◌, ℕ, Some, None, List, slice_get}
use Rattle.l4_links.specs.declared.Standing.{Standing}
use Rattle.l4_links.specs.Entries.{Entries, Linked, standing_at, ArePlain}
use Rattle.l4_msg.specs.declared.items.ItemMove.{ItemMove}
use Rattle.l4_mapdb.specs.Transfer.{IsUsed, IsEntangled, Delivers}
use Rattle.l4_mapdb.specs.View.{mappings_of}

-- there is no blank and no mark
abbrev pub IsClean : Linked → Type 0
IsClean s = ArePlain s.entries

-- what stands without a parent has the key that is kept for its frame
abbrev pub RootsKnown : Entries → List ℕ → Type 0
RootsKnown s roots = (key : ℕ) (t : Standing) → standing_at s key ≡ Some t → t.parent ≡ None → slice_get roots t.frame ≡ Some key

-- the message is delivered, and nothing is left of what was done for it
pub record IsDelivered (from to : ℕ) (items : List ItemMove) (old new : Linked) : Type 0 where
  pub delivers : Delivers from to items (mappings_of old) (mappings_of new)
  pub free : ¬ (IsEntangled (IsUsed (mappings_of old) from to items) (mappings_of old))
  pub clean : IsClean new
  pub roots : (roots : List ℕ) → RootsKnown old.entries roots → RootsKnown new.entries roots
