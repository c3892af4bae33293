-- Journals: lists of items, each stored as the words of a record (this profile's own).
use Rattle.std.specs.Prelude.{ℕ, List}

-- what a contract sees of a journal: its items, and the number of items for which there is room
pub record ItemList (X : Type 0) : Type 0 where
  pub items : List X
  pub room : ℕ

abbrev pub item_list : {X : Type 0} → List X → ℕ → ItemList X
item_list items room = record { items = items; room = room }
