-- What contracts see of a plan (this profile's own).
use Rattle.std.specs.Prelude.{◌≡◌, ℕ, List, []}
use Rattle.l4_msg.specs.declared.items.Item.{Item}
use Rattle.l4_msg.specs.declared.messages.Message.{Message}

-- a list of items, and the first source page of each
pub record Listing : Type 0 where
  pub items : List Item
  pub pages : List ℕ

-- the message sends these items, and nothing else: its label is 0, and it has no untyped words
pub record Sends (items : List Item) (m : Message) : Type 0 where
  pub label : m.label ≡ 0
  pub untyped : m.untyped.items ≡ []
  pub items_are : m.items.items ≡ items
