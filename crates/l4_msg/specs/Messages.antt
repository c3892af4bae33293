-- Messages in words: the tag, the untyped words, the items (L4 X.2 manual, IPC: message registers; the order of the
-- refusals is this profile's own).
use Rattle.std.specs.Prelude.{◌≡◌, ℕ, ◌+◌, ◌*◌, ◌%◌, ◌<◌, ◌≤◌, ◌⊎◌, List, ◌∷◌, ◌++◌, length, slice_index, slice_range}
use Rattle.std.specs.List.{All}
use Rattle.l4_msg.specs.Moves.{base_of}
use Rattle.l4_msg.specs.Sizes.{max_untyped, base_unit}
use Rattle.l4_msg.specs.Tags.{untyped_of, typed_of, flags_of, label_of}
use Rattle.l4_msg.specs.Words.{ItemsRead, FirstFails, items_words}
use Rattle.l4_msg.specs.declared.items.ItemFault.TheVariants.{Bad, Unsupported as LeftOut}
use Rattle.l4_msg.specs.declared.messages.Message.{Message}
use Rattle.l4_msg.specs.declared.messages.MsgFault.{MsgFault}
use Rattle.l4_msg.specs.declared.messages.MsgFault.TheVariants.{Short, TooManyWords, Flags, OddTyped, BadItem, Unsupported, BadWindow}

-- the first word
abbrev pub tag_of : List ℕ → ℕ
tag_of words = slice_index words 0

-- the words of the items
abbrev pub typed_words : List ℕ → List ℕ
typed_words words = slice_range words (1 + untyped_of (tag_of words)) (1 + untyped_of (tag_of words) + typed_of (tag_of words))

-- there is a tag, its words fit into a message, and they are there
pub record IsWhole (words : List ℕ) : Type 0 where
  pub some : 0 < length words
  pub fits : untyped_of (tag_of words) + typed_of (tag_of words) ≤ max_untyped
  pub there : 1 + untyped_of (tag_of words) + typed_of (tag_of words) ≤ length words

-- nothing is wrong with the tag, and its words are there
pub record HasGoodTag (words : List ℕ) : Type 0 where
  pub whole : IsWhole words
  pub flags : flags_of (tag_of words) ≡ 0
  pub even : typed_of (tag_of words) % 2 ≡ 0

-- what words are read as; those after the message mean nothing
pub record MessageReads (words : List ℕ) (m : Message) : Type 0 where
  pub tag : HasGoodTag words
  pub label : m.label ≡ label_of (tag_of words)
  pub untyped : m.untyped.items ≡ slice_range words 1 (1 + untyped_of (tag_of words))
  pub items : ItemsRead (typed_words words) m.items.items

-- why words are no message, each fault where no earlier one holds
abbrev pub MessageFails : List ℕ → MsgFault → Type 0
MessageFails words Short = (length words ≡ 0) ⊎ ((untyped_of (tag_of words) + typed_of (tag_of words) ≤ max_untyped) × (length words < 1 + untyped_of (tag_of words) + typed_of (tag_of words)))
MessageFails words TooManyWords = (0 < length words) × (max_untyped < untyped_of (tag_of words) + typed_of (tag_of words))
MessageFails words Flags = IsWhole words × (0 < flags_of (tag_of words))
MessageFails words OddTyped = IsWhole words × (flags_of (tag_of words) ≡ 0) × (typed_of (tag_of words) % 2 ≡ 1)
MessageFails words (Unsupported i) = HasGoodTag words × FirstFails (typed_words words) i LeftOut
MessageFails words (BadItem i) = HasGoodTag words × FirstFails (typed_words words) i Bad
MessageFails words BadWindow = ⊥

-- the words after the tag fit into the message registers, and each send base is a multiple of its unit
pub record CanBeWritten (m : Message) : Type 0 where
  pub fits : length m.untyped.items + 2 * length m.items.items ≤ max_untyped
  pub whole : All (λ item. base_of item % base_unit ≡ 0) m.items.items

-- The words that a message is written as. In the tag, the label begins at bit 16 and the number of typed words at bit 6; flags are zero.
abbrev pub message_words : Message → List ℕ
message_words m = (m.label * 65536 + length (items_words m.items.items) * 64 + length m.untyped.items) ∷ (m.untyped.items ++ items_words m.items.items)

-- the first word of the message's k-th item, among the message's words
abbrev pub item_word : Message → List ℕ → ℕ → ℕ
item_word m words k = slice_index words (1 + length m.untyped.items + 2 * k)
