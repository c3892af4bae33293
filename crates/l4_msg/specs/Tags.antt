-- The fields of a message's first word (L4 X.2 manual, IPC: message tag).
use Rattle.std.specs.Prelude.{◌≡◌, ℕ, ◌+◌, ◌*◌, ◌/◌, ◌%◌}
use Rattle.l4_msg.specs.declared.tags.Tag.{Tag}

-- bits 5 to 0: how many untyped words follow the tag
abbrev pub untyped_of : ℕ → ℕ
untyped_of tag = tag % 64

-- bits 11 to 6: how many typed words follow those
abbrev pub typed_of : ℕ → ℕ
typed_of tag = tag / 64 % 64

-- bits 15 to 12
abbrev pub flags_of : ℕ → ℕ
flags_of tag = tag / 4096 % 16

-- bits 31 to 16
abbrev pub label_of : ℕ → ℕ
label_of tag = tag / 65536

-- what a word is read as
pub record TagReads (word : ℕ) (tag : Tag) : Type 0 where
  pub label : tag.label ≡ label_of word
  pub flags : tag.flags ≡ flags_of word
  pub typed : tag.typed ≡ typed_of word
  pub untyped : tag.untyped ≡ untyped_of word

-- the word of these fields
abbrev pub tag_word : Tag → ℕ
tag_word tag = tag.label * 65536 + tag.flags * 4096 + tag.typed * 64 + tag.untyped
