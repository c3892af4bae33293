-- The sizes of messages (L4 X.2 manual, IPC: message registers; the items at most are this profile's own).
use Rattle.std.specs.Prelude.{ℕ}

-- the message registers, the tag's among them
abbrev pub max_words : ℕ
max_words = 64

-- the words after the tag, untyped and typed ones together, at most
abbrev pub max_untyped : ℕ
max_untyped = 63

-- the items of a message, at most: two words each, in the registers after the tag
abbrev pub max_items : ℕ
max_items = 31

-- the words of those items
abbrev pub max_typed : ℕ
max_typed = 62

-- a send base is a multiple of this many bytes
abbrev pub base_unit : ℕ
base_unit = 1024
