-- The words of a message's tokens, one token after another (this profile's own). The first token is the tag, in words or by its label.
use Rattle.std.specs.Prelude.{◌≡◌, ℕ, ◌+◌, ◌*◌, nat_le, false, List, [], ◌∷◌, ◌++◌, length, map, MatchResult, Option, Some, None, Result, Ok, Err, if◌then◌else◌}
use Rattle.l4_fpage.specs.declared.sizes.PageSize.{PageSize}
use Rattle.l4_msg.specs.Sizes.{max_untyped}
use Rattle.l4_msg.specs.Words.{item_words}
use Rattle.l4_msg.specs.declared.messages.Message.{Message}
use Rattle.l4_text.specs.Numbers.{number_of}
use Rattle.l4_symbols.specs.Computed.{item_words_in}
use Rattle.l4_symbols.specs.Spelling.{◌>>=◌, label_in}
use Rattle.l4_symbols.specs.declared.reasons.Reason.{Reason}
use Rattle.l4_symbols.specs.declared.reasons.Reason.TheVariants.{Behind, Full}
use Rattle.l4_symbols.specs.declared.rows.MessageTokens.{MessageTokens}

-- the tag of a message: a word, or a label, whose tag counts what follows it
pub data RowTag : Type 0 where
  Given : ℕ → RowTag
  Labelled : ℕ → RowTag

-- the tokens so far: the tag, the untyped words, and the words of each item
pub record Row : Type 0 where
  pub tag : RowTag
  pub untyped : List ℕ
  pub items : List (ℕ × ℕ)

-- the number of words after the tag
abbrev pub row_len : Row → ℕ
row_len row = length row.untyped + 2 * length row.items

-- nothing follows the tag
abbrev pub only_tag : RowTag → Row
only_tag tag = record { tag = tag; untyped = []; items = [] }

-- the tag is a number, or else tag:LABEL
abbrev pub begun_by : List ℕ → Option ℕ → Result Row Reason
begun_by token (Some word) = Ok (only_tag (Given word))
begun_by token None = do
  label ← label_in token
  Ok (only_tag (Labelled label))

-- THE ROW OF A FIRST TOKEN
unfoldable pub row_begun : List ℕ → Result Row Reason
row_begun token = begun_by token (number_of token)

-- an untyped word stands before the items
abbrev pub word_added : ℕ → Row → Result Row Reason
word_added word row =
    if nat_le 1 (length row.items) then Err Behind
    else (if nat_le (row_len row + 1) max_untyped then Ok (record row { untyped = row.untyped ++ word ∷ [] }) else Err Full)

-- an item takes two words
abbrev pub item_added : ℕ × ℕ → Row → Result Row Reason
item_added words row = if nat_le (row_len row + 2) max_untyped then Ok (record row { items = row.items ++ words ∷ [] }) else Err Full

-- a number is an untyped word, and any other token is an item
abbrev pub added_by : PageSize → List ℕ → Row → Option ℕ → Result Row Reason
added_by size token row (Some word) = word_added word row
added_by size token row None = do
  words ← item_words_in size token
  item_added words row

-- THE ROW WITH ONE TOKEN MORE
unfoldable pub row_added : PageSize → List ℕ → Row → Result Row Reason
row_added size token row = added_by size token row (number_of token)

-- the same for all of these tokens
abbrev pub all_added : PageSize → List (List ℕ) → Row → Result Row Reason
all_added size [] row = Ok row
all_added size (token ∷ tokens) row = do
  next ← row_added size token row
  all_added size tokens next

-- the lowest bit of an item's first word, which says whether an item follows
abbrev pub follow_bit : List (ℕ × ℕ) → ℕ
follow_bit [] = 0
follow_bit (item ∷ items) = 1

-- the words of items, of which each but the last says that an item follows
abbrev pub joined_words : List (ℕ × ℕ) → List ℕ
joined_words [] = []
joined_words (item ∷ items) = (item.0 + follow_bit items) ∷ item.1 ∷ joined_words items

-- the tag's word: the label begins at bit 16, and the number of the items' words at bit 6
abbrev pub tag_word : RowTag → Row → ℕ
tag_word (Given word) row = word
tag_word (Labelled label) row = label * 65536 + length (joined_words row.items) * 64 + length row.untyped

-- THE WORDS OF A ROW: the tag, the untyped words, and two words per item
abbrev pub row_words : Row → List ℕ
row_words row = tag_word row.tag row ∷ (row.untyped ++ joined_words row.items)

-- THE WORDS OF A MESSAGE'S TOKENS, or the first reason why there are none. Without tokens there are no words.
unfoldable pub message_words_in : PageSize → List (List ℕ) → Result (List ℕ) Reason
message_words_in size [] = Ok []
message_words_in size (token ∷ tokens) = do
  begun ← row_begun token
  row ← all_added size tokens begun
  Ok (row_words row)

-- AS VALUES OF THE CODE

-- the row of a message behind this tag
abbrev pub row_of : RowTag → Message → Row
row_of tag m = record { tag = tag; untyped = m.untyped.items; items = map (λ item. item_words item false) m.items.items }

abbrev pub tag_in : Option ℕ → ℕ → RowTag
tag_in (Some word) label = Given word
tag_in None label = Labelled label

abbrev pub row_in : MessageTokens → Row
row_in tokens = row_of (tag_in tokens.tag tokens.message.message.label) tokens.message.message

-- what was asked for, given as a result of the code: the row after it, or the reason why there is none
abbrev pub Leaves : {A : Type 0} → Result A Reason → Result Row Reason → Row → Type 0
Leaves result asked new = MatchResult result (λ _. asked ≡ Ok new) (λ reason. asked ≡ Err reason)
