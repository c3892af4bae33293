-- The texts of decoded words (this profile's own).
use Rattle.std.specs.Prelude.{◌≡◌, ℕ, ◌+◌, ◌-◌, ◌*◌, ◌/◌, ◌%◌, ◌==◌, List, [], ◌∷◌, ◌++◌, length, min, slice_index, if◌then◌else◌, codes, decimal}
use Rattle.l4_fpage.specs.declared.sizes.PageSize.{PageSize}
use Rattle.l4_msg.specs.Messages.{tag_of}
use Rattle.l4_msg.specs.Tags.{untyped_of, typed_of}
use Rattle.l4_decode.specs.Spelling.{hex_text, each_text}
use Rattle.l4_decode.specs.Controls.{control_line}
use Rattle.l4_decode.specs.Fpages.{fpage_line, window_line}
use Rattle.l4_decode.specs.Ids.{id_line}
use Rattle.l4_decode.specs.Items.{item_line}
use Rattle.l4_decode.specs.Tags.{tag_line}
use Rattle.l4_decode.specs.Meanings.{Means, whole_text}
use Rattle.l4_decode.specs.declared.meanings.Meaning.{Meaning}
use Rattle.l4_decode.specs.declared.decoding.Reading.{Reading}
use Rattle.l4_decode.specs.declared.decoding.Reading.TheVariants.{Each, Message, Fpage, Window, Id, Control}

-- The number of untyped words, of typed words, and of words after the message. If there are fewer words than the tag counts, the first of
-- them are the untyped ones.
abbrev pub untyped_there : List ℕ → ℕ
untyped_there words = min (untyped_of (tag_of words)) (length words - 1)

abbrev pub typed_there : List ℕ → ℕ
typed_there words = min (typed_of (tag_of words)) (length words - 1 - untyped_there words)

abbrev pub behind : List ℕ → ℕ
behind words = length words - 1 - untyped_there words - typed_there words

-- a word that is neither a tag nor part of an item, with its place among the words
unfoldable pub word_line : List ℕ → ℕ → ℕ → List ℕ
word_line kind place word = codes "word " ++ decimal place ++ codes " " ++ hex_text word ++ codes ": " ++ kind ++ codes ", " ++ decimal word ++ 10 ∷ []

-- this number of words from a place on, with the mark at the beginning of each line
unfoldable pub words_lines : List ℕ → List ℕ → List ℕ → ℕ → ℕ → List ℕ
words_lines mark kind words from count = each_text (λ k. mark ++ word_line kind (from + k) (slice_index words (from + k))) count

-- this number of items from a place on, two words for each, with the mark at the beginning of each line
unfoldable pub items_lines : List ℕ → PageSize → List ℕ → ℕ → ℕ → List ℕ
items_lines mark size words from count = each_text (λ k. mark ++ item_line size k (slice_index words (from + 2 * k)) (slice_index words (from + 2 * k + 1))) count

-- the place of the first typed word, of the first one that is not part of a whole item, and of the first one after the message
abbrev pub typed_place : List ℕ → ℕ
typed_place words = 1 + untyped_there words

abbrev pub half_place : List ℕ → ℕ
half_place words = typed_place words + typed_there words / 2 * 2

abbrev pub end_place : List ℕ → ℕ
end_place words = typed_place words + typed_there words

-- The lines of the words, with the mark at the beginning of each: the tag, the untyped words, the items, the last typed word if their
-- number is odd, and then the words after the message.
unfoldable pub each_line : List ℕ → PageSize → List ℕ → List ℕ
each_line mark size words =
    if length words == 0 then []
    else (mark ++ tag_line (tag_of words) ++ words_lines mark (codes "untyped") words 1 (untyped_there words) ++ items_lines mark size words (typed_place words) (typed_there words / 2)
    ++ words_lines mark (codes "half an item") words (half_place words) (typed_there words % 2) ++ words_lines mark (codes "ignored") words (end_place words) (behind words))

-- THE TEXT OF A MESSAGE: a line for each of its words or items, and a line for what they mean as a whole, with the mark at the beginning of
-- each
unfoldable pub decoded_text : List ℕ → PageSize → List ℕ → Meaning → List ℕ
decoded_text mark size words meaning = each_line mark size words ++ (mark ++ (whole_text size meaning ++ 10 ∷ []))

abbrev pub IsMessageText : List ℕ → PageSize → List ℕ → List ℕ → Type 0
IsMessageText mark size words text = (meaning : Meaning) × Means words meaning × (text ≡ decoded_text mark size words meaning)

-- the lines of one word
unfoldable pub word_text : PageSize → Reading → ℕ → List ℕ
word_text size Each word = tag_line word ++ fpage_line size word ++ window_line size word ++ id_line word
word_text size Message word = tag_line word
word_text size Fpage word = fpage_line size word
word_text size Window word = window_line size word
word_text size Id word = id_line word
word_text size Control word = control_line word

-- the lines of words that are read one by one
unfoldable pub words_text : PageSize → Reading → List ℕ → List ℕ
words_text size reading words = each_text (λ k. word_text size reading (slice_index words k)) (length words)

-- WHAT IS WRITTEN: words that are read as a message have one meaning together, and all others are read one by one
abbrev pub IsDecoded : PageSize → Reading → List ℕ → List ℕ → Type 0
IsDecoded size Message words text = IsMessageText [] size words text
IsDecoded size Each words text = text ≡ words_text size Each words
IsDecoded size Fpage words text = text ≡ words_text size Fpage words
IsDecoded size Window words text = text ≡ words_text size Window words
IsDecoded size Id words text = text ≡ words_text size Id words
IsDecoded size Control words text = text ≡ words_text size Control words
