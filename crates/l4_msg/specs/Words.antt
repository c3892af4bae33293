-- Items and receive windows in words (L4 X.2 manual, IPC: map item, grant item, acceptor; the kinds that are refused are
-- this profile's own).
use Rattle.std.specs.Prelude.{◌≡◌, ℕ, ◌+◌, ◌*◌, ◌/◌, ◌%◌, ◌<◌, ◌≤◌, ◌⊎◌, Bool, true, false, if◌then◌else◌, List, [], ◌∷◌, length, slice_index}
use Rattle.std.specs.List.{HoldsAt}
use Rattle.l4_fpage.specs.Fpages.{base_field, ReadsAs, IsMalformed, fpage_word}
use Rattle.l4_fpage.specs.declared.fpages.Fpage.{Fpage}
use Rattle.l4_msg.specs.Moves.{base_of, fpage_of}
use Rattle.l4_msg.specs.declared.items.Item.{Item}
use Rattle.l4_msg.specs.declared.items.Item.TheVariants.{Map, Grant}
use Rattle.l4_msg.specs.declared.items.ItemFault.{ItemFault}
use Rattle.l4_msg.specs.declared.items.ItemFault.TheVariants.{Bad, Unsupported}

-- bits 3 to 1 of an item's first word: 4 is a map item, 5 a grant item, 6 a CtrlXfer item, below 4 a string
abbrev pub kind_of : ℕ → ℕ
kind_of first = first / 2 % 8

-- what two words are read as: the send base stands in bits 31 to 10 of the first, and the second is the fpage
abbrev pub ItemReads : ℕ → ℕ → Item → Type 0
ItemReads first second (Map base fpage) = (kind_of first ≡ 4) × (base ≡ base_field first) × ReadsAs second fpage
ItemReads first second (Grant base fpage) = (kind_of first ≡ 5) × (base ≡ base_field first) × ReadsAs second fpage

-- why two words are no item
abbrev pub ItemFails : ℕ → ℕ → ItemFault → Type 0
ItemFails first second Unsupported = (kind_of first ≤ 3) ⊎ (kind_of first ≡ 6)
ItemFails first second Bad = (kind_of first ≡ 7) ⊎ (((kind_of first ≡ 4) ⊎ (kind_of first ≡ 5)) × IsMalformed second)

-- the words are these items, two words each
pub record ItemsRead (words : List ℕ) (items : List Item) : Type 0 where
  pub count : length words ≡ 2 * length items
  pub each : (k : ℕ) → k < length items → HoldsAt (ItemReads (slice_index words (2 * k)) (slice_index words (2 * k + 1))) items k

-- the item at i is the first that fails
pub record FirstFails (words : List ℕ) (i : ℕ) (fault : ItemFault) : Type 0 where
  pub place : 2 * i < length words
  pub fails : ItemFails (slice_index words (2 * i)) (slice_index words (2 * i + 1)) fault
  pub before : (k : ℕ) → k < i → (item : Item) × ItemReads (slice_index words (2 * k)) (slice_index words (2 * k + 1)) item

-- bits 9 to 4 of an item's first word, which mean nothing
abbrev pub unused_of : ℕ → ℕ
unused_of first = first / 16 % 64

-- the kind's bits of an item's first word
abbrev pub kind_bits : Item → ℕ
kind_bits (Map base fpage) = 8
kind_bits (Grant base fpage) = 10

-- the two words that an item is written as; the lowest bit of the first says that another item follows
abbrev pub item_words : Item → Bool → ℕ × ℕ
item_words item more = (base_of item + kind_bits item + (if more then 1 else 0), fpage_word (fpage_of item))

-- whether an item follows
abbrev pub follows : List Item → Bool
follows [] = false
follows (item ∷ items) = true

-- the words that items are written as
abbrev pub items_words : List Item → List ℕ
items_words [] = []
items_words (item ∷ items) = (item_words item (follows items)).0 ∷ (item_words item (follows items)).1 ∷ items_words items

-- the receive window of an acceptor word: its bits 31 to 4 are read as an fpage, and the low four mean nothing (own)
abbrev pub WindowReads : ℕ → Fpage → Type 0
WindowReads word window = ReadsAs (word / 16 * 16) window

-- an acceptor word that names no window
abbrev pub IsBadWindow : ℕ → Type 0
IsBadWindow word = IsMalformed (word / 16 * 16)
