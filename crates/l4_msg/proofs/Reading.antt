-- Words read as one message at most, or fail for one reason.
use Rattle.std.proofs.Common.{◌≡◌, ℕ, ◌+◌, ◌-◌, ◌*◌, ◌<◌, refl, sym, ap, subst, ◌∙◌, inl, inr, arith, List, length, drop, length-drop, get_or, ◌/◌, ◌%◌, ◌≤◌}
use Rattle.std.proofs.lemmas.List.{same_lists, length-take-le}
use Rattle.std.specs.List.{slice_range}
use Rattle.std.proofs.lemmas.Bool.{cases_lt}
use Rattle.l4_fpage.specs.declared.fpages.Fpage.{Fpage}
use Rattle.l4_fpage.specs.declared.fpages.Fpage.TheVariants.{Nil}
use Rattle.l4_fpage.proofs.Same.{reads_same, malformed_reads_none}
use Rattle.l4_msg.specs.Words.{ItemReads, ItemFails, ItemsRead, FirstFails, WindowReads}
use Rattle.l4_msg.specs.Tags.{untyped_of, typed_of}
use Rattle.l4_msg.specs.Moves.{base_of}
use Rattle.l4_msg.specs.Messages.{CanBeWritten, tag_of, IsWhole, MessageReads, MessageFails, typed_words}
use Rattle.l4_msg.specs.declared.items.Item.{Item}
use Rattle.l4_msg.specs.declared.items.Item.TheVariants.{Map, Grant}
use Rattle.l4_msg.specs.declared.items.ItemFault.{ItemFault}
use Rattle.l4_msg.specs.declared.items.ItemFault.TheVariants.{Bad, Unsupported as LeftOut}
use Rattle.l4_msg.specs.declared.messages.Message.{Message}
use Rattle.l4_msg.specs.declared.messages.MsgFault.{MsgFault}
use Rattle.l4_msg.specs.declared.messages.MsgFault.TheVariants.{Short, TooManyWords, Flags, OddTyped, BadItem, Unsupported, BadWindow}

-- two words read as one item
pub item_is_unique : (a b : ℕ) (x y : Item) → ItemReads a b x → ItemReads a b y → x ≡ y
item_is_unique a b (Map n f) (Map m g) h k = let e : n ≡ m = h.1 ∙ sym k.1 in let s : f ≡ g = reads_same b f g h.2 k.2 in λ i. Map (e i) (s i)
item_is_unique a b (Map n f) (Grant m g) h k = absurd (omega (arith, h.0, k.0))
item_is_unique a b (Grant n f) (Map m g) h k = absurd (omega (arith, h.0, k.0))
item_is_unique a b (Grant n f) (Grant m g) h k = let e : n ≡ m = h.1 ∙ sym k.1 in let s : f ≡ g = reads_same b f g h.2 k.2 in λ i. Grant (e i) (s i)

-- and then they do not fail
pub item_excludes_failing : (a b : ℕ) (x : Item) (fault : ItemFault) → ItemReads a b x → ItemFails a b fault → ⊥
item_excludes_failing a b (Map n f) LeftOut h k = elim k [ inl e ↦ omega (arith, h.0, e) | inr e ↦ omega (arith, h.0, e) ]
item_excludes_failing a b (Map n f) Bad h k = elim k [ inl e ↦ omega (arith, h.0, e) | inr e ↦ malformed_reads_none b f e.1 h.2 ]
item_excludes_failing a b (Grant n f) LeftOut h k = elim k [ inl e ↦ omega (arith, h.0, e) | inr e ↦ omega (arith, h.0, e) ]
item_excludes_failing a b (Grant n f) Bad h k = elim k [ inl e ↦ omega (arith, h.0, e) | inr e ↦ malformed_reads_none b f e.1 h.2 ]

not_both : (a b : ℕ) → ItemFails a b LeftOut → ItemFails a b Bad → ⊥
not_both a b h k =
    elim h [
      | inl l ↦ elim k [ inl e ↦ omega (arith, l, e) | inr e ↦ elim e.0 [ inl f ↦ omega (arith, l, f) | inr f ↦ omega (arith, l, f) ] ]
      | inr l ↦ elim k [ inl e ↦ omega (arith, l, e) | inr e ↦ elim e.0 [ inl f ↦ omega (arith, l, f) | inr f ↦ omega (arith, l, f) ] ]
    ]

-- two words fail for one reason
pub item_failing_is_unique : (a b : ℕ) (x y : ItemFault) → ItemFails a b x → ItemFails a b y → x ≡ y
item_failing_is_unique a b LeftOut LeftOut h k = refl
item_failing_is_unique a b LeftOut Bad h k = absurd (not_both a b h k)
item_failing_is_unique a b Bad LeftOut h k = absurd (not_both a b k h)
item_failing_is_unique a b Bad Bad h k = refl

-- words read as one list of items
pub items_are_unique : (words : List ℕ) (xs ys : List Item) → ItemsRead words xs → ItemsRead words ys → xs ≡ ys
items_are_unique words xs ys h k =
    let len : length xs ≡ length ys = omega (arith, h.count, k.count) in
    same_lists xs ys len (λ i d lt. item_is_unique (get_or words (2 * i) 0) (get_or words (2 * i + 1) 0) (get_or xs i d) (get_or ys i d) (h.each i lt d) (k.each i (omega (arith, lt, len)) d))

pub items_exclude_failing : (words : List ℕ) (xs : List Item) (i : ℕ) (fault : ItemFault) → (d : Item) → ItemsRead words xs → FirstFails words i fault → ⊥
items_exclude_failing words xs i fault d h k =
    let lt : i < length xs = omega (arith, h.count, k.place) in
    item_excludes_failing (get_or words (2 * i) 0) (get_or words (2 * i + 1) 0) (get_or xs i d) fault (h.each i lt d) k.fails

-- the first of two first failing items is no later
not_before : (words : List ℕ) (i j : ℕ) (x y : ItemFault) → FirstFails words i x → FirstFails words j y → i < j → ⊥
not_before words i j x y h k lt = let w = k.before i lt in item_excludes_failing (get_or words (2 * i) 0) (get_or words (2 * i + 1) 0) w.0 x w.1 h.fails

first_place_is_unique : (words : List ℕ) (i j : ℕ) (x y : ItemFault) → FirstFails words i x → FirstFails words j y → i ≡ j
first_place_is_unique words i j x y h k =
    elim (cases_lt i j) [
      | inl lt ↦ absurd (not_before words i j x y h k lt)
      | inr ge ↦ elim (cases_lt j i) [ inl lt ↦ absurd (not_before words j i y x k h lt) | inr le ↦ omega arith ]
    ]

first_fault_is_unique : (words : List ℕ) (i j : ℕ) (x y : ItemFault) → FirstFails words i x → FirstFails words j y → x ≡ y
first_fault_is_unique words i j x y h k =
    let e : j ≡ i = sym (first_place_is_unique words i j x y h k) in
    let g : ItemFails (get_or words (2 * i) 0) (get_or words (2 * i + 1) 0) y = subst (λ (n : ℕ). ItemFails (get_or words (2 * n) 0) (get_or words (2 * n + 1) 0) y) e k.fails in
    item_failing_is_unique (get_or words (2 * i) 0) (get_or words (2 * i + 1) 0) x y h.fails g

-- words read as one message
pub reading_is_unique : (words : List ℕ) (a b : Message) → MessageReads words a → MessageReads words b → a ≡ b
reading_is_unique words a b h k =
    let l : a.label ≡ b.label = h.label ∙ sym k.label in
    let u : a.untyped.items ≡ b.untyped.items = h.untyped ∙ sym k.untyped in
    let t : a.items.items ≡ b.items.items = items_are_unique (typed_words words) a.items.items b.items.items h.items k.items in
    λ i. record { label = l i; untyped = record { items = u i }; items = record { items = t i } }

-- some item, for a place beyond the list
no_item : Item
no_item = Map 0 Nil

-- words that are a message do not fail
pub reading_excludes_failing : (words : List ℕ) (m : Message) (fault : MsgFault) → MessageReads words m → MessageFails words fault → ⊥
reading_excludes_failing words m Short h k = elim k [ inl e ↦ omega (arith, e, h.tag.whole.some) | inr e ↦ omega (arith, e.1, h.tag.whole.there) ]
reading_excludes_failing words m TooManyWords h k = omega (arith, k.1, h.tag.whole.fits)
reading_excludes_failing words m Flags h k = omega (arith, k.1, h.tag.flags)
reading_excludes_failing words m OddTyped h k = omega (arith, k.2, h.tag.even)
reading_excludes_failing words m (Unsupported i) h k = items_exclude_failing (typed_words words) m.items.items i LeftOut no_item h.items k.1
reading_excludes_failing words m (BadItem i) h k = items_exclude_failing (typed_words words) m.items.items i Bad no_item h.items k.1
reading_excludes_failing words m BadWindow h k = k

not_short : (words : List ℕ) → IsWhole words → MessageFails words Short → ⊥
not_short words w h = elim h [ inl e ↦ omega (arith, e, w.some) | inr e ↦ omega (arith, e.1, w.there) ]

short_or_many : (words : List ℕ) → MessageFails words Short → MessageFails words TooManyWords → ⊥
short_or_many words h k = elim h [ inl e ↦ omega (arith, e, k.0) | inr e ↦ omega (arith, e.0, k.1) ]

left_out_or_bad : (words : List ℕ) (i j : ℕ) → FirstFails words i LeftOut → FirstFails words j Bad → ⊥
left_out_or_bad words i j h k = let e : LeftOut ≡ Bad = first_fault_is_unique words i j LeftOut Bad h k in cc

-- words fail for one reason
pub failing_is_unique : (words : List ℕ) (a b : MsgFault) → MessageFails words a → MessageFails words b → a ≡ b
failing_is_unique words Short Short h k = refl
failing_is_unique words Short TooManyWords h k = absurd (short_or_many words h k)
failing_is_unique words Short Flags h k = absurd (not_short words k.0 h)
failing_is_unique words Short OddTyped h k = absurd (not_short words k.0 h)
failing_is_unique words Short (Unsupported j) h k = absurd (not_short words k.0.whole h)
failing_is_unique words Short (BadItem j) h k = absurd (not_short words k.0.whole h)
failing_is_unique words Short BadWindow h k = absurd k
failing_is_unique words TooManyWords Short h k = absurd (short_or_many words k h)
failing_is_unique words TooManyWords TooManyWords h k = refl
failing_is_unique words TooManyWords Flags h k = absurd (omega (arith, h.1, k.0.fits))
failing_is_unique words TooManyWords OddTyped h k = absurd (omega (arith, h.1, k.0.fits))
failing_is_unique words TooManyWords (Unsupported j) h k = absurd (omega (arith, h.1, k.0.whole.fits))
failing_is_unique words TooManyWords (BadItem j) h k = absurd (omega (arith, h.1, k.0.whole.fits))
failing_is_unique words TooManyWords BadWindow h k = absurd k
failing_is_unique words Flags Short h k = absurd (not_short words h.0 k)
failing_is_unique words Flags TooManyWords h k = absurd (omega (arith, k.1, h.0.fits))
failing_is_unique words Flags Flags h k = refl
failing_is_unique words Flags OddTyped h k = absurd (omega (arith, h.1, k.1))
failing_is_unique words Flags (Unsupported j) h k = absurd (omega (arith, h.1, k.0.flags))
failing_is_unique words Flags (BadItem j) h k = absurd (omega (arith, h.1, k.0.flags))
failing_is_unique words Flags BadWindow h k = absurd k
failing_is_unique words OddTyped Short h k = absurd (not_short words h.0 k)
failing_is_unique words OddTyped TooManyWords h k = absurd (omega (arith, k.1, h.0.fits))
failing_is_unique words OddTyped Flags h k = absurd (omega (arith, k.1, h.1))
failing_is_unique words OddTyped OddTyped h k = refl
failing_is_unique words OddTyped (Unsupported j) h k = absurd (omega (arith, h.2, k.0.even))
failing_is_unique words OddTyped (BadItem j) h k = absurd (omega (arith, h.2, k.0.even))
failing_is_unique words OddTyped BadWindow h k = absurd k
failing_is_unique words (Unsupported i) Short h k = absurd (not_short words h.0.whole k)
failing_is_unique words (Unsupported i) TooManyWords h k = absurd (omega (arith, k.1, h.0.whole.fits))
failing_is_unique words (Unsupported i) Flags h k = absurd (omega (arith, k.1, h.0.flags))
failing_is_unique words (Unsupported i) OddTyped h k = absurd (omega (arith, k.2, h.0.even))
failing_is_unique words (Unsupported i) (Unsupported j) h k = ap Unsupported (first_place_is_unique (typed_words words) i j LeftOut LeftOut h.1 k.1)
failing_is_unique words (Unsupported i) (BadItem j) h k = absurd (left_out_or_bad (typed_words words) i j h.1 k.1)
failing_is_unique words (Unsupported i) BadWindow h k = absurd k
failing_is_unique words (BadItem i) Short h k = absurd (not_short words h.0.whole k)
failing_is_unique words (BadItem i) TooManyWords h k = absurd (omega (arith, k.1, h.0.whole.fits))
failing_is_unique words (BadItem i) Flags h k = absurd (omega (arith, k.1, h.0.flags))
failing_is_unique words (BadItem i) OddTyped h k = absurd (omega (arith, k.2, h.0.even))
failing_is_unique words (BadItem i) (Unsupported j) h k = absurd (left_out_or_bad (typed_words words) j i k.1 h.1)
failing_is_unique words (BadItem i) (BadItem j) h k = ap BadItem (first_place_is_unique (typed_words words) i j Bad Bad h.1 k.1)
failing_is_unique words (BadItem i) BadWindow h k = absurd k
failing_is_unique words BadWindow Short h k = absurd h
failing_is_unique words BadWindow TooManyWords h k = absurd h
failing_is_unique words BadWindow Flags h k = absurd h
failing_is_unique words BadWindow OddTyped h k = absurd h
failing_is_unique words BadWindow (Unsupported j) h k = absurd h
failing_is_unique words BadWindow (BadItem j) h k = absurd h
failing_is_unique words BadWindow BadWindow h k = absurd h

-- an acceptor word names one window
pub window_is_unique : (word : ℕ) (a b : Fpage) → WindowReads word a → WindowReads word b → a ≡ b
window_is_unique word a b h k = reads_same (word / 16 * 16) a b h k

-- a send base that was read is a multiple of 1,024
base_whole : (a b : ℕ) (item : Item) → ItemReads a b item → base_of item % 1024 ≡ 0
base_whole a b (Map base fpage) h = omega (arith, h.1)
base_whole a b (Grant base fpage) h = omega (arith, h.1)

slice_length : (xs : List ℕ) (i j : ℕ) → i ≤ j → j ≤ length xs → length (slice_range xs i j) ≡ j - i
slice_length xs i j le h = length-take-le (j - i) (drop i xs) (omega (arith, length-drop i xs))

-- a message that was read can be written
pub reading_can_be_written : (words : List ℕ) (m : Message) → MessageReads words m → CanBeWritten m
reading_can_be_written words m h =
    let tag : ℕ = tag_of words in
    let us : length m.untyped.items ≡ untyped_of tag = ap length h.untyped ∙ slice_length words 1 (1 + untyped_of tag) (omega arith) (omega (arith, h.tag.whole.there)) ∙ omega arith in
    let ts : length (typed_words words) ≡ typed_of tag = slice_length words (1 + untyped_of tag) (1 + untyped_of tag + typed_of tag) (omega arith) h.tag.whole.there ∙ omega arith in
    record {
      fits = omega (arith, us, ts, h.items.count, h.tag.whole.fits);
      whole = λ k d lt. base_whole (get_or (typed_words words) (2 * k) 0) (get_or (typed_words words) (2 * k + 1) 0) (get_or m.items.items k d) (h.items.each k lt d);
    }
