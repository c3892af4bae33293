-- What a written message reads as.
use Rattle.std.proofs.Common.{◌≡◌, ℕ, zero, suc, ◌+◌, ◌-◌, ◌*◌, ◌%◌, ◌/◌, ◌<◌, ◌≤◌, refl, sym, ap, ◌∙◌, arith, Bool, true, false, List, [], ◌∷◌, ◌++◌, length, take, drop, get_or, length-append, nat_lt}
use Rattle.std.proofs.Math.Seq.{take-append_seam, drop-append_seam, take-length}
use Rattle.std.proofs.lemmas.List.{get_or-append-add}
use Rattle.std.specs.Prelude.{if◌then◌else◌}
use Rattle.l4_fpage.specs.declared.fpages.Fpage.TheVariants.{Nil}
use Rattle.std.proofs.lemmas.Bool.Decides.{nat_tests}
use Rattle.std.specs.List.{slice_range, All}
use Rattle.l4_fpage.proofs.Written.{word_reads}
use Rattle.l4_msg.specs.Tags.{untyped_of, typed_of}
use Rattle.l4_msg.specs.Words.{ItemReads, ItemsRead, item_words, items_words, follows}
use Rattle.l4_msg.specs.Moves.{base_of}
use Rattle.l4_msg.specs.Messages.{MessageReads, message_words, item_word}
use Rattle.l4_msg.specs.declared.items.Item.{Item}
use Rattle.l4_msg.specs.declared.items.Item.TheVariants.{Map, Grant}
use Rattle.l4_msg.specs.declared.messages.Message.{Message}

-- the words of an item read as it
pub item_reads : (item : Item) (more : Bool) → base_of item % 1024 ≡ 0 → ItemReads (item_words item more).0 (item_words item more).1 item
item_reads (Map base fpage) true h = (omega arith, omega arith, word_reads fpage)
item_reads (Map base fpage) false h = (omega arith, omega arith, word_reads fpage)
item_reads (Grant base fpage) true h = (omega arith, omega arith, word_reads fpage)
item_reads (Grant base fpage) false h = (omega arith, omega arith, word_reads fpage)

pub items_words_length : (items : List Item) → length (items_words items) ≡ 2 * length items
items_words_length [] = refl
items_words_length (x ∷ items) = omega (arith, items_words_length items)

follows_first : (items : List Item) → follows items ≡ nat_lt (0 + 1) (suc (length items))
follows_first [] = grind (arith, nat_tests)
follows_first (x ∷ items) = grind (arith, nat_tests)

-- some item, for a place beyond the list
no_item : Item
no_item = Map 0 Nil

-- the words of the k-th item
record WordsAt (items : List Item) (k : ℕ) (d : Item) : Type 0 where
  more : Bool
  last : more ≡ nat_lt (k + 1) (length items)
  first : get_or (items_words items) (2 * k) 0 ≡ (item_words (get_or items k d) more).0
  second : get_or (items_words items) (2 * k + 1) 0 ≡ (item_words (get_or items k d) more).1

words_at : (items : List Item) (k : ℕ) (d : Item) → k < length items → WordsAt items k d
words_at [] k d h = absurd (omega arith)
words_at (x ∷ items) zero d h = record { more = follows items; last = follows_first items; first = refl; second = refl }
words_at (x ∷ items) (suc k) d h =
    let w = words_at items k d (omega arith) in
    let e : 2 * suc k ≡ suc (suc (2 * k)) = omega arith in
    let f : 2 * suc k + 1 ≡ suc (suc (2 * k + 1)) = omega arith in
    record {
      more = w.more;
      last = w.last ∙ grind (arith, nat_tests);
      first = ap (λ (n : ℕ). get_or (items_words (x ∷ items)) n 0) e ∙ w.first;
      second = ap (λ (n : ℕ). get_or (items_words (x ∷ items)) n 0) f ∙ w.second;
    }

-- the words of items read as them
pub items_read : (items : List Item) → All (λ item. base_of item % 1024 ≡ 0) items → ItemsRead (items_words items) items
items_read items whole = record {
  count = items_words_length items;
  each = λ k h d.
      let w = words_at items k d h in
      rw (w.first, w.second) (item_reads (get_or items k d) w.more (whole k d h));
}

front : (tag n : ℕ) (us ts : List ℕ) → n ≡ length us → us ≡ slice_range (tag ∷ (us ++ ts)) 1 (1 + n)
front tag n us ts e =
    let k : 1 + n - 1 ≡ length us = omega arith in
    sym (ap (λ (i : ℕ). take i (us ++ ts)) k ∙ take-append_seam us ts)

back : (tag n m : ℕ) (us ts : List ℕ) → n ≡ length us → m ≡ length ts → slice_range (tag ∷ (us ++ ts)) (1 + n) (1 + n + m) ≡ ts
back tag n m us ts e f =
    let k : 1 + n + m - (1 + n) ≡ length ts = omega arith in
    let j : 1 + n ≡ suc (length us) = omega arith in
    ap (λ (i : ℕ). take i (drop (1 + n) (tag ∷ (us ++ ts)))) k ∙ ap (λ (i : ℕ). take (length ts) (drop i (tag ∷ (us ++ ts)))) j ∙ ap (take (length ts)) (drop-append_seam us ts) ∙ take-length ts

written : (tag : ℕ) (us ts : List ℕ) (m : Message) → tag ≡ m.label * 65536 + length ts * 64 + length us → m.untyped.items ≡ us → ItemsRead ts m.items.items → length us + length ts ≤ 63 → MessageReads (tag ∷ (us ++ ts)) m
written tag us ts m e plain items fits =
    let u : untyped_of tag ≡ length us = omega arith in
    let t : typed_of tag ≡ length ts = omega arith in
    let n : length (us ++ ts) ≡ length us + length ts = length-append us ts in
    record {
      tag = record {
        whole = record { some = omega arith; fits = omega (arith, u, t); there = omega (arith, u, t, n) };
        flags = omega arith;
        even = omega (arith, t, items.count);
      };
      label = omega arith;
      untyped = plain ∙ front tag (untyped_of tag) us ts u;
      items = rw (back tag (untyped_of tag) (typed_of tag) us ts u t) items;
    }

-- the words of a message read as it
pub message_reads : (m : Message) → length m.untyped.items + 2 * length m.items.items ≤ 63 → All (λ item. base_of item % 1024 ≡ 0) m.items.items → MessageReads (message_words m) m
message_reads m fits whole =
    written (m.label * 65536 + length (items_words m.items.items) * 64 + length m.untyped.items) m.untyped.items (items_words m.items.items) m refl refl (items_read m.items.items whole) (omega (arith, items_words_length m.items.items))

-- the lowest bit of an item's first word says whether an item follows
lowest_bit : (item : Item) (more : Bool) → base_of item % 1024 ≡ 0 → (item_words item more).0 % 2 ≡ (if more then 1 else 0)
lowest_bit (Map base fpage) true h = omega arith
lowest_bit (Map base fpage) false h = omega arith
lowest_bit (Grant base fpage) true h = omega arith
lowest_bit (Grant base fpage) false h = omega arith

middle_bits : (item : Item) (more : Bool) → base_of item % 1024 ≡ 0 → (item_words item more).0 / 16 % 64 ≡ 0
middle_bits (Map base fpage) true h = omega arith
middle_bits (Map base fpage) false h = omega arith
middle_bits (Grant base fpage) true h = omega arith
middle_bits (Grant base fpage) false h = omega arith

-- where it stands
item_word_is : (m : Message) (k : ℕ) → item_word m (message_words m) k ≡ get_or (items_words m.items.items) (2 * k) 0
item_word_is m k =
    let us = m.untyped.items in
    let e : 1 + length us + 2 * k ≡ suc (length us + 2 * k) = omega arith in
    ap (λ (n : ℕ). get_or (message_words m) n 0) e ∙ get_or-append-add us (items_words m.items.items) (2 * k) 0

pub item_follows : (m : Message) → All (λ item. base_of item % 1024 ≡ 0) m.items.items → (k : ℕ) → k < length m.items.items → item_word m (message_words m) k % 2 ≡ (if nat_lt (k + 1) (length m.items.items) then 1 else 0)
item_follows m whole k h =
    let w = words_at m.items.items k no_item h in
    let bit = lowest_bit (get_or m.items.items k no_item) w.more (whole k no_item h) in
    ap (λ (n : ℕ). n % 2) (item_word_is m k ∙ w.first) ∙ bit ∙ ap (λ (b : Bool). if b then 1 else 0) w.last

pub item_middle : (m : Message) → All (λ item. base_of item % 1024 ≡ 0) m.items.items → (k : ℕ) → k < length m.items.items → item_word m (message_words m) k / 16 % 64 ≡ 0
item_middle m whole k h =
    let w = words_at m.items.items k no_item h in
    ap (λ (n : ℕ). n / 16 % 64) (item_word_is m k ∙ w.first) ∙ middle_bits (get_or m.items.items k no_item) w.more (whole k no_item h)
