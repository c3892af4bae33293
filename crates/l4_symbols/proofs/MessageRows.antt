-- The words of a message's tokens, one token after another.
use Rattle.std.proofs.Common.{◌≡◌, ℕ, ◌+◌, ◌*◌, ◌<◌, ◌≤◌, ◌==◌, Bool, true, false, cond, List, [], ◌∷◌, ◌++◌, length, map, nat_le, Option, Some, None, Result, Ok, Err, refl, sym, ap, ◌∙◌, subst, arith}
use Rattle.std.proofs.lemmas.Bool.Decides.{nat_tests}
use Rattle.std.proofs.lemmas.List.{length-map, length-append}
use Rattle.l4_fpage.specs.declared.sizes.PageSize.{PageSize}
use Rattle.l4_msg.specs.Messages.{message_words}
use Rattle.l4_msg.specs.Words.{item_words, items_words, follows}
use Rattle.l4_msg.specs.declared.items.Item.{Item}
use Rattle.l4_msg.specs.declared.messages.Message.{Message}
use Rattle.l4_symbols.specs.Computed.{item_words_in}
use Rattle.l4_symbols.specs.Messages.{Begins, words_in as words_of}
use Rattle.l4_symbols.specs.Rows.{Row, RowTag, Given, Labelled, row_len, only_tag, begun_by, row_begun, word_added, item_added, added_by, row_added, row_of, row_words, joined_words, follow_bit}
use Rattle.l4_symbols.specs.Spelling.{◌>>=◌, label_in}
use Rattle.l4_symbols.specs.declared.reasons.Reason.{Reason}
use Rattle.l4_symbols.specs.declared.reasons.Reason.TheVariants.{Behind, Full}
use Rattle.l4_text.specs.Numbers.{number_of}

-- a row has as many words as its message
row_is_long : (tag : RowTag) (m : Message) → row_len (row_of tag m) ≡ words_of m
row_is_long tag m = ap (λ (n : ℕ). length m.untyped.items + 2 * n) (length-map m.items.items (λ item. item_words item false))

-- ---- the first token

pub number_begun : (token : List ℕ) (word : ℕ) (m : Message) → Some word ≡ number_of token → (m.untyped.items ≡ []) × (m.items.items ≡ []) → row_begun token ≡ Ok (row_of (Given word) m)
unfolding row_begun
number_begun token word m e empty =
    ap (begun_by token) (sym e)
    ∙ ap (λ (ws : List ℕ). Ok (record { tag = Given word; untyped = ws; items = [] })) (sym empty.0)
    ∙ ap (λ (is : List Item). Ok (record { tag = Given word; untyped = m.untyped.items; items = map (λ item. item_words item false) is })) (sym empty.1)

pub label_begun : (token : List ℕ) (m : Message) → None ≡ number_of token → Begins token m → row_begun token ≡ Ok (row_of (Labelled m.label) m)
unfolding row_begun
label_begun token m none begins =
    ap (begun_by token) (sym none)
    ∙ ap (λ (r : Result ℕ Reason). r >>= λ label. Ok (only_tag (Labelled label))) begins.label
    ∙ ap (λ (ws : List ℕ). Ok (record { tag = Labelled m.label; untyped = ws; items = [] })) (sym begins.untyped)
    ∙ ap (λ (is : List Item). Ok (record { tag = Labelled m.label; untyped = m.untyped.items; items = map (λ item. item_words item false) is })) (sym begins.items)

pub not_begun : (token : List ℕ) (reason : Reason) → None ≡ number_of token → label_in token ≡ Err reason → row_begun token ≡ Err reason
unfolding row_begun
not_begun token reason none e = ap (begun_by token) (sym none) ∙ ap (λ (r : Result ℕ Reason). r >>= λ label. Ok (only_tag (Labelled label))) e

-- ---- one token more

pub word_row : (size : PageSize) (token : List ℕ) (word : ℕ) (row : Row) → Some word ≡ number_of token → word_added word row ≡ row_added size token row
unfolding row_added
word_row size token word row e = ap (added_by size token row) e

pub item_row : (size : PageSize) (token : List ℕ) (words : ℕ × ℕ) (row : Row) → None ≡ number_of token → Ok words ≡ item_words_in size token → item_added words row ≡ row_added size token row
unfolding row_added
item_row size token words row none e = ap (λ (r : Result (ℕ × ℕ) Reason). r >>= λ ws. item_added ws row) e ∙ ap (added_by size token row) none

pub no_item_row : (size : PageSize) (token : List ℕ) (reason : Reason) (row : Row) → None ≡ number_of token → Err reason ≡ item_words_in size token → row_added size token row ≡ Err reason
unfolding row_added
no_item_row size token reason row none e = sym (ap (λ (r : Result (ℕ × ℕ) Reason). r >>= λ ws. item_added ws row) e ∙ ap (added_by size token row) none)

pub some_items : (n : ℕ) → false ≡ (n == 0) → 0 < n
some_items n e = grind (arith, nat_tests)

pub no_items : (n : ℕ) → true ≡ (n == 0) → n ≡ 0
no_items n e = grind (arith, nat_tests)

pub word_behind : (word : ℕ) (tag : RowTag) (m : Message) → 0 < length m.items.items → word_added word (row_of tag m) ≡ Err Behind
word_behind word tag m some =
    let len : length (map (λ item. item_words item false) m.items.items) ≡ length m.items.items = length-map m.items.items (λ item. item_words item false) in
    let t : nat_le 1 (length (map (λ item. item_words item false) m.items.items)) ≡ true = grind (arith, nat_tests) in
    ap (λ (b : Bool). cond b (Err Behind) (cond (nat_le (row_len (row_of tag m) + 1) 63) (Ok (record (row_of tag m) { untyped = m.untyped.items ++ word ∷ [] })) (Err Full))) t

first_word_free : (tag : RowTag) (m : Message) → length m.items.items ≡ 0 → nat_le 1 (length (map (λ item. item_words item false) m.items.items)) ≡ false
first_word_free tag m none =
    let len : length (map (λ item. item_words item false) m.items.items) ≡ length m.items.items = length-map m.items.items (λ item. item_words item false) in
    grind (arith, nat_tests)

pub word_full : (word : ℕ) (tag : RowTag) (m : Message) → length m.items.items ≡ 0 → 63 < words_of m + 1 → word_added word (row_of tag m) ≡ Err Full
word_full word tag m none many =
    let len = row_is_long tag m in
    let f : nat_le (row_len (row_of tag m) + 1) 63 ≡ false = grind (arith, nat_tests) in
    ap (λ (b : Bool). cond b (Err Behind) (cond (nat_le (row_len (row_of tag m) + 1) 63) (Ok (record (row_of tag m) { untyped = m.untyped.items ++ word ∷ [] })) (Err Full))) (first_word_free tag m none)
    ∙ ap (λ (b : Bool). cond b (Ok (record (row_of tag m) { untyped = m.untyped.items ++ word ∷ [] })) (Err Full)) f

pub word_fits : (word : ℕ) (tag : RowTag) (m : Message) → length m.items.items ≡ 0 → words_of m + 1 ≤ 63
    → word_added word (row_of tag m) ≡ Ok (record (row_of tag m) { untyped = m.untyped.items ++ word ∷ [] })
word_fits word tag m none few =
    let len = row_is_long tag m in
    let t : nat_le (row_len (row_of tag m) + 1) 63 ≡ true = grind (arith, nat_tests) in
    ap (λ (b : Bool). cond b (Err Behind) (cond (nat_le (row_len (row_of tag m) + 1) 63) (Ok (record (row_of tag m) { untyped = m.untyped.items ++ word ∷ [] })) (Err Full))) (first_word_free tag m none)
    ∙ ap (λ (b : Bool). cond b (Ok (record (row_of tag m) { untyped = m.untyped.items ++ word ∷ [] })) (Err Full)) t

pub item_full : (words : ℕ × ℕ) (tag : RowTag) (m : Message) → 63 < words_of m + 2 → item_added words (row_of tag m) ≡ Err Full
item_full words tag m many =
    let len = row_is_long tag m in
    let f : nat_le (row_len (row_of tag m) + 2) 63 ≡ false = grind (arith, nat_tests) in
    ap (λ (b : Bool). cond b (Ok (record (row_of tag m) { items = map (λ item. item_words item false) m.items.items ++ words ∷ [] })) (Err Full)) f

pub item_fits : (words : ℕ × ℕ) (tag : RowTag) (m : Message) → words_of m + 2 ≤ 63
    → item_added words (row_of tag m) ≡ Ok (record (row_of tag m) { items = map (λ item. item_words item false) m.items.items ++ words ∷ [] })
item_fits words tag m few =
    let len = row_is_long tag m in
    let t : nat_le (row_len (row_of tag m) + 2) 63 ≡ true = grind (arith, nat_tests) in
    ap (λ (b : Bool). cond b (Ok (record (row_of tag m) { items = map (λ item. item_words item false) m.items.items ++ words ∷ [] })) (Err Full)) t

-- ---- the words of a row

follow_is : (items : List Item) (item : Item) → (item_words item false).0 + follow_bit (map (λ i. item_words i false) items) ≡ (item_words item (follows items)).0
follow_is [] item = omega arith
follow_is (next ∷ items) item = omega arith

joined_is : (items : List Item) → joined_words (map (λ i. item_words i false) items) ≡ items_words items
joined_is [] = refl
joined_is (item ∷ items) =
    ap (λ (n : ℕ). n ∷ (item_words item false).1 ∷ joined_words (map (λ i. item_words i false) items)) (follow_is items item)
    ∙ ap (λ (ws : List ℕ). (item_words item (follows items)).0 ∷ (item_words item (follows items)).1 ∷ ws) (joined_is items)

-- the words of a message with its own tag
pub labelled_words : (m : Message) → message_words m ≡ row_words (row_of (Labelled m.label) m)
labelled_words m = ap (λ (ws : List ℕ). (m.label * 65536 + length ws * 64 + length m.untyped.items) ∷ (m.untyped.items ++ ws)) (sym (joined_is m.items.items))

-- the words of a message with this word as its tag
pub given_words : (word : ℕ) (m : Message) → word ∷ (m.untyped.items ++ items_words m.items.items) ≡ row_words (row_of (Given word) m)
given_words word m = ap (λ (ws : List ℕ). word ∷ (m.untyped.items ++ ws)) (sym (joined_is m.items.items))

-- ---- what a row that could be added to was

pub word_found : (b c : Bool) (row next : Row) → cond b (Err Behind) (cond c (Ok row) (Err Full)) ≡ Ok next → (b ≡ false) × (c ≡ true) × (row ≡ next)
word_found true c row next is = absurd (cc)
word_found false true row next is = (refl, refl, cc)
word_found false false row next is = absurd (cc)

pub item_found : (c : Bool) (row next : Row) → cond c (Ok row) (Err Full) ≡ Ok next → (c ≡ true) × (row ≡ next)
item_found true row next is = (refl, cc)
item_found false row next is = absurd (cc)

word_grows : (word : ℕ) (row next : Row) → word_added word row ≡ Ok next → row_len row + 1 ≤ row_len next
word_grows word row next is =
    let f = word_found _ _ _ next is in
    subst (λ (x : Row). row_len row + 1 ≤ row_len x) f.2 (omega (arith, length-append row.untyped (word ∷ [])))

item_grows : (words : ℕ × ℕ) (row next : Row) → item_added words row ≡ Ok next → row_len row + 1 ≤ row_len next
item_grows words row next is =
    let f = item_found _ _ next is in
    subst (λ (x : Row). row_len row + 1 ≤ row_len x) f.1 (omega (arith, length-append row.items (words ∷ [])))

-- each token adds a word at least
pub row_grows : (size : PageSize) (token : List ℕ) (row next : Row) → row_added size token row ≡ Ok next → row_len row + 1 ≤ row_len next
unfolding row_added
row_grows size token row next is =
    elim (number_of token) as (λ (o : Option ℕ). added_by size token row o ≡ Ok next → row_len row + 1 ≤ row_len next) [
      | Some word ↦ λ f. word_grows word row next f
      | None ↦ λ f.
          elim (item_words_in size token) as (λ (r : Result (ℕ × ℕ) Reason). (r >>= λ words. item_added words row) ≡ Ok next → row_len row + 1 ≤ row_len next) [
            | Ok words ↦ λ g. item_grows words row next g
            | Err reason ↦ λ g. absurd (cc)
          ] f
    ] is
