-- What the computed words name: there is an fpage, an item or a message of these words.
use Rattle.std.proofs.Common.{◌≡◌, ℕ, zero, suc, ◌+◌, ◌*◌, ◌%◌, ◌^◌, ◌<◌, ◌≤◌, ◌==◌, Bool, true, false, cond, List, [], ◌∷◌, ◌++◌, length, map, Option, Some, None, ok_or, Result, Ok, Err, inl, inr, refl, sym, ap, ◌∙◌, subst, arith, nat_lt, nat_le}
use Rattle.std.proofs.lemmas.Bool.{cases_lt}
use Rattle.std.proofs.lemmas.Bool.Decides.{nat_tests}
use Rattle.std.proofs.lemmas.List.{length-map, map-append}
use Rattle.std.proofs.lemmas.Option.{none-some, same_Some}
use Rattle.l4_fpage.specs.Fpages.{fpage_word}
use Rattle.l4_fpage.specs.Pages.{page_log, page_bytes, space_log, space_pages}
use Rattle.l4_fpage.specs.Rights.{RightsSet, no_rights}
use Rattle.l4_fpage.specs.declared.fpages.Fpage.{Fpage}
use Rattle.l4_fpage.specs.declared.fpages.Fpage.TheVariants.{Nil, Complete, Sized}
use Rattle.l4_fpage.specs.declared.sizes.PageSize.{PageSize}
use Rattle.l4_fpage.specs.declared.sizes.PageSize.TheVariants.{Kib4, Kib1}
use Rattle.l4_fpage.proofs.PageSizes.{log_large, log_low, pages_most, whole}
use Rattle.l4_fpage.proofs.Powers.{aligned_up}
use Rattle.l4_msg.specs.Messages.{message_words}
use Rattle.l4_msg.specs.Moves.{base_of, complete, fpage_of, is_grant}
use Rattle.l4_msg.specs.Words.{item_words}
use Rattle.l4_msg.specs.declared.items.Item.{Item}
use Rattle.l4_msg.specs.declared.items.Item.TheVariants.{Map, Grant}
use Rattle.l4_msg.specs.declared.messages.Message.{Message}
use Rattle.l4_symbols.specs.Computed.{log_below, block_log, block_word, pages_word, fpage_word_in, window_word_of, window_word_in, word_in, first_word, parts_words, item_words_in}
use Rattle.l4_symbols.specs.Items.{IsRun, IsFpageOf, IsItemOf, NamesItem}
use Rattle.l4_symbols.specs.Messages.{Adds, AddsEach, IsMessageOf}
use Rattle.l4_symbols.specs.Rows.{Row, RowTag, Labelled, only_tag, begun_by, word_added, item_added, added_by, row_begun, row_added, all_added, row_of, row_words, message_words_in}
use Rattle.l4_symbols.specs.Spelling.{◌>>=◌, item_in, label_in, fpage_in, window_in}
use Rattle.l4_symbols.specs.Words.{NamesWord, IsWindowOf}
use Rattle.l4_symbols.specs.declared.reasons.Reason.{Reason}
use Rattle.l4_symbols.specs.declared.reasons.Reason.TheVariants.{Count, Beyond, Unaligned, Base}
use Rattle.l4_symbols.specs.declared.spelling.FpageParts.{FpageParts}
use Rattle.l4_symbols.specs.declared.spelling.ItemParts.{ItemParts}
use Rattle.l4_symbols.specs.declared.spelling.Pages.{Pages}
use Rattle.l4_symbols.specs.declared.spelling.WindowParts.{WindowParts}
use Rattle.l4_symbols.specs.declared.spelling.WindowParts.TheVariants.{All, Nothing, Run}
use Rattle.l4_symbols.specs.declared.words.WordKind.{WordKind}
use Rattle.l4_symbols.specs.declared.words.WordKind.TheVariants.{Fpage as AnFpage, Window, Timeouts, Control, Id}
use Rattle.l4_text.specs.Numbers.{number_of}
use Rattle.l4_symbols.proofs.Computed.{pages_are, item_is}
use Rattle.l4_symbols.proofs.Named.{log_within}
use Rattle.l4_symbols.proofs.Reread.{one_reading}
use Rattle.l4_symbols.proofs.MessageRows.{labelled_words, word_found, item_found}

-- ---- pages

log_found : (n count k : ℕ) → log_below n count ≡ Some k → (count ≡ 2 ^ k) × (k < n)
log_found zero count k is = absurd (none-some k is)
log_found (suc n) count k is =
    elim (count == 2 ^ n) as (λ (t : Bool). (count == 2 ^ n) ≡ t → cond t (Some n) (log_below n count) ≡ Some k → (count ≡ 2 ^ k) × (k < suc n)) [
      | true ↦ λ e s.
          let same : n ≡ k = same_Some n k s in
          let power : count ≡ 2 ^ n = grind (arith, nat_tests) in
          (power ∙ ap (λ (i : ℕ). 2 ^ i) same, omega (arith, same))
      | false ↦ λ e s. let h = log_found n count k s in (h.0, omega (arith, h.1))
    ] refl is

behind_found : (b c : Bool) (l log : ℕ) → cond b (Err Beyond) (cond c (Err Unaligned) (Ok l)) ≡ Ok log → (b ≡ false) × (c ≡ false) × (l ≡ log)
behind_found true c l log is = absurd (cc)
behind_found false true l log is = absurd (cc)
behind_found false false l log is = (refl, refl, cc)

-- a computed logarithm is that of a block
run_of : (size : PageSize) (pages : Pages) (log : ℕ) → block_log size pages ≡ Ok log → IsRun size pages log
unfolding block_log
run_of size pages log is =
    elim (log_below 32 pages.count) as (λ (o : Option ℕ). log_below 32 pages.count ≡ o
    → (ok_or o Count >>= λ l. cond (nat_lt (space_pages size) (pages.first + pages.count)) (Err Beyond) (cond (nat_lt 0 (pages.first % pages.count)) (Err Unaligned) (Ok l))) ≡ Ok log → IsRun size pages log) [
      | None ↦ λ e f. absurd (cc)
      | Some l ↦ λ e f.
          let b = behind_found (nat_lt (space_pages size) (pages.first + pages.count)) (nat_lt 0 (pages.first % pages.count)) l log f in
          let h = log_found 32 pages.count l e in
          let count : pages.count ≡ 2 ^ log = h.0 ∙ ap (λ (i : ℕ). 2 ^ i) b.2 in
          let inside : pages.first + pages.count ≤ space_pages size = grind (arith, nat_tests, b.0) in
          let none : pages.first % pages.count ≡ 0 = grind (arith, nat_tests, b.1) in
          record {
            count = count;
            block = record { small = log_within size log (omega (arith, inside, count)); aligned = ap (λ (n : ℕ). pages.first % n) (sym count) ∙ none; inside = omega (arith, inside, count, pages_most size) };
            inside = omega (arith, inside, count);
          }
    ] refl is

no_base : (size : PageSize) (first : ℕ) → first ≡ 0 → 0 ≡ first * page_bytes size
no_base Kib4 first none = omega (arith, none)
no_base Kib1 first none = omega (arith, none)

-- a block has an fpage: the complete one for the whole space, and otherwise the bytes of its pages
fpage_there : (size : PageSize) (pages : Pages) (rights : RightsSet) (log : ℕ) → IsRun size pages log → (fpage : Fpage) × IsFpageOf size pages rights fpage
fpage_there size pages rights log run =
    let low : log ≤ space_log size = log_low size log (omega (arith, run.inside)) in
    elim (cases_lt log (space_log size)) [
      | inl less ↦ (
        Sized (record {
          base = pages.first * page_bytes size;
          log = log + page_log size;
          rights = rights;
          large = omega (arith, log_large size);
          small = omega (arith, less, whole size);
          aligned = aligned_up (page_log size) log pages.first run.block.aligned;
        }),
        record { log = log; run = run; bytes = refl; rights_are = refl },
      )
      | inr most ↦
          let same : log ≡ space_log size = omega (arith, low, most) in
          let first : pages.first ≡ 0 = omega (arith, run.inside, ap (λ (i : ℕ). 2 ^ i) same) in
          let bytes : 32 ≡ log + page_log size = omega (arith, same, whole size) in (
            Complete rights,
            record {
              log = log;
              run = run;
              bytes = ap (λ (n : ℕ). Some (record { base = n; log = 32 })) (no_base size pages.first first) ∙ ap (λ (n : ℕ). Some (record { base = pages.first * page_bytes size; log = n })) bytes;
              rights_are = refl;
            },
          )
    ]

-- the word of pages is that of their fpage
pages_there : (size : PageSize) (pages : Pages) (rights : RightsSet) (word : ℕ) → pages_word size pages rights ≡ Ok word → (fpage : Fpage) × IsFpageOf size pages rights fpage × (word ≡ fpage_word fpage)
unfolding pages_word
pages_there size pages rights word is =
    elim (block_log size pages) as (λ (r : Result ℕ Reason). block_log size pages ≡ r → (r >>= λ log. Ok (block_word size pages.first log rights)) ≡ Ok word
    → (fpage : Fpage) × IsFpageOf size pages rights fpage × (word ≡ fpage_word fpage)) [
      | Ok log ↦ λ e f.
          let there = fpage_there size pages rights log (run_of size pages log e) in
          (there.0, there.1, one_reading (pages_word size pages rights) word (fpage_word there.0) is (sym (pages_are size pages rights there.0 there.1)))
      | Err reason ↦ λ e f. absurd (cc)
    ] refl is

-- ---- words

fpage_named : (size : PageSize) (token : List ℕ) (word : ℕ) → fpage_word_in size token ≡ Ok word → NamesWord AnFpage size token word
unfolding fpage_word_in
fpage_named size token word is =
    elim (fpage_in token) as (λ (r : Result FpageParts Reason). fpage_in token ≡ r → (r >>= λ parts. pages_word size parts.pages parts.rights) ≡ Ok word → NamesWord AnFpage size token word) [
      | Ok parts ↦ λ e f. let there = pages_there size parts.pages parts.rights word f in (there.0, (parts, e, there.1), there.2)
      | Err reason ↦ λ e f. absurd (cc)
    ] refl is

window_there : (size : PageSize) (parts : WindowParts) (word : ℕ) → window_word_of size parts ≡ Ok word → (window : Fpage) × IsWindowOf size parts window × (word ≡ fpage_word window)
window_there size All word is = (complete, refl, cc)
window_there size Nothing word is = (Nil, refl, cc)
window_there size (Run pages) word is = pages_there size pages no_rights word is

window_named : (size : PageSize) (token : List ℕ) (word : ℕ) → window_word_in size token ≡ Ok word → NamesWord Window size token word
unfolding window_word_in
window_named size token word is =
    elim (window_in token) as (λ (r : Result WindowParts Reason). window_in token ≡ r → (r >>= window_word_of size) ≡ Ok word → NamesWord Window size token word) [
      | Ok parts ↦ λ e f. let there = window_there size parts word f in (there.0, (parts, e, there.1), there.2)
      | Err reason ↦ λ e f. absurd (cc)
    ] refl is

pub word_named : (kind : WordKind) (size : PageSize) (token : List ℕ) (word : ℕ) → word_in kind size token ≡ Ok word → NamesWord kind size token word
word_named AnFpage size token word is = fpage_named size token word is
word_named Window size token word is = window_named size token word is
word_named Timeouts size token word is = is
word_named Control size token word is = is
word_named Id size token word is = is

-- ---- items

made_item : Bool → ℕ → Fpage → Item
made_item true base f = Grant base f
made_item false base f = Map base f

kind_made : (g : Bool) (base : ℕ) (f : Fpage) → is_grant (made_item g base f) ≡ g
unfolding made_item
kind_made true base f = refl
kind_made false base f = refl

base_made : (g : Bool) (base : ℕ) (f : Fpage) → base_of (made_item g base f) ≡ base
unfolding made_item
base_made true base f = refl
base_made false base f = refl

fpage_made : (g : Bool) (base : ℕ) (f : Fpage) → fpage_of (made_item g base f) ≡ f
unfolding made_item
fpage_made true base f = refl
fpage_made false base f = refl

base_found : (b : Bool) (pair words : ℕ × ℕ) → cond b (Err Base) (Ok pair) ≡ Ok words → b ≡ false
base_found true pair words is = absurd (cc)
base_found false pair words is = refl

parts_there : (size : PageSize) (parts : ItemParts) (words : ℕ × ℕ) → parts_words size parts ≡ Ok words → (item : Item) × IsItemOf size parts item × (words ≡ item_words item false)
unfolding parts_words
parts_there size parts words is =
    elim (pages_word size parts.pages parts.rights) as (λ (r : Result ℕ Reason). pages_word size parts.pages parts.rights ≡ r
    → (r >>= λ second. cond (nat_le (space_pages size) parts.base) (Err Base) (Ok (first_word size parts, second))) ≡ Ok words → (item : Item) × IsItemOf size parts item × (words ≡ item_words item false)) [
      | Ok second ↦ λ e f.
          let there = pages_there size parts.pages parts.rights second e in
          let found : nat_le (space_pages size) parts.base ≡ false = base_found _ _ _ f in
          let inside : parts.base < space_pages size = grind (arith, nat_tests) in
          let base : ℕ = parts.base * page_bytes size in
          let item : Item = made_item parts.grant base there.0 in
          let named : IsItemOf size parts item = record {
            kind = kind_made parts.grant base there.0;
            base_inside = inside;
            base = base_made parts.grant base there.0;
            fpage = subst (IsFpageOf size parts.pages parts.rights) (sym (fpage_made parts.grant base there.0)) there.1;
          } in
          (item, named, one_reading (parts_words size parts) words (item_words item false) is (sym (item_is size parts item named)))
      | Err reason ↦ λ e f. absurd (cc)
    ] refl is

item_there : (size : PageSize) (token : List ℕ) (words : ℕ × ℕ) → item_words_in size token ≡ Ok words → (item : Item) × NamesItem size token item × (words ≡ item_words item false)
unfolding item_words_in
item_there size token words is =
    elim (item_in token) as (λ (r : Result ItemParts Reason). item_in token ≡ r → (r >>= parts_words size) ≡ Ok words → (item : Item) × NamesItem size token item × (words ≡ item_words item false)) [
      | Ok parts ↦ λ e f. let there = parts_there size parts words f in (there.0, (parts, e, there.1), there.2)
      | Err reason ↦ λ e f. absurd (cc)
    ] refl is

-- ---- messages

-- what one token more makes of a message
abbrev AddedThere : PageSize → RowTag → List ℕ → Message → Row → Type 0
AddedThere size tag token m next = (after : Message) × Adds size token m after × (after.label ≡ m.label) × (next ≡ row_of tag after)

no_items : (items : List Item) → nat_le 1 (length (map (λ item. item_words item false) items)) ≡ false → items ≡ []
no_items [] is = refl
no_items (item ∷ items) is = absurd (grind (arith, nat_tests))

word_there : (size : PageSize) (tag : RowTag) (token : List ℕ) (m : Message) (next : Row) (word : ℕ) → number_of token ≡ Some word → word_added word (row_of tag m) ≡ Ok next → AddedThere size tag token m next
word_there size tag token m next word e is =
    let len : length (map (λ item. item_words item false) m.items.items) ≡ length m.items.items = length-map m.items.items (λ item. item_words item false) in
    let f = word_found _ _ _ next is in
    let room : length m.untyped.items + 2 * length m.items.items + 1 ≤ 63 = grind (arith, nat_tests, f.1, len) in (
      record m { untyped = record { items = m.untyped.items ++ word ∷ [] } },
      inl (word, e, record { first = no_items m.items.items f.0; room = room; label = refl; untyped = refl; items = refl }),
      refl,
      sym f.2,
    )

item_follows : (size : PageSize) (tag : RowTag) (token : List ℕ) (m : Message) (next : Row) (words : ℕ × ℕ) → number_of token ≡ None → item_words_in size token ≡ Ok words → item_added words (row_of tag m) ≡ Ok next → AddedThere size tag token m next
item_follows size tag token m next words none e is =
    let len : length (map (λ item. item_words item false) m.items.items) ≡ length m.items.items = length-map m.items.items (λ item. item_words item false) in
    let f = item_found _ _ next is in
    let there = item_there size token words e in
    let room : length m.untyped.items + 2 * length m.items.items + 2 ≤ 63 = grind (arith, nat_tests, f.0, len) in (
      record m { items = record { items = m.items.items ++ there.0 ∷ [] } },
      inr (there.0, none, there.1, record { room = room; label = refl; untyped = refl; items = refl }),
      refl,
      sym f.1
          ∙ ap (λ (w : ℕ × ℕ). record (row_of tag m) { items = map (λ item. item_words item false) m.items.items ++ w ∷ [] }) there.2
          ∙ ap (λ (ws : List (ℕ × ℕ)). record (row_of tag m) { items = ws }) (sym (map-append (λ item. item_words item false) m.items.items (there.0 ∷ []))),
    )

added_there : (size : PageSize) (tag : RowTag) (token : List ℕ) (m : Message) (next : Row) → row_added size token (row_of tag m) ≡ Ok next → AddedThere size tag token m next
unfolding row_added
added_there size tag token m next is =
    elim (number_of token) as (λ (o : Option ℕ). number_of token ≡ o → added_by size token (row_of tag m) o ≡ Ok next → AddedThere size tag token m next) [
      | Some word ↦ λ e f. word_there size tag token m next word e f
      | None ↦ λ none f.
          elim (item_words_in size token) as (λ (r : Result (ℕ × ℕ) Reason). item_words_in size token ≡ r → (r >>= λ words. item_added words (row_of tag m)) ≡ Ok next → AddedThere size tag token m next) [
            | Ok words ↦ λ e g. item_follows size tag token m next words none e g
            | Err reason ↦ λ e g. absurd (cc)
          ] refl f
    ] refl is

-- what all these tokens make of a message
abbrev AllThere : PageSize → RowTag → List (List ℕ) → Message → Row → Type 0
AllThere size tag tokens m next = (after : Message) × AddsEach size tokens m after × (after.label ≡ m.label) × (next ≡ row_of tag after)

all_there : (size : PageSize) (tag : RowTag) (tokens : List (List ℕ)) (m : Message) (row next : Row) → row ≡ row_of tag m → all_added size tokens row ≡ Ok next → AllThere size tag tokens m next
all_there size tag [] m row next same is = (m, refl, refl, cc)
all_there size tag (token ∷ tokens) m row next same is =
    elim (row_added size token row) as (λ (r : Result Row Reason). row_added size token row ≡ r → (r >>= λ x. all_added size tokens x) ≡ Ok next → AllThere size tag (token ∷ tokens) m next) [
      | Ok x ↦ λ e f.
          let first = added_there size tag token m x (ap (row_added size token) (sym same) ∙ e) in
          let rest = all_there size tag tokens first.0 x next first.3 f in
          (rest.0, (first.0, first.1, rest.1), rest.2 ∙ first.2, rest.3)
      | Err reason ↦ λ e f. absurd (cc)
    ] refl is

-- a tag alone
tag_message : ℕ → Message
tag_message label = record { label = label; untyped = record { items = [] }; items = record { items = [] } }

label_there : (size : PageSize) (tag : List ℕ) (label : ℕ) (tokens : List (List ℕ)) (row : Row) (words : List ℕ) → label_in tag ≡ Ok label → all_added size tokens (only_tag (Labelled label)) ≡ Ok row → row_words row ≡ words
    → (m : Message) × IsMessageOf size (tag ∷ tokens) m × (words ≡ message_words m)
unfolding tag_message
label_there size tag label tokens row words e added is =
    let there = all_there size (Labelled label) tokens (tag_message label) (only_tag (Labelled label)) row refl added in (
      there.0,
      (tag_message label, record { label = e; untyped = refl; items = refl }, there.1),
      sym is ∙ ap row_words there.3 ∙ ap (λ (l : ℕ). row_words (row_of (Labelled l) there.0)) (sym there.2) ∙ sym (labelled_words there.0),
    )

pub message_named : (size : PageSize) (tag : List ℕ) (tokens : List (List ℕ)) (words : List ℕ) → number_of tag ≡ None → message_words_in size (tag ∷ tokens) ≡ Ok words
    → (m : Message) × IsMessageOf size (tag ∷ tokens) m × (words ≡ message_words m)
unfolding message_words_in row_begun
message_named size tag tokens words none is =
    elim (label_in tag) as (λ (r : Result ℕ Reason). label_in tag ≡ r → ((r >>= λ label. Ok (only_tag (Labelled label))) >>= λ begun. all_added size tokens begun >>= λ row. Ok (row_words row)) ≡ Ok words
    → (m : Message) × IsMessageOf size (tag ∷ tokens) m × (words ≡ message_words m)) [
      | Ok label ↦ λ e f.
          elim (all_added size tokens (only_tag (Labelled label))) as (λ (r : Result Row Reason). all_added size tokens (only_tag (Labelled label)) ≡ r → (r >>= λ row. Ok (row_words row)) ≡ Ok words
          → (m : Message) × IsMessageOf size (tag ∷ tokens) m × (words ≡ message_words m)) [
            | Ok row ↦ λ added g. label_there size tag label tokens row words e added cc
            | Err reason ↦ λ added g. absurd (cc)
          ] refl f
      | Err reason ↦ λ e f. absurd (cc)
    ] refl (ap (λ (o : Option ℕ). begun_by tag o >>= λ begun. all_added size tokens begun >>= λ row. Ok (row_words row)) (sym none) ∙ is)
