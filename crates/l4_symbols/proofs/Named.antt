-- A token names one item, and the words of an item are read as it.
use Rattle.std.proofs.Common.{◌≡◌, ℕ, ◌+◌, ◌*◌, ◌%◌, ◌^◌, ◌<◌, ◌≤◌, Bool, List, Option, Some, MatchOption, Result, Ok, inl, inr, sym, ap, ◌∙◌, subst, arith}
use Rattle.std.proofs.lemmas.Bool.{cases_lt, false≢true}
use Rattle.std.proofs.lemmas.Nat.{pow_below, pow-add}
use Rattle.l4_fpage.specs.Fpages.{Bytes, bytes_of, HasPage}
use Rattle.l4_fpage.specs.Pages.{page_log, page_bytes, space_pages, most_log, IsBlock}
use Rattle.l4_fpage.specs.Rights.{RightsSet}
use Rattle.l4_fpage.specs.declared.fpages.Fpage.{Fpage}
use Rattle.l4_fpage.specs.declared.sizes.PageSize.{PageSize}
use Rattle.l4_fpage.specs.declared.sizes.PageSize.TheVariants.{Kib4, Kib1}
use Rattle.l4_fpage.proofs.Known.{same_fpage}
use Rattle.l4_fpage.proofs.PageSizes.{pages_most, log_low, space_log_small, whole_units}
use Rattle.l4_msg.proofs.Reading.{item_is_unique}
use Rattle.l4_msg.proofs.Written.{item_reads}
use Rattle.l4_msg.specs.Words.{ItemReads, item_words}
use Rattle.l4_msg.specs.Moves.{base_of}
use Rattle.l4_msg.specs.declared.items.Item.{Item}
use Rattle.l4_msg.specs.declared.items.Item.TheVariants.{Map, Grant}
use Rattle.l4_symbols.specs.Items.{IsFpageOf, IsOneOf, IsItemOf, NamesItem}
use Rattle.l4_symbols.specs.Spelling.{item_in}
use Rattle.l4_symbols.specs.declared.reasons.Reason.{Reason}
use Rattle.l4_symbols.specs.declared.spelling.Pages.{Pages}
use Rattle.l4_symbols.specs.declared.spelling.ItemParts.{ItemParts}

-- a power of two has one logarithm
pub one_log : (a b : ℕ) → 2 ^ a ≡ 2 ^ b → a ≡ b
one_log a b e =
    elim (cases_lt a b) [
      | inl lt ↦ absurd (omega (arith, pow_below a b lt))
      | inr ge ↦ elim (cases_lt b a) [ inl lt ↦ absurd (omega (arith, pow_below b a lt)) | inr le ↦ omega arith ]
    ]

bytes_at : PageSize → Pages → ℕ → Option Bytes
bytes_at size pages log = Some (record { base = pages.first * page_bytes size; log = log + page_log size })

-- pages have one fpage
pub one_fpage : (size : PageSize) (pages : Pages) (rights : RightsSet) (f g : Fpage) → IsFpageOf size pages rights f → IsFpageOf size pages rights g → f ≡ g
unfolding bytes_at
one_fpage size pages rights f g a b =
    let log : a.log ≡ b.log = one_log a.log b.log (sym a.run.count ∙ b.run.count) in
    same_fpage f g _ a.bytes (b.bytes ∙ ap (bytes_at size pages) (sym log)) (a.rights_are ∙ sym b.rights_are)

-- what a token spells is one item
pub one_item : (size : PageSize) (parts : ItemParts) (a b : Item) → IsItemOf size parts a → IsItemOf size parts b → a ≡ b
one_item size parts (Map p f) (Map q g) x y =
    ap (λ (n : ℕ). Map n f) (x.base ∙ sym y.base) ∙ ap (Map q) (one_fpage size parts.pages parts.rights f g x.fpage y.fpage)
one_item size parts (Map p f) (Grant q g) x y = absurd (false≢true (x.kind ∙ sym y.kind))
one_item size parts (Grant p f) (Map q g) x y = absurd (false≢true (y.kind ∙ sym x.kind))
one_item size parts (Grant p f) (Grant q g) x y =
    ap (λ (n : ℕ). Grant n f) (x.base ∙ sym y.base) ∙ ap (Grant q) (one_fpage size parts.pages parts.rights f g x.fpage y.fpage)

-- what is read is read as one value
one_reading : (read : Result ItemParts Reason) (a b : ItemParts) → read ≡ Ok a → read ≡ Ok b → a ≡ b
one_reading read a b x y = cc

-- a token that names two items names one
pub named_once : (size : PageSize) (token : List ℕ) (a b : Item) → NamesItem size token a → NamesItem size token b → a ≡ b
named_once size token a b x y =
    let same : x.0 ≡ y.0 = one_reading (item_in token) x.0 y.0 x.1 y.1 in
    one_item size y.0 a b (subst (λ (p : ItemParts). IsItemOf size p a) same x.2) y.2

-- a number below 2 ^ 32 that is none of the powers of two below it is none at all
pub no_log : (count : ℕ) → count < 2 ^ 32 → ((k : ℕ) → k < 32 → count ≡ 2 ^ k → ⊥) → (k : ℕ) → count ≡ 2 ^ k → ⊥
no_log count lt none k e =
    elim (cases_lt k 32) [
      | inl small ↦ none k small e
      | inr large ↦ elim (cases_lt 32 k) [ inl more ↦ omega (arith, pow_below 32 k more) | inr same ↦ let n : k ≡ 32 = omega arith in omega (arith, ap (λ (i : ℕ). 2 ^ i) n) ]
    ]

-- a block of a space has no more pages than the largest space
pub log_within : (size : PageSize) (log : ℕ) → 2 ^ log ≤ space_pages size → log ≤ most_log
log_within size log h = omega (arith, log_low size log h, space_log_small size)

-- pages that end in the space and are no block have a first page that is not aligned
pub unaligned : (size : PageSize) (first count log : ℕ) → count ≡ 2 ^ log → first + count ≤ space_pages size → (IsBlock first log → ⊥) → 0 < first % count
unaligned size first count log e inside other =
    elim (cases_lt 0 (first % count)) [
      | inl lt ↦ lt
      | inr le ↦
          let zero : first % count ≡ 0 = omega arith in
          absurd (other (record { small = log_within size log (omega arith); aligned = ap (λ (n : ℕ). first % n) (sym e) ∙ zero; inside = omega (arith, pages_most size) }))
    ]

-- the words of an item that a token names are read as one that it names
pub read_is_named : (size : PageSize) (token : List ℕ) (item read : Item) (more : Bool) → NamesItem size token item → ItemReads (item_words item more).0 (item_words item more).1 read → NamesItem size token read
read_is_named size token item read more named reads =
    let whole : base_of item % 1024 ≡ 0 = ap (λ (n : ℕ). n % 1024) named.2.base ∙ whole_units size named.0.base in
    subst (NamesItem size token) (item_is_unique _ _ item read (item_reads item more whole) reads) named

-- page by page, of 2 ^ log pages in bytes
abbrev PageByPage : PageSize → ℕ → ℕ → ℕ → Type 0
PageByPage size first log page =
    (HasPage size (record { base = first * page_bytes size; log = log + page_log size }) page → (first ≤ page) × (page < first + 2 ^ log))
    × ((first ≤ page) × (page < first + 2 ^ log) → HasPage size (record { base = first * page_bytes size; log = log + page_log size }) page)

page_by_page : (size : PageSize) (first log page : ℕ) → PageByPage size first log page
page_by_page Kib4 first log page =
    let e : 2 ^ (log + 12) ≡ 2 ^ log * 2 ^ 12 = pow-add 2 log 12 in (
      λ h. (omega (arith, h.from), omega (arith, h.below, e)),
      λ h. record { from = omega (arith, h.0); below = omega (arith, h.1, e) },
    )
page_by_page Kib1 first log page =
    let e : 2 ^ (log + 10) ≡ 2 ^ log * 2 ^ 10 = pow-add 2 log 10 in (
      λ h. (omega (arith, h.from), omega (arith, h.below, e)),
      λ h. record { from = omega (arith, h.0); below = omega (arith, h.1, e) },
    )

abbrev HasAll : PageSize → Pages → ℕ → Option Bytes → Type 0
HasAll size pages page bytes =
    (MatchOption bytes ⊥ (λ b. HasPage size b page) → IsOneOf pages page) × (IsOneOf pages page → MatchOption bytes ⊥ (λ b. HasPage size b page))

-- the fpage of pages names these pages
pub names_pages : (size : PageSize) (pages : Pages) (rights : RightsSet) (fpage : Fpage) (page : ℕ) → IsFpageOf size pages rights fpage → HasAll size pages page (bytes_of fpage)
names_pages size pages rights fpage page is =
    let each = page_by_page size pages.first is.log page in
    subst (HasAll size pages page) (sym is.bytes) (
      λ h. let i : (pages.first ≤ page) × (page < pages.first + 2 ^ is.log) = each.0 h in
          record { from = i.0; below = rw is.run.count i.1 },
      λ h. let i : page < pages.first + 2 ^ is.log = rw is.run.count at h.below in each.1 (h.from, i),
    )
