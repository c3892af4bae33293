-- What the computed words are: those of what the tokens name.
use Rattle.std.proofs.Common.{◌≡◌, ℕ, zero, suc, ◌+◌, ◌*◌, ◌%◌, ◌^◌, ◌<◌, ◌≤◌, ◌==◌, Bool, true, false, cond, List, Option, Some, None, ok_or, Result, Ok, Err, inl, inr, refl, sym, ap, ◌∙◌, arith, nat_lt, nat_le}
use Rattle.std.proofs.lemmas.Bool.{cases_lt}
use Rattle.std.proofs.lemmas.Bool.Decides.{nat_tests}
use Rattle.l4_fpage.specs.Fpages.{Bytes, bytes_of, rights_of, fpage_word}
use Rattle.l4_fpage.specs.Pages.{page_log, page_bytes, space_log, space_pages}
use Rattle.l4_fpage.specs.Rights.{RightsSet, no_rights, bits_of}
use Rattle.l4_fpage.specs.declared.fpages.Fpage.{Fpage}
use Rattle.l4_fpage.specs.declared.fpages.Fpage.TheVariants.{Nil, Complete, Sized}
use Rattle.l4_fpage.specs.declared.sizes.PageSize.{PageSize}
use Rattle.l4_fpage.proofs.PageSizes.{whole}
use Rattle.l4_msg.specs.Moves.{fpage_of}
use Rattle.l4_msg.specs.Words.{item_words}
use Rattle.l4_msg.specs.declared.items.Item.{Item}
use Rattle.l4_msg.specs.declared.items.Item.TheVariants.{Map, Grant}
use Rattle.l4_symbols.specs.Computed.{log_below, block_log, block_word, pages_word, fpage_word_in, window_word_of, window_word_in, first_word, parts_words, item_words_in}
use Rattle.l4_symbols.specs.Items.{IsRun, IsFpageOf, IsItemOf}
use Rattle.l4_symbols.specs.Spelling.{◌>>=◌, item_in, fpage_in, window_in}
use Rattle.l4_symbols.specs.Words.{IsWindowOf}
use Rattle.l4_symbols.specs.declared.reasons.Reason.{Reason}
use Rattle.l4_symbols.specs.declared.reasons.Reason.TheVariants.{Count, Beyond, Unaligned, Base}
use Rattle.l4_symbols.specs.declared.spelling.FpageParts.{FpageParts}
use Rattle.l4_symbols.specs.declared.spelling.ItemParts.{ItemParts}
use Rattle.l4_symbols.specs.declared.spelling.Pages.{Pages}
use Rattle.l4_symbols.specs.declared.spelling.WindowParts.{WindowParts}
use Rattle.l4_symbols.specs.declared.spelling.WindowParts.TheVariants.{All, Nothing, Run}
use Rattle.l4_symbols.proofs.Named.{one_log}

equal : (a b : ℕ) → a ≡ b → (a == b) ≡ true
equal a b e = grind (arith, nat_tests)

unequal : (a b : ℕ) → (a ≡ b → ⊥) → (a == b) ≡ false
unequal a b n = elim (a == b) as (λ (t : Bool). (a == b) ≡ t → t ≡ false) [ true ↦ λ e. absurd (n (grind (arith, nat_tests))) | false ↦ λ _. refl ] refl

below : (a b : ℕ) → a < b → nat_lt a b ≡ true
below a b lt = grind (arith, nat_tests)

not_below : (a b : ℕ) → b ≤ a → nat_lt a b ≡ false
not_below a b le = grind (arith, nat_tests)

-- ---- the binary logarithm of a number of pages

pub log_is : (n k count : ℕ) → k < n → count ≡ 2 ^ k → log_below n count ≡ Some k
log_is zero k count lt e = absurd (omega (arith, lt))
log_is (suc n) k count lt e =
    elim (cases_lt k n) [
      | inl less ↦
          let other : count ≡ 2 ^ n → ⊥ = λ f. let same : k ≡ n = one_log k n (sym e ∙ f) in omega (arith, less, same) in
          ap (λ (b : Bool). cond b (Some n) (log_below n count)) (unequal count (2 ^ n) other) ∙ log_is n k count less e
      | inr more ↦
          let same : k ≡ n = omega (arith, lt, more) in
          ap (λ (b : Bool). cond b (Some n) (log_below n count)) (equal count (2 ^ n) (e ∙ ap (λ (i : ℕ). 2 ^ i) same)) ∙ ap Some (sym same)
    ]

pub no_log_is : (n count : ℕ) → ((k : ℕ) → k < n → count ≡ 2 ^ k → ⊥) → log_below n count ≡ None
no_log_is zero count none = refl
no_log_is (suc n) count none =
    ap (λ (b : Bool). cond b (Some n) (log_below n count)) (unequal count (2 ^ n) (none n (omega arith))) ∙ no_log_is n count (λ k lt. none k (omega (arith, lt)))

-- ---- a block of pages

-- what follows the logarithm
behind_log : PageSize → Pages → ℕ → Result ℕ Reason
behind_log size pages log = cond (nat_lt (space_pages size) (pages.first + pages.count)) (Err Beyond) (cond (nat_lt 0 (pages.first % pages.count)) (Err Unaligned) (Ok log))

read_log : PageSize → Pages → Option ℕ → Result ℕ Reason
read_log size pages log = ok_or log Count >>= behind_log size pages

pub block_is : (size : PageSize) (pages : Pages) (log : ℕ) → IsRun size pages log → Ok log ≡ block_log size pages
unfolding block_log behind_log read_log
block_is size pages log run =
    let small : log < 32 = omega (arith, run.block.small) in
    let inside : pages.first + pages.count ≤ space_pages size = omega (arith, run.count, run.inside) in
    let aligned : pages.first % pages.count ≡ 0 = ap (λ (n : ℕ). pages.first % n) run.count ∙ run.block.aligned in
    sym (
    ap (read_log size pages) (log_is 32 log pages.count small run.count)
    ∙ ap (λ (b : Bool). cond b (Err Beyond) (cond (nat_lt 0 (pages.first % pages.count)) (Err Unaligned) (Ok log))) (not_below (space_pages size) (pages.first + pages.count) inside)
    ∙ ap (λ (b : Bool). cond b (Err Unaligned) (Ok log)) (not_below 0 (pages.first % pages.count) (omega (arith, aligned)))
    )

pub block_uncounted : (size : PageSize) (pages : Pages) → None ≡ log_below 32 pages.count → Err Count ≡ block_log size pages
unfolding block_log behind_log read_log
block_uncounted size pages none = ap (read_log size pages) none

pub block_beyond : (size : PageSize) (pages : Pages) (log : ℕ) → Some log ≡ log_below 32 pages.count → space_pages size < pages.first + pages.count → Err Beyond ≡ block_log size pages
unfolding block_log behind_log read_log
block_beyond size pages log some lt =
    sym (
    ap (read_log size pages) (sym some)
    ∙ ap (λ (b : Bool). cond b (Err Beyond) (cond (nat_lt 0 (pages.first % pages.count)) (Err Unaligned) (Ok log))) (below (space_pages size) (pages.first + pages.count) lt)
    )

pub block_unaligned : (size : PageSize) (pages : Pages) (log : ℕ) → Some log ≡ log_below 32 pages.count → pages.first + pages.count ≤ space_pages size → 0 < pages.first % pages.count
    → Err Unaligned ≡ block_log size pages
unfolding block_log behind_log read_log
block_unaligned size pages log some inside lt =
    sym (
    ap (read_log size pages) (sym some)
    ∙ ap (λ (b : Bool). cond b (Err Beyond) (cond (nat_lt 0 (pages.first % pages.count)) (Err Unaligned) (Ok log))) (not_below (space_pages size) (pages.first + pages.count) inside)
    ∙ ap (λ (b : Bool). cond b (Err Unaligned) (Ok log)) (below 0 (pages.first % pages.count) lt)
    )

-- ---- the word of pages

base_in : Option Bytes → ℕ
base_in None = 0
base_in (Some b) = b.base

log_in : Option Bytes → ℕ
log_in None = 0
log_in (Some b) = b.log

word_is : (size : PageSize) (first log : ℕ) (rights : RightsSet) (f : Fpage) → bytes_of f ≡ Some (record { base = first * page_bytes size; log = log + page_log size })
    → rights_of f ≡ rights → block_word size first log rights ≡ fpage_word f
unfolding base_in log_in
word_is size first log rights Nil b r = absurd (cc)
word_is size first log rights (Complete q) b r =
    let l : 32 ≡ log + page_log size = ap log_in b in
    let same : log ≡ space_log size = omega (arith, l, whole size) in
    ap (λ (t : Bool). (cond t 16 (first * page_bytes size + (log + page_log size) * 16)) + bits_of rights) (equal log (space_log size) same)
    ∙ ap (λ (s : RightsSet). 16 + bits_of s) (sym r)
word_is size first log rights (Sized e) b r =
    let l : e.log ≡ log + page_log size = ap log_in b in
    let n : e.base ≡ first * page_bytes size = ap base_in b in
    let other : log ≡ space_log size → ⊥ = λ s. omega (arith, s, l, e.small, whole size) in
    ap (λ (t : Bool). (cond t 16 (first * page_bytes size + (log + page_log size) * 16)) + bits_of rights) (unequal log (space_log size) other)
    ∙ ap (λ (m : ℕ). m + (log + page_log size) * 16 + bits_of rights) (sym n)
    ∙ ap (λ (m : ℕ). e.base + m * 16 + bits_of rights) (sym l)
    ∙ ap (λ (s : RightsSet). e.base + e.log * 16 + bits_of s) (sym r)

pub pages_are : (size : PageSize) (pages : Pages) (rights : RightsSet) (f : Fpage) → IsFpageOf size pages rights f → Ok (fpage_word f) ≡ pages_word size pages rights
unfolding pages_word
pages_are size pages rights f is =
    ap Ok (sym (word_is size pages.first is.log rights f is.bytes is.rights_are))
    ∙ ap (λ (r : Result ℕ Reason). r >>= λ log. Ok (block_word size pages.first log rights)) (block_is size pages is.log is.run)

pub pages_fail : (size : PageSize) (pages : Pages) (rights : RightsSet) (reason : Reason) → Err reason ≡ block_log size pages → Err reason ≡ pages_word size pages rights
unfolding pages_word
pages_fail size pages rights reason fails = ap (λ (r : Result ℕ Reason). r >>= λ log. Ok (block_word size pages.first log rights)) fails

-- ---- the words of windows and items

pub window_is : (size : PageSize) (parts : WindowParts) (f : Fpage) → IsWindowOf size parts f → Ok (fpage_word f) ≡ window_word_of size parts
window_is size All f x = ap (λ (g : Fpage). Ok (fpage_word g)) x
window_is size Nothing f x = ap (λ (g : Fpage). Ok (fpage_word g)) x
window_is size (Run pages) f x = pages_are size pages no_rights f x

-- what follows the word of the pages
behind_pages : PageSize → ItemParts → ℕ → Result (ℕ × ℕ) Reason
behind_pages size parts second = cond (nat_le (space_pages size) parts.base) (Err Base) (Ok (first_word size parts, second))

first_is : (size : PageSize) (parts : ItemParts) (item : Item) → IsItemOf size parts item → (item_words item false).0 ≡ first_word size parts
first_is size parts (Map base fpage) is = omega (arith, is.base, ap {B = ℕ} (λ (b : Bool). cond b 10 8) is.kind)
first_is size parts (Grant base fpage) is = omega (arith, is.base, ap {B = ℕ} (λ (b : Bool). cond b 10 8) is.kind)

pub item_is : (size : PageSize) (parts : ItemParts) (item : Item) → IsItemOf size parts item → Ok (item_words item false) ≡ parts_words size parts
unfolding parts_words behind_pages
item_is size parts item is =
    let inside : nat_le (space_pages size) parts.base ≡ false = grind (arith, nat_tests, is.base_inside) in
    ap (λ (n : ℕ). Ok (n, fpage_word (fpage_of item))) (first_is size parts item is)
    ∙ ap (λ (b : Bool). cond b (Err Base) (Ok (first_word size parts, fpage_word (fpage_of item)))) (sym inside)
    ∙ ap (λ (r : Result ℕ Reason). r >>= behind_pages size parts) (pages_are size parts.pages parts.rights (fpage_of item) is.fpage)

pub item_beyond : (size : PageSize) (parts : ItemParts) (f : Fpage) → IsFpageOf size parts.pages parts.rights f → space_pages size ≤ parts.base → Err Base ≡ parts_words size parts
unfolding parts_words behind_pages
item_beyond size parts f is beyond =
    let outside : nat_le (space_pages size) parts.base ≡ true = grind (arith, nat_tests) in
    ap (λ (b : Bool). cond b (Err Base) (Ok (first_word size parts, fpage_word f))) (sym outside)
    ∙ ap (λ (r : Result ℕ Reason). r >>= behind_pages size parts) (pages_are size parts.pages parts.rights f is)

pub item_fails : (size : PageSize) (parts : ItemParts) (reason : Reason) → Err reason ≡ pages_word size parts.pages parts.rights → Err reason ≡ parts_words size parts
unfolding parts_words behind_pages
item_fails size parts reason fails = ap (λ (r : Result ℕ Reason). r >>= behind_pages size parts) fails

-- ---- the words of tokens

pub fpage_read : (size : PageSize) (token : List ℕ) (parts : FpageParts) (word : ℕ) → Ok parts ≡ fpage_in token → Ok word ≡ pages_word size parts.pages parts.rights → Ok word ≡ fpage_word_in size token
unfolding fpage_word_in
fpage_read size token parts word e is = is ∙ ap (λ (r : Result FpageParts Reason). r >>= λ p. pages_word size p.pages p.rights) e

pub fpage_unread : (size : PageSize) (token : List ℕ) (reason : Reason) → Err reason ≡ fpage_in token → Err reason ≡ fpage_word_in size token
unfolding fpage_word_in
fpage_unread size token reason e = ap (λ (r : Result FpageParts Reason). r >>= λ p. pages_word size p.pages p.rights) e

pub fpage_failed : (size : PageSize) (token : List ℕ) (parts : FpageParts) (reason : Reason) → Ok parts ≡ fpage_in token → Err reason ≡ pages_word size parts.pages parts.rights → Err reason ≡ fpage_word_in size token
unfolding fpage_word_in
fpage_failed size token parts reason e is = is ∙ ap (λ (r : Result FpageParts Reason). r >>= λ p. pages_word size p.pages p.rights) e

pub window_read : (size : PageSize) (token : List ℕ) (parts : WindowParts) (word : ℕ) → Ok parts ≡ window_in token → Ok word ≡ window_word_of size parts → Ok word ≡ window_word_in size token
unfolding window_word_in
window_read size token parts word e is = is ∙ ap (λ (r : Result WindowParts Reason). r >>= window_word_of size) e

pub window_unread : (size : PageSize) (token : List ℕ) (reason : Reason) → Err reason ≡ window_in token → Err reason ≡ window_word_in size token
unfolding window_word_in
window_unread size token reason e = ap (λ (r : Result WindowParts Reason). r >>= window_word_of size) e

pub window_failed : (size : PageSize) (token : List ℕ) (parts : WindowParts) (reason : Reason) → Ok parts ≡ window_in token → Err reason ≡ window_word_of size parts → Err reason ≡ window_word_in size token
unfolding window_word_in
window_failed size token parts reason e is = is ∙ ap (λ (r : Result WindowParts Reason). r >>= window_word_of size) e

pub item_read : (size : PageSize) (token : List ℕ) (parts : ItemParts) (word : ℕ × ℕ) → Ok parts ≡ item_in token → Ok word ≡ parts_words size parts → Ok word ≡ item_words_in size token
unfolding item_words_in
item_read size token parts word e is = is ∙ ap (λ (r : Result ItemParts Reason). r >>= parts_words size) e

pub item_unread : (size : PageSize) (token : List ℕ) (reason : Reason) → Err reason ≡ item_in token → Err reason ≡ item_words_in size token
unfolding item_words_in
item_unread size token reason e = ap (λ (r : Result ItemParts Reason). r >>= parts_words size) e

pub item_failed : (size : PageSize) (token : List ℕ) (parts : ItemParts) (reason : Reason) → Ok parts ≡ item_in token → Err reason ≡ parts_words size parts → Err reason ≡ item_words_in size token
unfolding item_words_in
item_failed size token parts reason e is = is ∙ ap (λ (r : Result ItemParts Reason). r >>= parts_words size) e
