-- Fpages: the bytes that they name, and their words (L4 X.2 manual, Fpages; what a word out of the ordinary is read as is
-- this profile's own).
use Rattle.std.specs.Prelude.{◌≡◌, ℕ, ◌+◌, ◌*◌, ◌/◌, ◌%◌, ◌^◌, ◌<◌, ◌≤◌, Option, Some, None, MatchOption, ◌⊎◌}
use Rattle.l4_fpage.specs.Rights.{RightsSet, no_rights, set_of_bits, bits_of}
use Rattle.l4_fpage.specs.declared.fpages.Fpage.{Fpage}
use Rattle.l4_fpage.specs.declared.fpages.Fpage.TheVariants.{Nil, Complete, Sized}
use Rattle.l4_fpage.specs.Pages.{page_bytes, address_log}
use Rattle.l4_fpage.specs.declared.sizes.PageSize.{PageSize}

-- 2 ^ log bytes from base on
pub record Bytes : Type 0 where
  pub base : ℕ
  pub log : ℕ

-- the bytes that an fpage names, if any; the complete one names all 2 ^ 32
abbrev pub bytes_of : Fpage → Option Bytes
bytes_of Nil = None
bytes_of (Complete r) = Some (record { base = 0; log = address_log })
bytes_of (Sized e) = Some (record { base = e.base; log = e.log })

-- the set of rights that an fpage names
abbrev pub rights_of : Fpage → RightsSet
rights_of Nil = no_rights
rights_of (Complete r) = r
rights_of (Sized e) = e.rights

-- page by page: a page is named where all its bytes are
pub record HasPage (size : PageSize) (b : Bytes) (page : ℕ) : Type 0 where
  pub from : b.base ≤ page * page_bytes size
  pub below : page * page_bytes size + page_bytes size ≤ b.base + 2 ^ b.log

-- the fpage names the page, where pages have this size
abbrev pub HoldsPage : PageSize → Fpage → ℕ → Type 0
HoldsPage size fpage page = MatchOption (bytes_of fpage) ⊥ (λ b. HasPage size b page)

-- THE WORD OF AN FPAGE: the base in units of 1,024 bytes in bits 31 to 10, the log of the size in bits 9 to 4, the
-- rights in bits 2 to 0. Bit 3 means nothing.
abbrev pub size_field : ℕ → ℕ
size_field word = word / 16 % 64

abbrev pub base_field : ℕ → ℕ
base_field word = word / 1024 * 1024

abbrev pub rights_field : ℕ → RightsSet
rights_field word = set_of_bits word

-- what a word is read as: size 0 is nil, sizes 1 (with base 0) and 32 are complete, and of sizes 10 to 31 the base is
-- rounded down to a multiple of the size
abbrev pub ReadsAs : ℕ → Fpage → Type 0
ReadsAs word Nil = size_field word ≡ 0
ReadsAs word (Complete r) = (((size_field word ≡ 1) × (base_field word ≡ 0)) ⊎ (size_field word ≡ 32)) × (r ≡ rights_field word)
ReadsAs word (Sized e) = (e.log ≡ size_field word) × (e.base ≡ base_field word / 2 ^ e.log * 2 ^ e.log) × (e.rights ≡ rights_field word)

-- a word that is no fpage: size 1 with a base, sizes 2 to 9, and sizes from 33 on
abbrev pub IsMalformed : ℕ → Type 0
IsMalformed word = ((size_field word ≡ 1) × (0 < base_field word)) ⊎ (((2 ≤ size_field word) × (size_field word ≤ 9)) ⊎ (33 ≤ size_field word))

-- the word that an fpage is written as: the complete one with size 1, and bit 3 zero
abbrev pub fpage_word : Fpage → ℕ
fpage_word Nil = 0
fpage_word (Complete r) = 16 + bits_of r
fpage_word (Sized e) = e.base + e.log * 16 + bits_of e.rights
