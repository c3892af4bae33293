-- The sizes of a machine, pages and blocks (this profile's own).
use Rattle.std.specs.Prelude.{◌≡◌, ℕ, ◌+◌, ◌-◌, ◌%◌, ◌^◌, ◌<◌, ◌≤◌, Bool, true, false, refl}
use Rattle.std.specs.Coded.{Coded, code_by, coded_bool}
use Rattle.l4_fpage.specs.declared.sizes.PageSize.{PageSize}
use Rattle.l4_fpage.specs.declared.sizes.PageSize.TheVariants.{Kib4, Kib1}

-- the binary logarithm of the bytes of a page, by the size that was chosen as the machine booted, and these bytes
abbrev pub page_log : PageSize → ℕ
page_log Kib4 = 12
page_log Kib1 = 10

abbrev pub page_bytes : PageSize → ℕ
page_bytes size = 2 ^ page_log size

-- the binary logarithm of the bytes of a space
abbrev pub address_log : ℕ
address_log = 32

-- a space has the pages from 0 on, this many, and the binary logarithm of their number
abbrev pub space_log : PageSize → ℕ
space_log size = address_log - page_log size

abbrev pub space_pages : PageSize → ℕ
space_pages size = 2 ^ space_log size

-- the pages of a space, at most: those of 1,024 bytes, and the binary logarithm of their number
abbrev pub most_log : ℕ
most_log = 22

abbrev pub most_pages : ℕ
most_pages = 2 ^ most_log

-- the frames of a machine, at most
abbrev pub max_frames : ℕ
max_frames = 4096

-- 2 ^ log pages from `first` on are a block: the first is a multiple of 2 ^ log, and there are spaces that have them all (own)
pub record IsBlock (first log : ℕ) : Type 0 where
  pub small : log ≤ most_log
  pub aligned : first % 2 ^ log ≡ 0
  pub inside : first + 2 ^ log ≤ most_pages

-- a space with pages of this size has all pages of the block
abbrev pub LiesIn : PageSize → ℕ → ℕ → Type 0
LiesIn size first log = first + 2 ^ log ≤ space_pages size

-- the page is one of these 2 ^ log pages
pub record InBlock (first log page : ℕ) : Type 0 where
  pub from : first ≤ page
  pub below : page < first + 2 ^ log

-- whether pages are small
abbrev pub is_small : PageSize → Bool
is_small Kib4 = false
is_small Kib1 = true

abbrev pub size_if : Bool → PageSize
size_if false = Kib4
size_if true = Kib1

abbrev pub size_back : (size : PageSize) → size_if (is_small size) ≡ size
size_back Kib4 = refl
size_back Kib1 = refl

-- a size of pages is stored as whether they are small
abbrev pub size_code : Coded PageSize
size_code = code_by Bool coded_bool is_small size_if size_back
