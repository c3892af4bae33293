-- Facts about the two sizes of pages.
use Rattle.std.proofs.Common.{◌≡◌, ℕ, ◌+◌, ◌*◌, ◌/◌, ◌%◌, ◌^◌, ◌<◌, ◌≤◌, inl, inr, arith}
use Rattle.std.proofs.lemmas.Bool.{cases_lt}
use Rattle.std.proofs.lemmas.Nat.{pow_below}
use Rattle.l4_fpage.specs.declared.sizes.PageSize.{PageSize}
use Rattle.l4_fpage.specs.declared.sizes.PageSize.TheVariants.{Kib4, Kib1}
use Rattle.l4_fpage.specs.Pages.{page_log, page_bytes, space_log, space_pages, most_pages, max_frames}

pub log_large : (size : PageSize) → 10 ≤ page_log size
log_large Kib4 = omega arith
log_large Kib1 = omega arith

pub log_small : (size : PageSize) → page_log size ≤ 12
log_small Kib4 = omega arith
log_small Kib1 = omega arith

pub space_log_small : (size : PageSize) → space_log size ≤ 22
space_log_small Kib4 = omega arith
space_log_small Kib1 = omega arith

-- the bytes of a space
pub whole : (size : PageSize) → space_log size + page_log size ≡ 32
whole Kib4 = omega arith
whole Kib1 = omega arith

pub pages_most : (size : PageSize) → space_pages size ≤ most_pages
pages_most Kib4 = omega arith
pages_most Kib1 = omega arith

-- the bytes before a page of the space
pub below_bytes : (size : PageSize) (n : ℕ) → n < space_pages size → n * page_bytes size < 2 ^ 32
below_bytes Kib4 n lt = omega arith
below_bytes Kib1 n lt = omega arith

-- the page of an address
pub below_pages : (size : PageSize) (n : ℕ) → n < 2 ^ 32 → n / page_bytes size < space_pages size
below_pages Kib4 n lt = omega arith
below_pages Kib1 n lt = omega arith

-- no larger block lies in the space
pub log_low : (size : PageSize) (k : ℕ) → 2 ^ k ≤ space_pages size → k ≤ space_log size
log_low size k h = elim (cases_lt (space_log size) k) [ inl lt ↦ absurd (omega (arith, pow_below (space_log size) k lt)) | inr ge ↦ ge ]

-- a page's first byte is whole kilobytes from 0
pub whole_units : (size : PageSize) (n : ℕ) → n * page_bytes size % 1024 ≡ 0
whole_units Kib4 n = omega arith
whole_units Kib1 n = omega arith

-- each frame has a page of its number
pub frames_fit : (size : PageSize) → max_frames ≤ space_pages size
frames_fit Kib4 = omega arith
frames_fit Kib1 = omega arith
