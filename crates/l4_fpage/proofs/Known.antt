-- The sizes of fpages of whole pages, and that an fpage is known by its bytes and its rights.
use Rattle.std.proofs.Common.{◌≡◌, ℕ, ◌+◌, ◌≤◌, min, sym, ap, ◌∙◌, arith, Option, Some, None}
use Rattle.l4_fpage.proofs.PageSizes.{log_large}
use Rattle.l4_fpage.proofs.Same.{same_extent}
use Rattle.l4_fpage.specs.Fpages.{Bytes, bytes_of, rights_of}
use Rattle.l4_fpage.specs.Pages.{page_log}
use Rattle.l4_fpage.specs.declared.fpages.Fpage.{Fpage}
use Rattle.l4_fpage.specs.declared.fpages.Fpage.TheVariants.{Nil, Complete, Sized}
use Rattle.l4_fpage.specs.declared.sizes.PageSize.{PageSize}

pub size_large : (size : PageSize) (log : ℕ) → 10 ≤ min (log + page_log size) 31
size_large size log = omega (arith, log_large size)

pub size_small : (size : PageSize) (log : ℕ) → min (log + page_log size) 31 ≤ 31
size_small size log = omega arith

log_of : Option Bytes → ℕ
log_of None = 0
log_of (Some b) = b.log

base_of : Option Bytes → ℕ
base_of None = 0
base_of (Some b) = b.base

-- an fpage is known by its bytes and its rights
pub same_fpage : (f g : Fpage) (b : Bytes) → bytes_of f ≡ Some b → bytes_of g ≡ Some b → rights_of f ≡ rights_of g → f ≡ g
unfolding log_of base_of
same_fpage Nil g b x y r = absurd (cc)
same_fpage (Complete p) Nil b x y r = absurd (cc)
same_fpage (Complete p) (Complete q) b x y r = ap Complete r
same_fpage (Complete p) (Sized e) b x y r = let l : 32 ≡ e.log = ap log_of (x ∙ sym y) in absurd (omega (arith, e.small))
same_fpage (Sized d) Nil b x y r = absurd (cc)
same_fpage (Sized d) (Complete q) b x y r = let l : d.log ≡ 32 = ap log_of (x ∙ sym y) in absurd (omega (arith, d.small))
same_fpage (Sized d) (Sized e) b x y r = ap Sized (same_extent d e (ap base_of (x ∙ sym y)) (ap log_of (x ∙ sym y)) r)
