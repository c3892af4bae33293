-- Page sizes as C passes them, in bytes (this profile's own).
use Rattle.std.specs.Prelude.{◌≡◌, ◌≢◌, ◌⊎◌, ℕ}
use Rattle.l4_fpage.specs.Pages.{page_bytes}
use Rattle.l4_fpage.specs.declared.sizes.PageSize.{PageSize}

-- no page has this many bytes
abbrev pub IsNoSize : ℕ → Type 0
IsNoSize bytes = (size : PageSize) → bytes ≢ page_bytes size

-- `Goes` holds for the page size of this many bytes; if no page has this many, `Refused` holds
abbrev pub InBytes : ℕ → (PageSize → Type 0) → Type 0 → Type 0
InBytes bytes Goes Refused = ((size : PageSize) × (bytes ≡ page_bytes size) × Goes size) ⊎ (IsNoSize bytes × Refused)
