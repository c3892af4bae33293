-- The bytes of a page.
use Rattle.std.proofs.Common.{ℕ, ◌≢◌}
use Rattle.l4_fpage.specs.declared.sizes.PageSize.TheVariants.{Kib4, Kib1}
use Rattle.l4_c_values.specs.InBytes.{IsNoSize}

-- no page has other than 4,096 or 1,024 bytes
pub no_size : (bytes : ℕ) → bytes ≢ 4096 → bytes ≢ 1024 → IsNoSize bytes
no_size bytes large small Kib4 = large
no_size bytes large small Kib1 = small
