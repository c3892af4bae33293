-- The items of a plan as functions of its region and of the page size. A plan stores only these two and the number of its items. `plan`
-- ensures that these items are a plan, and that no plan is shorter (this profile's own).
use Rattle.std.specs.Prelude.{ℕ, zero, suc, ◌+◌, ◌*◌, ◌/◌, ◌%◌, ◌^◌, min, Bool, ◌==◌, ◌&&◌, nat_le, if◌then◌else◌, List, [], ◌∷◌}
use Rattle.l4_fpage.proofs.Powers.{rounded_aligned}
use Rattle.l4_fpage.proofs.Known.{size_large, size_small}
use Rattle.l4_fpage.specs.Pages.{page_bytes, page_log, space_log, most_log}
use Rattle.l4_fpage.specs.Rights.{RightsSet}
use Rattle.l4_fpage.specs.declared.fpages.Extent.{Extent}
use Rattle.l4_fpage.specs.declared.fpages.Fpage.{Fpage}
use Rattle.l4_fpage.specs.declared.fpages.Fpage.TheVariants.{Complete, Sized}
use Rattle.l4_fpage.specs.declared.sizes.PageSize.{PageSize}
use Rattle.l4_msg.specs.Regions.{moved}
use Rattle.l4_msg.specs.declared.items.Item.{Item}
use Rattle.l4_msg.specs.declared.items.Item.TheVariants.{Map}
use Rattle.l4_msg.specs.declared.regions.Region.{Region}

-- whether 2 ^ log pages from the page on are aligned, as are their target pages, and end within the region
abbrev pub fits : Region → ℕ → ℕ → Bool
fits r page log = (page % 2 ^ log == 0) && ((moved r page % 2 ^ log == 0) && nat_le (page + 2 ^ log) (r.source + r.count))

-- the greatest log, up to this one, whose block fits; or 0
unfoldable pub largest_up_to : Region → ℕ → ℕ → ℕ
largest_up_to r page zero = 0
largest_up_to r page (suc k) = if fits r page (suc k) then suc k else largest_up_to r page k

-- the log of the largest allowed block that begins at the page
unfoldable pub largest : Region → ℕ → ℕ
largest r page = largest_up_to r page most_log

-- the page after this number of largest allowed blocks, one directly after another from this page on
abbrev pub reached : Region → ℕ → ℕ → ℕ
reached r page zero = page
reached r page (suc n) = reached r (page + 2 ^ largest r page) n

-- the pages at which these blocks begin
abbrev pub starts_from : Region → ℕ → ℕ → List ℕ
starts_from r page zero = []
starts_from r page (suc n) = page ∷ starts_from r (page + 2 ^ largest r page) n

-- the log of the size in bytes of an fpage of 2 ^ log pages; at most 31, because the whole space has an fpage of its own
abbrev pub size_of : PageSize → ℕ → ℕ
size_of size log = min (log + page_log size) 31

-- the fpage of an aligned block of 2 ^ log pages from this page on; for the whole space, the complete fpage
abbrev pub extent_at : PageSize → ℕ → ℕ → RightsSet → Extent
extent_at size page log rights = record {
  base = page * page_bytes size / 2 ^ size_of size log * 2 ^ size_of size log;
  log = size_of size log;
  rights = rights;
  large = size_large size log;
  small = size_small size log;
  aligned = rounded_aligned (size_of size log) (page * page_bytes size);
}

unfoldable pub block_fpage : PageSize → ℕ → ℕ → RightsSet → Fpage
block_fpage size page log rights = if log == space_log size then Complete rights else Sized (extent_at size page log rights)

-- the map item that moves the largest allowed block at the page
abbrev pub item_at : PageSize → Region → ℕ → Item
item_at size r page = Map (moved r page * page_bytes size) (block_fpage size page (largest r page) r.rights)
