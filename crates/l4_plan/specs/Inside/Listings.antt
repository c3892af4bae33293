-- What a plan and its pages preserve beyond what contracts see of them (this profile's own).
use Rattle.std.specs.Prelude.{◌≡◌, ℕ, ◌+◌, ◌<◌, ◌≤◌, map}
use Rattle.l4_fpage.specs.declared.sizes.PageSize.{PageSize}
use Rattle.l4_fpage.specs.declared.sizes.PageSize.TheVariants.{Kib1}
use Rattle.l4_msg.specs.Regions.{InSpace, IsSound, max_plan_items}
use Rattle.l4_msg.specs.declared.regions.Region.{Region}
use Rattle.l4_plan.specs.Plan.{Listing}
use Rattle.l4_plan.specs.Inside.Split.{reached, starts_from, item_at}

-- Source and target are in the largest space, as they are if they are in a space of any page size. So blocks do not depend on the page
-- size.
abbrev pub InLargestSpace : Region → Type 0
InLargestSpace r = InSpace Kib1 r

-- this number of largest allowed blocks begin in the region, one directly after another from this page on
pub record GoesOn (r : Region) (page blocks : ℕ) : Type 0 where
  pub space : InLargestSpace r
  pub from : r.source ≤ page
  pub within : (i : ℕ) → i < blocks → reached r page i < r.source + r.count

-- this number of largest allowed blocks, from the region's first page on, are all that the region has, and a plan can have as many items
pub record IsAll (size : PageSize) (r : Region) (blocks : ℕ) : Type 0 where
  pub sound : IsSound size r
  pub few : blocks ≤ max_plan_items
  pub within : (i : ℕ) → i < blocks → reached r r.source i < r.source + r.count
  pub end : reached r r.source blocks ≡ r.source + r.count

-- the items that move these blocks, and their first pages
abbrev pub listing : PageSize → Region → ℕ → Listing
listing size r blocks = record { items = map (item_at size r) (starts_from r r.source blocks); pages = starts_from r r.source blocks }
