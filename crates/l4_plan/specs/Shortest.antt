-- The plan of a region, and when there is none (this profile's own).
use Rattle.std.specs.Prelude.{◌≡◌, ℕ, ◌+◌, ◌≤◌, List, length}
use Rattle.l4_msg.specs.Regions.{IsSound, IsPlan, IsCertificate, NeedsAtLeast, NeedsMoreThan, max_plan_items}
use Rattle.l4_msg.specs.declared.regions.Region.{Region}
use Rattle.l4_plan.specs.Plan.{Listing}
use Rattle.l4_plan.specs.Largest.{AreFirstStarts}
use Rattle.l4_fpage.specs.declared.sizes.PageSize.{PageSize}

-- A list of at most 1,984 map items that move exactly the region, each as large as possible, and the first pages of its items, which prove
-- that no list is shorter.
pub record IsShortest (size : PageSize) (r : Region) (p : Listing) : Type 0 where
  pub sound : IsSound size r
  pub plan : IsPlan size r p.items p.pages
  pub one_each : length p.pages ≡ length p.items
  pub few : length p.items ≤ max_plan_items
  pub starts : AreFirstStarts r p.pages
  pub shortest : NeedsAtLeast size r (length p.items)

-- one page more than a plan can have items; these pages prove that every list of map items is too long
pub record IsTooLong (size : PageSize) (r : Region) (pages : List ℕ) : Type 0 where
  pub sound : IsSound size r
  pub many : length pages ≡ max_plan_items + 1
  pub certificate : IsCertificate r pages
  pub starts : AreFirstStarts r pages
  pub none : NeedsMoreThan size r max_plan_items
