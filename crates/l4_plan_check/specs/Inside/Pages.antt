-- What the checks of a plan's pages look for, one after another (own).
use Rattle.std.specs.Prelude.{ℕ, ◌+◌, ◌<◌, ◌≤◌, List, length, slice_index}
use Rattle.l4_msg.specs.Moves.{ItemMoves, complete}
use Rattle.l4_msg.specs.declared.items.Item.{Item}
use Rattle.l4_msg.specs.declared.regions.Region.{Region}
use Rattle.l4_plan_check.specs.Claims.{IsMoved, IsInside, IsFirstOutside, HasPair, IsFirstPair}
use Rattle.l4_plan_check.specs.declared.faults.Fault.{Fault as AFault}
use Rattle.l4_plan_check.specs.declared.faults.Fault.TheVariants.{Region as InRegion, Item as InItem, Gap, Count, Page, Pair}
use Rattle.l4_fpage.specs.declared.sizes.PageSize.{PageSize}
use Rattle.l4_fpage.specs.declared.sizes.PageSize.TheVariants.{Kib1}
use Rattle.l4_msg.specs.Regions.{InSpace}

-- the region lies in the largest space that there is
abbrev pub InLargest : Region → Type 0
InLargest r = InSpace Kib1 r

-- each source page of the region is moved
abbrev pub HasNoGap : PageSize → Region → List Item → Type 0
HasNoGap size r items = (page : ℕ) → r.source ≤ page → page < r.source + r.count → IsMoved size items page

-- the item doesn't move the page
abbrev pub LeavesOut : PageSize → ℕ → Item → Type 0
LeavesOut size page item = (target : ℕ) → ItemMoves size item complete page target → ⊥

-- the pages before this place rise
abbrev pub RisesTo : List ℕ → ℕ → Type 0
RisesTo pages n = (j k : ℕ) → j < k → k < n → slice_index pages j < slice_index pages k

-- each page of the list is a source page of the region
abbrev pub AreInside : Region → List ℕ → Type 0
AreInside r pages = (k : ℕ) → k < length pages → IsInside r (slice_index pages k)

-- all pages lie in the source range, and no allowed block holds two
abbrev pub HasNoPageFault : Region → List ℕ → Type 0
HasNoPageFault r pages = AreInside r pages × ((i : ℕ) → i < length pages → HasPair r pages i → ⊥)

-- the fault is the first of those that concern the pages alone
abbrev pub IsPageFault : Region → List ℕ → AFault → Type 0
IsPageFault r pages InRegion = ⊥
IsPageFault r pages (InItem i) = ⊥
IsPageFault r pages (Gap page) = ⊥
IsPageFault r pages Count = ⊥
IsPageFault r pages (Page i) = IsFirstOutside r pages i
IsPageFault r pages (Pair i) = AreInside r pages × IsFirstPair r pages i
