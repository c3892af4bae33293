-- The faults that a claim has, and which of them is reported (this profile's own).
use Rattle.std.specs.Prelude.{◌≢◌, ℕ, ◌+◌, ◌<◌, List, length, ◌⊎◌}
use Rattle.l4_msg.specs.Regions.{IsSound, max_plan_items}
use Rattle.l4_msg.specs.declared.items.Item.{Item}
use Rattle.l4_msg.specs.declared.regions.Region.{Region}
use Rattle.l4_plan_check.specs.Claims.{IsFirstBad, IsLeastGap, IsFirstOutside, IsFirstPair}
use Rattle.l4_plan_check.specs.declared.faults.Fault.{Fault as AFault}
use Rattle.l4_plan_check.specs.declared.faults.Fault.TheVariants.{Region as InRegion, Item as InItem, Gap, Count, Page, Pair}
use Rattle.l4_fpage.specs.declared.sizes.PageSize.{PageSize}

-- a fault of the claim that these items are a plan of the region, and that these pages are its certificate
abbrev pub Holds : PageSize → Region → List Item → List ℕ → AFault → Type 0
Holds size r items pages InRegion = IsSound size r → ⊥
Holds size r items pages (InItem i) = IsFirstBad size r items i
Holds size r items pages (Gap page) = IsLeastGap size r items page
Holds size r items pages Count = (max_plan_items < length items) ⊎ (length pages ≢ length items)
Holds size r items pages (Page i) = IsFirstOutside r pages i
Holds size r items pages (Pair i) = IsFirstPair r pages i

-- the order in which faults are reported: the lowest rank first
abbrev pub rank : AFault → ℕ
rank InRegion = 0
rank (InItem i) = 1
rank (Gap page) = 2
rank Count = 3
rank (Page i) = 4
rank (Pair i) = 5

-- the claim has this fault, and none with a lower rank
pub record IsFirstFault (size : PageSize) (r : Region) (items : List Item) (pages : List ℕ) (fault : AFault) : Type 0 where
  pub holds : Holds size r items pages fault
  pub earlier : (other : AFault) → rank other < rank fault → Holds size r items pages other → ⊥

-- A fault of the claim that these pages, one more than a plan can have items, prove every list of map items to be too long. No such fault
-- is about items.
abbrev pub LongHolds : PageSize → Region → List ℕ → AFault → Type 0
LongHolds size r pages InRegion = IsSound size r → ⊥
LongHolds size r pages (InItem i) = ⊥
LongHolds size r pages (Gap page) = ⊥
LongHolds size r pages Count = length pages ≢ max_plan_items + 1
LongHolds size r pages (Page i) = IsFirstOutside r pages i
LongHolds size r pages (Pair i) = IsFirstPair r pages i

-- the claim has this fault, and none with a lower rank
pub record IsFirstLongFault (size : PageSize) (r : Region) (pages : List ℕ) (fault : AFault) : Type 0 where
  pub holds : LongHolds size r pages fault
  pub earlier : (other : AFault) → rank other < rank fault → LongHolds size r pages other → ⊥
