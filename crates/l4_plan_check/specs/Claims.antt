-- The possible faults of the items and the pages of a plan (this profile's own).
use Rattle.std.specs.Prelude.{◌≡◌, ℕ, ◌+◌, ◌<◌, ◌≤◌, List, length, slice_index}
use Rattle.std.specs.List.{Any, AllWithin, HoldsAt}
use Rattle.l4_fpage.specs.Fpages.{rights_of}
use Rattle.l4_msg.specs.Moves.{ItemMoves, RegionMoves, IsMap, fpage_of, complete}
use Rattle.l4_msg.specs.Regions.{ShareBlock}
use Rattle.l4_msg.specs.declared.items.Item.{Item}
use Rattle.l4_msg.specs.declared.regions.Region.{Region}
use Rattle.l4_fpage.specs.declared.sizes.PageSize.{PageSize}

-- a map item with the region's rights, all of whose moves in a complete window are the region's
pub record IsGoodItem (size : PageSize) (r : Region) (item : Item) : Type 0 where
  pub map : IsMap item
  pub rights : rights_of (fpage_of item) ≡ r.rights
  pub moves : (source target : ℕ) → ItemMoves size item complete source target → RegionMoves r source target

-- the item at i is the first one that is not good
pub record IsFirstBad (size : PageSize) (r : Region) (items : List Item) (i : ℕ) : Type 0 where
  pub place : i < length items
  pub before : AllWithin (IsGoodItem size r) items 0 i
  pub bad : HoldsAt (λ item. IsGoodItem size r item → ⊥) items i

-- some item moves the page, to any target
abbrev pub IsMoved : PageSize → List Item → ℕ → Type 0
IsMoved size items page = (target : ℕ) × Any (λ item. ItemMoves size item complete page target) items

-- the least source page that no item moves
pub record IsLeastGap (size : PageSize) (r : Region) (items : List Item) (page : ℕ) : Type 0 where
  pub from : r.source ≤ page
  pub below : page < r.source + r.count
  pub before : (p : ℕ) → r.source ≤ p → p < page → IsMoved size items p
  pub gap : IsMoved size items page → ⊥

-- the page is a source page of the region
pub record IsInside (r : Region) (page : ℕ) : Type 0 where
  pub from : r.source ≤ page
  pub below : page < r.source + r.count

-- the page at i is the first one outside the source range
pub record IsFirstOutside (r : Region) (pages : List ℕ) (i : ℕ) : Type 0 where
  pub place : i < length pages
  pub before : (k : ℕ) → k < i → IsInside r (slice_index pages k)
  pub outside : IsInside r (slice_index pages i) → ⊥

-- one allowed block contains the page at i and an earlier page
abbrev pub HasPair : Region → List ℕ → ℕ → Type 0
HasPair r pages i = (j : ℕ) × (j < i) × ShareBlock r (slice_index pages j) (slice_index pages i)

-- the page at i is the first one that an allowed block contains together with an earlier page
pub record IsFirstPair (r : Region) (pages : List ℕ) (i : ℕ) : Type 0 where
  pub place : i < length pages
  pub before : (k : ℕ) → k < i → HasPair r pages k → ⊥
  pub pair : HasPair r pages i
