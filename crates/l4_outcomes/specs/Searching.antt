-- The search of a text (this profile's own).
use Rattle.std.specs.Prelude.{◌≡◌, ◌⊎◌, ℕ, ◌<◌, ◌≤◌, List, Some, Ok, Err, codes}
use Rattle.l4_fpage.specs.Pages.{max_frames}
use Rattle.l4_fpage.specs.declared.sizes.PageSize.{PageSize}
use Rattle.l4_orders.specs.Files.{ReadsPlan}
use Rattle.l4_orders.specs.Filling.{FillsHistory}
use Rattle.l4_orders.specs.Orders.{FindsOrders}
use Rattle.l4_orders.specs.declared.parts.PlanFault.{PlanFault}
use Rattle.l4_orders.specs.declared.plans.Plan.{Plan}
use Rattle.l4_outcomes.specs.Faults.{refused_by, fault_result}
use Rattle.l4_outcomes.specs.declared.faults.SearchResult.{SearchResult}
use Rattle.l4_outcomes.specs.declared.searched.Searched.{Searched}

-- a machine can have this number of frames
abbrev pub HasFrames : ℕ → Type 0
HasFrames frames = (1 ≤ frames) × (frames ≤ max_frames)

abbrev pub HasNoFrames : ℕ → Type 0
HasNoFrames frames = (frames ≡ 0) ⊎ (max_frames < frames)

-- The text is this plan. Each outcome that was found is that of an order, and none was found twice. If the search ended by itself, each outcome
-- of each order was found, and the orders were counted. At most this many states were visited.
abbrev pub IsSearched : ℕ → PageSize → ℕ → List ℕ → Searched → Type 0
IsSearched frames size most text s =
    (rest : List ℕ) × HasFrames frames × ReadsPlan size (Some text) (Some rest) (Ok s.plan) × FindsOrders frames size s.plan most s.explored

-- the text is not a plan
abbrev pub IsNoPlan : PageSize → List ℕ → SearchResult → Type 0
IsNoPlan size text r = (rest : List ℕ) × (fault : PlanFault) × ReadsPlan size (Some text) (Some rest) (Err fault) × (r ≡ fault_result fault)

-- memory ran out (NoMemory), or the script of an order of the plan fills the history (L1)
abbrev pub IsLack : ℕ → PageSize → Plan → SearchResult → Type 0
IsLack frames size plan r = (r ≡ refused_by (codes "NoMemory")) ⊎ ((r ≡ refused_by (codes "L1")) × FillsHistory frames size plan)

-- the text is a plan, whose orders cannot be executed
abbrev pub IsStopped : ℕ → PageSize → List ℕ → SearchResult → Type 0
IsStopped frames size text r = (rest : List ℕ) × (plan : Plan) × ReadsPlan size (Some text) (Some rest) (Ok plan) × IsLack frames size plan r

-- there can be no such machine (K6), or the text is not a plan, or its search stopped before an outcome was found
abbrev pub IsUnsearched : ℕ → PageSize → List ℕ → SearchResult → Type 0
IsUnsearched frames size text r =
    (HasNoFrames frames × (r ≡ refused_by (codes "K6"))) ⊎ (HasFrames frames × (IsNoPlan size text r ⊎ IsStopped frames size text r))
