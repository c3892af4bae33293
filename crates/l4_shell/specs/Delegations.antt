-- The words that a delegation sends, or the reason why its region has no plan or its plan no such message (this profile's own).
use Rattle.std.specs.Prelude.{◌≡◌, ◌≢◌, ℕ, ◌<◌, ◌≤◌, List, length}
use Rattle.l4_fpage.specs.declared.sizes.PageSize.{PageSize}
use Rattle.l4_msg.specs.Regions.{IsEmpty, InSpace, IsOutOfSpace, HasNoRights, messages_of, part_of_list}
use Rattle.l4_msg.specs.declared.regions.Region.{Region}
use Rattle.l4_plan.specs.Plan.{Listing}
use Rattle.l4_plan.specs.declared.plans.PlanRefusal.{PlanRefusal}
use Rattle.l4_plan.specs.declared.plans.PlanRefusal.TheVariants.{Empty, OutOfSpace, NoRights, TooLong, Several, NoPart}
use Rattle.l4_plan.specs.Shortest.{IsShortest, IsTooLong}
use Rattle.l4_plan_lines.specs.Plans.{sending_words}
use Rattle.l4_commands.specs.declared.requests.Which.{Which}
use Rattle.l4_commands.specs.declared.requests.Which.TheVariants.{Only, Message}

-- the words of this message of the shortest list of map items that moves exactly the region, for pages of this size: of the only message, or
-- of the one with this number, from 0
abbrev pub ArePlanWords : PageSize → Region → Which → List ℕ → Type 0
ArePlanWords size r Only words = (p : Listing) × IsShortest size r p × (messages_of (length p.items) ≡ 1) × (words ≡ sending_words p.items)
ArePlanWords size r (Message number) words =
    (p : Listing) × IsShortest size r p × (number < messages_of (length p.items)) × (words ≡ sending_words (part_of_list p.items number))

-- The reason why a region has no plan, or its plan no such message. Each reason applies only if none of the earlier ones does. If the plan
-- has more than one message, or none with this number, the refusal has the number of its messages.
abbrev pub HasNoPlan : PageSize → Region → Which → PlanRefusal → Type 0
HasNoPlan size r which Empty = IsEmpty r
HasNoPlan size r which OutOfSpace = (0 < r.count) × IsOutOfSpace size r
HasNoPlan size r which NoRights = (0 < r.count) × InSpace size r × HasNoRights r
HasNoPlan size r which (TooLong pages) = IsTooLong size r pages
HasNoPlan size r Only (Several messages) = (p : Listing) × IsShortest size r p × (messages ≡ messages_of (length p.items)) × (messages ≢ 1)
HasNoPlan size r (Message number) (NoPart messages) =
    (p : Listing) × IsShortest size r p × (messages ≡ messages_of (length p.items)) × (messages ≤ number)
HasNoPlan size r which refusal = ⊥
