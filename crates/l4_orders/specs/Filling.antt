-- Scripts of orders that fill the history (this profile's own).
use Rattle.std.specs.Prelude.{◌≡◌, ◌⊎◌, ℕ, true, List, [], ◌++◌}
use Rattle.l4_fpage.specs.declared.sizes.PageSize.{PageSize}
use Rattle.l4_ipc.specs.Machine.{Machine, IsBoot}
use Rattle.l4_answers.specs.Reports.{Report}
use Rattle.l4_merges.specs.Orders.{IsRun}
use Rattle.l4_shell.specs.Room.{any_full}
use Rattle.l4_shell.specs.Sessions.{State, first_state}
use Rattle.l4_orders.specs.declared.plans.Plan.{Plan}
use Rattle.l4_orders.specs.declared.plans.PlanLine.{PlanLine}
use Rattle.l4_orders.specs.Orders.{IsStart}
use Rattle.l4_orders.specs.Telling.{lines_of_order}
use Rattle.l4_orders.specs.Turns.{PlanPoint, may_turn, Turns, AnswersInTurn}

-- the first of these lines are answered in their order from this state, and an answer reports that the history is full
pub record FillsFrom (s : State) (number : ℕ) (lines : List PlanLine) : Type 0 where
  pub first : List PlanLine
  pub later : List PlanLine
  pub parts : lines ≡ first ++ later
  pub told : List Report
  pub last : State
  pub answers : AnswersInTurn s number first told last
  pub full : any_full told ≡ true

-- the lines before `unordered` and those of these turns, or the first of them, fill the history of a script in this state
abbrev pub FillsScript : State → Plan → List ℕ → Type 0
FillsScript s plan turns = FillsFrom s 1 (plan.first.items ++ lines_of_order plan turns)

-- the same over a machine at boot
abbrev pub FillsBy : ℕ → PageSize → Plan → List ℕ → Type 0
FillsBy frames size plan turns = (boot : Machine) × IsBoot frames boot × (boot.size ≡ size) × FillsScript (first_state frames boot) plan turns

-- an order of the plan begins with these turns, each of a thread that can take it when it comes, and they fill the history
pub record FillsOrder (frames : ℕ) (size : PageSize) (plan : Plan) : Type 0 where
  pub start : PlanPoint
  pub starts : IsStart frames size plan start
  pub turns : List ℕ
  pub end : PlanPoint
  pub run : IsRun may_turn Turns start turns end
  pub fills : FillsBy frames size plan turns

-- THE HISTORY IS FILLED: by the lines before `unordered`, or by the script of an order of the plan
abbrev pub FillsHistory : ℕ → PageSize → Plan → Type 0
FillsHistory frames size plan = FillsBy frames size plan [] ⊎ FillsOrder frames size plan
