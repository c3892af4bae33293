-- The outcomes of all orders of a plan (this profile's own).
use Rattle.std.specs.Prelude.{◌≡◌, ℕ, ◌≤◌, length, Err, OnOk, List}
use Rattle.std.specs.List.{All}
use Rattle.l4_fpage.specs.declared.sizes.PageSize.{PageSize}
use Rattle.l4_ipc.specs.Machine.{Machine, IsBoot}
use Rattle.l4_answers.specs.Reports.{Report}
use Rattle.l4_shell.specs.Lacking.{LacksNothing}
use Rattle.l4_shell.specs.Sessions.{State, first_state}
use Rattle.l4_merges.specs.declared.exploring.Explored.{Explored}
use Rattle.l4_merges.specs.declared.exploring.GaveUp.TheVariants.{Bound}
use Rattle.l4_merges.specs.Graphs.{IsGraph, AreToldApart}
use Rattle.l4_merges.specs.Orders.{IsRun, IsOrder, IsFound, IsSound, AreDistinct, AreOrders, FindsEnd, Visits}
use Rattle.l4_orders.specs.declared.plans.Plan.{Plan}
use Rattle.l4_orders.specs.Words.{HasWords}
use Rattle.l4_orders.specs.Plans.{none_gone}
use Rattle.l4_orders.specs.Whole.{IsRead}
use Rattle.l4_orders.specs.Witnesses.{IsWitness}
use Rattle.l4_orders.specs.Turns.{PlanPoint, point, AnswersInTurn, may_turn, Turns, next_line, HasOutcome}

-- the lines before `unordered` were answered in their order over a machine at boot, and no thread has executed any of its lines
pub record IsStart (frames : ℕ) (size : PageSize) (plan : Plan) (start : PlanPoint) : Type 0 where
  pub boot : Machine
  pub boots : IsBoot frames boot
  pub sized : boot.size ≡ size
  pub told : List Report
  pub after : State
  pub answers : AnswersInTurn (first_state frames boot) 1 plan.first.items told after
  pub well : LacksNothing told
  pub is : start ≡ point plan after (none_gone plan)

-- an outcome of every order was found
abbrev pub FindsSome : PlanPoint → Explored → Type 0
FindsSome start explored = (order : List ℕ) (end : PlanPoint) → IsOrder may_turn Turns start order end → FindsEnd HasOutcome end explored.found.items

-- each outcome of each order was found
abbrev pub FindsAll : PlanPoint → Explored → Type 0
FindsAll start explored =
    (order : List ℕ) (end : PlanPoint) (outcome : List ℕ) → IsOrder may_turn Turns start order end → HasOutcome end outcome → IsFound explored.found.items outcome

-- this is the number of all orders
abbrev pub CountsAll : PlanPoint → Explored → Type 0
CountsAll start explored =
    (orders : List (List ℕ)) × AreOrders may_turn Turns start orders × (explored.orders ≡ length orders)

-- the graph has a state for each one that an order reaches, and its turns, each with the line that is executed
abbrev pub DrawsAll : PlanPoint → Explored → Type 0
DrawsAll start explored = IsGraph may_turn Turns next_line HasOutcome start explored.found.items explored.seen.items explored.start

-- The number of states is that of different words of states that orders reach. It is at most this one, and this one if the search ended for that
-- reason. If every order was followed, it is that of the states of the graph, no two of which have the same words.
pub record CountsStates (start : PlanPoint) (most : ℕ) (explored : Explored) : Type 0 where
  pub visits : Visits may_turn Turns HasWords start explored.states
  pub few : explored.states ≤ most
  pub all : OnOk explored.ended (explored.states ≡ length explored.seen.items)
  pub apart : OnOk explored.ended (AreToldApart explored.seen.items)
  pub bound : explored.ended ≡ Err Bound → explored.states ≡ most

-- Each outcome has an order that produces it, whose script is a run with this outcome, and none was found twice. If the search ended by itself, an outcome of every order was found,
-- and the orders were counted. Then the graph of the states is complete. If the plan was read from a file, each outcome of each order was found.
pub record FindsOrders (frames : ℕ) (size : PageSize) (plan : Plan) (most : ℕ) (explored : Explored) : Type 0 where
  pub start : PlanPoint
  pub starts : IsStart frames size plan start
  pub witnesses : All (IsWitness frames size plan) explored.found.items
  pub sound : IsSound may_turn Turns HasOutcome start explored.found.items
  pub distinct : AreDistinct explored.found.items
  pub complete : OnOk explored.ended (FindsSome start explored)
  pub all : OnOk explored.ended (IsRead size plan → FindsAll start explored)
  pub counted : OnOk explored.ended (CountsAll start explored)
  pub drawn : OnOk explored.ended (DrawsAll start explored)
  pub states : CountsStates start most explored

-- a state that an order of the plan reaches has one outcome, if the plan was read from a file
abbrev pub OneOutcome : Type 0
OneOutcome =
    (frames : ℕ) (size : PageSize) (plan : Plan) (start : PlanPoint) → IsRead size plan → IsStart frames size plan start
    → (order : List ℕ) (end : PlanPoint) → IsRun may_turn Turns start order end → (outcome other : List ℕ) → HasOutcome end outcome → HasOutcome end other → outcome ≡ other
