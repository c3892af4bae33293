-- A search from the first state of a plan finds the outcomes of all orders: no premise about turns is left.
use Rattle.std.proofs.Common.{ℕ, Result, Ok, Err, OnOk}
use Rattle.std.specs.List.{All}
use Rattle.l4_fpage.specs.declared.sizes.PageSize.{PageSize}
use Rattle.l4_merges.specs.declared.exploring.Explored.{Explored}
use Rattle.l4_merges.specs.Graphs.{IsGraph}
use Rattle.l4_merges.specs.Orders.{IsSound, AreDistinct, IsComplete, CountsOrders}
use Rattle.l4_orders.specs.declared.plans.Plan.{Plan}
use Rattle.l4_orders.specs.Orders.{IsStart, CountsStates, FindsOrders}
use Rattle.l4_orders.specs.Turns.{PlanPoint, may_turn, Turns, next_line, HasOutcome}
use Rattle.l4_orders.specs.Witnesses.{IsWitness}
use Rattle.l4_orders.proofs.Leaving.{turns_leave_one}
use Rattle.l4_orders.proofs.Unique.{each_found}

on_ok : {T E : Type 0} {A B : Type 0} (r : Result T E) → (A → B) → OnOk r A → OnOk r B
on_ok (Ok x) f h = f h
on_ok (Err e) f h = tt

pub finds_orders : (frames : ℕ) (size : PageSize) (plan : Plan) (most : ℕ) (start : PlanPoint) (explored : Explored) → IsStart frames size plan start
    → All (IsWitness frames size plan) explored.found.items → IsSound may_turn Turns HasOutcome start explored.found.items → AreDistinct explored.found.items
    → OnOk explored.ended (CountsOrders may_turn Turns start explored.orders) → OnOk explored.ended (IsComplete may_turn Turns HasOutcome start explored.found.items)
    → OnOk explored.ended (IsGraph may_turn Turns next_line HasOutcome start explored.found.items explored.seen.items explored.start) → CountsStates start most explored
    → FindsOrders frames size plan most explored
finds_orders frames size plan most start explored starts witnesses sound distinct counts complete drawn states = record {
  start = start;
  starts = starts;
  witnesses = witnesses;
  sound = sound;
  distinct = distinct;
  drawn = drawn;
  complete = on_ok explored.ended (λ all. all (turns_leave_one frames size plan start starts)) complete;
  all = on_ok explored.ended (λ all read order end outcome is has. each_found frames size plan start explored.found.items read starts order end is (all (turns_leave_one frames size plan start starts) order end is) outcome has) complete;
  counted = on_ok explored.ended (λ all. all (turns_leave_one frames size plan start starts)) counts;
  states = states;
}
