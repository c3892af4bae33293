-- The exit statuses of a search of all orders (this profile's own).
use Rattle.std.specs.Prelude.{ℕ, ◌==◌, ◌||◌, nat_lt, Bool, true, false, if◌then◌else◌, List, length, Option, Some, None, Result, Ok, Err}
use Rattle.l4_merges.specs.declared.exploring.Explored.{Explored}
use Rattle.l4_merges.specs.declared.machine.Failure.{Failure}
use Rattle.l4_merges.specs.declared.machine.Failure.TheVariants.{Memory as LacksMemory, Full as IsFull}
use Rattle.l4_merges.specs.declared.found.Found.{Found}
use Rattle.l4_merges.specs.declared.exploring.GaveUp.{GaveUp}
use Rattle.l4_merges.specs.declared.exploring.GaveUp.TheVariants.{Bound, Memory, Full}
use Rattle.l4_litmus.specs.declared.faults.TestFault.{TestFault}
use Rattle.l4_litmus.specs.declared.faults.TestFault.TheVariants.{Refused, Stopped}
use Rattle.l4_orders.specs.Rules.{breaks_any}
use Rattle.l4_orders.specs.declared.plans.Plan.{Plan}
use Rattle.l4_programs.specs.Statuses.{run_status}
use Rattle.l4_sinks.specs.declared.reasons.LineRefusal.{LineRefusal}
use Rattle.l4_text.specs.declared.faults.RunFault.TheVariants.{Memory as NoMemory}

-- 1 where not every order was followed, 4 where memory ran out
abbrev pub orders_status : Result (Unit {0}) GaveUp → ℕ
orders_status (Ok done) = 0
orders_status (Err Bound) = 1
orders_status (Err Full) = 1
orders_status (Err Memory) = 4

-- the same by whether an outcome breaks a rule of the test: 1 where one does
abbrev pub ruled_status : Bool → Result (Unit {0}) GaveUp → ℕ
ruled_status true ended = 1
ruled_status false ended = orders_status ended

-- the script of the outcome with this number, from 1: 2 where there is no such outcome; that the outcome breaks a rule is no failure
abbrev pub witness_status : List Found → ℕ → ℕ
witness_status found number = if number == 0 || nat_lt (length found) number then 2 else 0

-- what a search has found: the script of one outcome, or all outcomes
abbrev pub found_status : Option ℕ → Plan → Explored → ℕ
found_status (Some number) plan explored = witness_status explored.found.items number
found_status None plan explored = ruled_status (breaks_any plan explored.found.items) explored.ended

-- no search: 4 where memory ran out, 1 where the script of an order, or the beginning of one, fills the history
abbrev pub failure_status : Failure → ℕ
failure_status LacksMemory = 4
failure_status IsFull = 1

-- why a file with a refused line is not searched: memory that ran out is no fault of the line
abbrev pub refusal_fault : LineRefusal → TestFault
refusal_fault refusal = if refusal.lacks_memory then Stopped NoMemory else Refused refusal.reason

-- a file that is not searched: 4 where memory ran out, else 2
abbrev pub fault_status : TestFault → ℕ
fault_status (Stopped fault) = run_status fault
fault_status fault = 2
