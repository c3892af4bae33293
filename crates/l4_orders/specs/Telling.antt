-- What `l4 orders` prints (this profile's own).
use Rattle.std.specs.Prelude.{ℕ, ◌+◌, ◌==◌, Bool, if◌then◌else◌, List, [], ◌∷◌, ◌++◌, length, map, Result, Ok, Err, codes, decimal}
use Rattle.std.specs.List.{flat_map}
use Rattle.std.specs.Option.{option_to_list}
use Rattle.l4_naturals.specs.Numerals.{numeral}
use Rattle.l4_merges.specs.declared.exploring.Explored.{Explored}
use Rattle.l4_merges.specs.declared.exploring.GaveUp.{GaveUp}
use Rattle.l4_merges.specs.declared.exploring.GaveUp.TheVariants.{Bound, Memory, Full}
use Rattle.l4_merges.specs.declared.found.Found.{Found}
use Rattle.l4_orders.specs.declared.plans.Block.{Block}
use Rattle.l4_orders.specs.declared.plans.Plan.{Plan}
use Rattle.l4_orders.specs.declared.plans.PlanLine.{PlanLine}
use Rattle.l4_orders.specs.declared.telling.OrderStyle.{OrderStyle}
use Rattle.l4_orders.specs.Plans.{line_at, gone_with, none_gone}

-- THE LINES OF AN ORDER

-- the lines of these turns, one after another, from a state in which each thread has executed this many lines
abbrev pub lines_from : List Block → List ℕ → List ℕ → List PlanLine
lines_from blocks gone [] = []
lines_from blocks gone (place ∷ order) = option_to_list (line_at blocks gone place) ++ lines_from blocks (gone_with gone place) order

abbrev pub lines_of_order : Plan → List ℕ → List PlanLine
lines_of_order plan order = lines_from plan.blocks.items (none_gone plan) order

-- their numbers in the file
abbrev pub line_numbers : Plan → List ℕ → List ℕ
line_numbers plan order = map (λ line. line.number) (lines_of_order plan order)

-- OUTCOMES

-- ` N`, for the line of this number; or where orders are explained, a line of its own with the number and what the line says
abbrev pub number_text : Bool → PlanLine → List ℕ
number_text explain line = if explain then codes "\n  " ++ (decimal line.number ++ (codes ": " ++ line.bytes.items)) else codes " " ++ decimal line.number

-- `order` and the numbers of its lines
abbrev pub order_text : Plan → Bool → List ℕ → List ℕ
order_text plan explain order = codes "order" ++ flat_map (number_text explain) (lines_of_order plan order) ++ codes "\n"

-- `outcome N`, the outcome, and unless the style is brief an order that produces it
abbrev pub outcome_text : Plan → OrderStyle → ℕ → Found → List ℕ
outcome_text plan style number one =
    codes "outcome " ++ decimal number ++ codes "\n" ++ one.outcome.items ++ (if style.brief then [] else order_text plan style.explain one.order.items)

-- the outcomes, of which the first has this number
abbrev pub outcomes_text : Plan → OrderStyle → ℕ → List Found → List ℕ
outcomes_text plan style number [] = []
outcomes_text plan style number (one ∷ found) = outcome_text plan style number one ++ outcomes_text plan style (number + 1) found

-- THE SUMMARY

-- a number of things with this name
abbrev pub counted_text : ℕ → List ℕ → List ℕ
counted_text number name = decimal number ++ name ++ (if number == 1 then [] else codes "s")

-- the number of orders, whatever its size
abbrev pub orders_counted : ℕ → List ℕ
orders_counted number = numeral number ++ codes " order" ++ (if number == 1 then [] else codes "s")

-- why the search ended early: it visited as many states as it may, memory ran out, or the history of an order is full
abbrev pub reason_text : GaveUp → List ℕ
reason_text Bound = codes ", incomplete: most\n"
reason_text Memory = codes ", incomplete: memory\n"
reason_text Full = codes ", incomplete: history\n"

-- the numbers of outcomes, orders and states, or why the search ended early
abbrev pub ended_text : Result (Unit {0}) GaveUp → ℕ → ℕ → List ℕ
ended_text (Ok u) orders states = codes ", " ++ orders_counted orders ++ codes ", " ++ counted_text states (codes " state") ++ codes "\n"
ended_text (Err why) orders states = codes ", " ++ counted_text states (codes " state") ++ reason_text why

abbrev pub summary_text : Explored → List ℕ
summary_text e = counted_text (length e.found.items) (codes " outcome") ++ ended_text e.ended e.orders e.states

-- all that is printed of a search
abbrev pub orders_text : Plan → Explored → OrderStyle → List ℕ
orders_text plan e style = outcomes_text plan style 1 e.found.items ++ summary_text e

-- WITNESSES

-- the beginning, the lines of an order, and the queries
abbrev pub witness_lines : Plan → List ℕ → List PlanLine
witness_lines plan order = plan.first.items ++ lines_of_order plan order ++ plan.queries.items

-- the line with a newline
abbrev pub line_text : PlanLine → List ℕ
line_text line = line.bytes.items ++ 10 ∷ []

-- the script of an order
abbrev pub witness_text : Plan → List ℕ → List ℕ
witness_text plan order = flat_map line_text (witness_lines plan order)
