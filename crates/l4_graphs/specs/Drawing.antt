-- What `l4 orders --dot` prints: a graph in the DOT language (this profile's own).
use Rattle.std.specs.Prelude.{ℕ, zero, suc, ◌+◌, ◌-◌, ◌==◌, false, Option, option_and_then, List, [], ◌∷◌, ◌++◌, length, slice_get, if◌then◌else◌, is_ok, codes, decimal}
use Rattle.std.specs.List.{flat_map, position}
use Rattle.std.specs.Option.{option_map_or}
use Rattle.l4_merges.specs.declared.exploring.Explored.{Explored}
use Rattle.l4_merges.specs.declared.graph.Edge.{Edge}
use Rattle.l4_merges.specs.declared.graph.Seen.{Seen}
use Rattle.l4_orders.specs.declared.plans.Block.{Block}
use Rattle.l4_orders.specs.declared.plans.Plan.{Plan}
use Rattle.l4_orders.specs.declared.plans.PlanLine.{PlanLine}
use Rattle.l4_orders.specs.Rules.{rules_text}
use Rattle.l4_orders.specs.Telling.{summary_text}

-- the number of the state at a place in a list of this length: the last state has number 1
abbrev pub state_text : ℕ → ℕ → List ℕ
state_text count place = decimal (count - place)

-- the line of a block that has this number
abbrev pub line_in : Block → ℕ → Option PlanLine
line_in block number = option_and_then (λ place. slice_get block.lines.items place) (position (λ line. line.number == number) block.lines.items)

-- the line that is executed in a turn
abbrev pub line_of : Plan → Edge → Option PlanLine
line_of plan edge = option_and_then (λ block. line_in block edge.name) (slice_get plan.blocks.items edge.thread)

-- its number, and what it says
abbrev pub call_text : Plan → Edge → List ℕ
call_text plan edge = decimal edge.name ++ option_map_or (λ line. codes ": " ++ line.bytes.items) (line_of plan edge) []

-- a turn in the state at a place, with the line that is executed
abbrev pub edge_text : Plan → ℕ → ℕ → Edge → List ℕ
edge_text plan count place edge =
    state_text count place ++ codes " -> " ++ state_text count edge.to ++ codes " [label=\"" ++ call_text plan edge ++ codes "\"];\n"

-- the state at a place ends an order, which has the outcome at this place
abbrev pub end_text : ℕ → ℕ → ℕ → List ℕ
end_text count place end =
    state_text count place ++ codes " [label=\"" ++ state_text count place ++ codes ": outcome " ++ decimal (end + 1) ++ codes "\", peripheries=2];\n"

-- the turns in the state at a place, or its outcome
abbrev pub node_text : Plan → ℕ → ℕ → Seen → List ℕ
node_text plan count place one = flat_map (edge_text plan count place) one.edges.items ++ option_map_or (end_text count place) one.end []

-- the states below a place, from the last to the first
abbrev pub nodes_below : Plan → ℕ → List Seen → ℕ → List ℕ
nodes_below plan count seen zero = []
nodes_below plan count seen (suc place) =
    option_map_or (node_text plan count place) (slice_get seen place) [] ++ nodes_below plan count seen place

abbrev pub nodes_text : Plan → List Seen → List ℕ
nodes_text plan seen = nodes_below plan (length seen) seen (length seen)

-- an arrow to the state at this place, and all states
abbrev pub states_text : Plan → ℕ → List Seen → List ℕ
states_text plan start seen = codes "start [shape=point];\nstart -> " ++ state_text (length seen) start ++ codes ";\n" ++ nodes_text plan seen

-- the rules that are broken, as a comment
abbrev pub comment_text : List ℕ → List ℕ
comment_text [] = []
comment_text (byte ∷ bytes) = codes "/*\n" ++ ((byte ∷ bytes) ++ codes "*/\n")

-- the summary and the rules that are broken as comments, and the states if every order was followed
abbrev pub graph_text : Plan → Explored → List ℕ
graph_text plan e =
    codes "digraph states {\n// " ++ summary_text e ++ comment_text (rules_text plan false e.found.items)
    ++ (if is_ok e.ended then states_text plan e.start e.seen.items else []) ++ codes "}\n"
