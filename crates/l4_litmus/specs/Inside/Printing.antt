-- What `l4 orders` prints of a search (this profile's own).
use Rattle.std.specs.Prelude.{ℕ, zero, suc, Bool, true, false, List, [], ◌++◌, slice_get, Option, Some, None}
use Rattle.std.specs.Option.{option_map_or}
use Rattle.l4_graphs.specs.Drawing.{graph_text}
use Rattle.l4_merges.specs.declared.exploring.Explored.{Explored}
use Rattle.l4_merges.specs.declared.found.Found.{Found}
use Rattle.l4_options.specs.declared.requests.OrdersOptions.{OrdersOptions}
use Rattle.l4_orders.specs.Rules.{rules_text}
use Rattle.l4_orders.specs.Telling.{orders_text, witness_text}
use Rattle.l4_orders.specs.declared.plans.Plan.{Plan}
use Rattle.l4_orders.specs.declared.telling.OrderStyle.{OrderStyle}

-- the outcomes and the summary, and then the rules that are broken
abbrev pub found_text : Plan → Explored → OrderStyle → List ℕ
found_text plan e style = orders_text plan e style ++ rules_text plan style.explain e.found.items

-- the script of the outcome with this number, from 1
abbrev pub script_text : Plan → List Found → ℕ → List ℕ
script_text plan found zero = []
script_text plan found (suc index) = option_map_or (λ one. witness_text plan one.order.items) (slice_get found index) []

-- without --witness: the graph, or the outcomes
abbrev pub graph_or_outcomes : Bool → OrdersOptions → Plan → Explored → List ℕ
graph_or_outcomes true asked plan e = graph_text plan e
graph_or_outcomes false asked plan e = found_text plan e (record { brief = asked.brief; explain = asked.explain })

abbrev pub text_of : Option ℕ → OrdersOptions → Plan → Explored → List ℕ
text_of (Some number) asked plan e = script_text plan e.found.items number
text_of None asked plan e = graph_or_outcomes asked.dot asked plan e

abbrev pub requested_text : OrdersOptions → Plan → Explored → List ℕ
requested_text asked plan e = text_of asked.witness asked plan e
