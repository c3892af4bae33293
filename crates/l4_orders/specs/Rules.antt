-- The rules of a plan over the outcomes of its orders (this profile's own).
use Rattle.std.specs.Prelude.{ℕ, ◌+◌, Bool, if◌then◌else◌, List, [], ◌∷◌, ◌++◌, codes, decimal}
use Rattle.std.specs.List.{filter, flat_map, list_any}
use Rattle.l4_text.specs.Tokens.{tokens_of}
use Rattle.l4_rules.specs.Rules.{is_broken}
use Rattle.l4_merges.specs.declared.found.Found.{Found}
use Rattle.l4_orders.specs.declared.plans.Plan.{Plan}
use Rattle.l4_orders.specs.declared.plans.PlanLine.{PlanLine}
use Rattle.l4_orders.specs.Telling.{order_text, line_text}

-- the outcome that was found breaks the rule in this line
abbrev pub breaks : Plan → PlanLine → Found → Bool
breaks plan line one = is_broken plan.names (tokens_of line.bytes.items) one.outcome.items

-- one of these outcomes breaks a rule of the plan
abbrev pub breaks_any : Plan → List Found → Bool
breaks_any plan found = list_any (λ line. list_any (λ one. breaks plan line one) found) plan.queries.items

-- WHAT IS PRINTED

-- `broken L K`: the rule in line L is broken by outcome K
abbrev pub head_text : PlanLine → ℕ → List ℕ
head_text line number = codes "broken " ++ decimal line.number ++ codes " " ++ decimal number ++ codes "\n"

-- the same, and then an order that produces the outcome
abbrev pub broken_text : Plan → Bool → PlanLine → ℕ → Found → List ℕ
broken_text plan explain line number one = head_text line number ++ order_text plan explain one.order.items

-- the first of these outcomes that breaks the rule; the first one has this number
abbrev pub first_text : Plan → Bool → PlanLine → ℕ → List Found → List ℕ
first_text plan explain line number [] = []
first_text plan explain line number (one ∷ found) =
    if breaks plan line one then broken_text plan explain line number one else first_text plan explain line (number + 1) found

-- each rule that is broken
abbrev pub rules_text : Plan → Bool → List Found → List ℕ
rules_text plan explain found = flat_map (λ line. first_text plan explain line 1 found) plan.queries.items

-- THE RULES THAT AN OUTCOME BREAKS

-- the lines of the plan whose rule this outcome breaks
abbrev pub broken_rules : Plan → List ℕ → List ℕ
broken_rules plan outcome = flat_map line_text (filter (λ line. is_broken plan.names (tokens_of line.bytes.items) outcome) plan.queries.items)
