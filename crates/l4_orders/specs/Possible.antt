-- What the rules of a test can name, and the replies for which rules ask (this profile's own).
use Rattle.std.specs.Prelude.{ℕ, ◌&&◌, ◌||◌, Bool, true, false, not, is_some, if◌then◌else◌, Option, Some, None, List, [], ◌∷◌, ◌++◌, codes, decimal}
use Rattle.std.specs.List.{filter, list_all, list_any, flat_map}
use Rattle.std.specs.Option.{option_map_or}
use Rattle.l4_fpage.specs.declared.sizes.PageSize.{PageSize}
use Rattle.l4_names.specs.Names.{Names}
use Rattle.l4_text.specs.Tokens.{tokens_of}
use Rattle.l4_text.specs.declared.lines.Ending.TheVariants.{Whole}
use Rattle.l4_commands.specs.Requests.{asked_at}
use Rattle.l4_rules.specs.Forms.{can_answer, is_stuck}
use Rattle.l4_rules.specs.Queries.{query_of, is_reply_of}
use Rattle.l4_rules.specs.Rules.{rule_answer, over_threads, is_allowance}
use Rattle.l4_orders.specs.declared.plans.Block.{Block}
use Rattle.l4_orders.specs.declared.plans.Plan.{Plan}
use Rattle.l4_orders.specs.declared.plans.PlanLine.{PlanLine}
use Rattle.l4_orders.specs.Reading.{Line, line_in}

-- QUERIES

-- the line queries the reply of the thread
abbrev pub is_asked : PageSize → Names → ℕ → Line → Bool
is_asked size names thread line = option_map_or (λ query. is_reply_of thread query) (query_of (asked_at size names Whole line.bytes)) false

-- THE ANSWERS THAT OUTCOMES CAN HAVE

abbrev pub is_answered : PageSize → Names → List (List ℕ) → PlanLine → Bool
is_answered size names answer line = option_map_or (λ query. can_answer names query answer) (query_of (asked_at size names Whole line.bytes.items)) false

-- the thread is stuck before one of these lines
abbrev pub is_stuck_at : Names → List (List ℕ) → ℕ → List PlanLine → Bool
is_stuck_at names answer thread lines = list_any (λ line. is_stuck names thread line.number answer) lines

-- it is stuck before one of its lines; it never is before those that end its waits
abbrev pub is_stuck_in : Names → List (List ℕ) → Block → Bool
is_stuck_in names answer block = if block.cancels then false else is_stuck_at names answer block.thread block.lines.items

abbrev pub is_told : PageSize → Plan → List (List ℕ) → Bool
is_told size plan answer = list_any (λ line. is_answered size plan.names answer line) plan.queries.items

abbrev pub is_left : Plan → List (List ℕ) → Bool
is_left plan answer = list_any (λ block. is_stuck_in plan.names answer block) plan.blocks.items

-- the answer of a query of the test, or that a thread is stuck before one of its lines
abbrev pub can_have : PageSize → Plan → List (List ℕ) → Bool
can_have size plan answer = is_told size plan answer || is_left plan answer

-- queries ask for the replies of all of these threads
abbrev pub are_asked : PageSize → Plan → List ℕ → Bool
are_asked size plan threads = list_all (λ thread. list_any (λ line. is_asked size plan.names thread (line_in line)) plan.queries.items) threads

-- the rule is about all threads, whose replies are queried, and lets some of them wait; or an outcome can have the answer that it names; or the
-- line is no rule
abbrev pub is_possible : PageSize → Plan → List ℕ → List (List ℕ) → Bool
is_possible size plan threads tokens =
    option_map_or (λ rule. is_allowance plan.names threads rule.1 && are_asked size plan threads) (over_threads tokens)
    (option_map_or (λ answer. can_have size plan answer) (rule_answer tokens) true)

-- the number of the first of these lines whose rule names an answer that no outcome can have
abbrev pub first_impossible : PageSize → Plan → List ℕ → List PlanLine → Option ℕ
first_impossible size plan threads [] = None
first_impossible size plan threads (line ∷ lines) =
    if is_possible size plan threads (tokens_of line.bytes.items) then first_impossible size plan threads lines else Some line.number

-- REPLIES

-- the threads that lines create, and those with lines of their own behind `unordered`
abbrev pub threads_of : List ℕ → List Block → List ℕ
threads_of created blocks = created ++ flat_map (λ block. block.thread ∷ []) (filter (λ block. not block.cancels) blocks)

-- one more query, unless the reply of the thread is queried already; it is no line of the file
abbrev pub reply_line : ℕ → Line
reply_line thread = record { number = 0; bytes = codes "reply " ++ decimal thread }

abbrev pub ask : PageSize → Names → List Line → ℕ → List Line
ask size names queries thread =
    if list_any (λ line. is_asked size names thread line) queries then queries
    else (if is_asked size names thread (reply_line thread) then queries ++ reply_line thread ∷ [] else queries)

abbrev pub ask_all : PageSize → Names → List Line → List ℕ → List Line
ask_all size names queries [] = queries
ask_all size names queries (thread ∷ threads) = ask_all size names (ask size names queries thread) threads

-- the rule is about all threads
abbrev pub is_over_threads : Line → Bool
is_over_threads line = is_some (over_threads (tokens_of line.bytes))

-- the queries of the file; with a rule about all threads, their replies too
abbrev pub all_queries : PageSize → Names → List Line → List ℕ → List Line
all_queries size names queries threads = if list_any (λ line. is_over_threads line) queries then ask_all size names queries threads else queries
