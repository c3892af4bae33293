-- Turns of threads and of the environment, whose lines a script answers (this profile's own).
use Rattle.std.specs.Prelude.{◌≡◌, ℕ, ◌+◌, ◌-◌, Bool, true, false, not, if◌then◌else◌, List, [], ◌∷◌, ◌++◌, length, slice_get, Some, None, codes, decimal, refl}
use Rattle.std.specs.Coded.{Coded, code_by, coded×, coded_ℕ, coded_list}
use Rattle.std.specs.Option.{option_map_or}
use Rattle.l4_threads.specs.Threads.{Threads, state_of, is_running, runs}
use Rattle.l4_threads.specs.declared.Thread.{Thread}
use Rattle.l4_ipc.specs.Machine.{Machine, machine_code}
use Rattle.l4_servers.specs.Servers.{Servers, servers_code}
use Rattle.l4_names.specs.Names.{Names}
use Rattle.l4_names.specs.declared.names.NamedThread.{NamedThread}
use Rattle.l4_pager.specs.declared.regions.Entry.{Entry}
use Rattle.l4_text.specs.declared.lines.Ending.TheVariants.{Whole}
use Rattle.l4_answers.specs.Reports.{Report}
use Rattle.l4_shell.specs.Lacking.{LacksNothing}
use Rattle.l4_commands.specs.Requests.{asked_at}
use Rattle.l4_shell.specs.Sessions.{State, AnswersLine}
use Rattle.l4_sinks.specs.Texts.{AreAnswerTexts}
use Rattle.l4_orders.specs.declared.plans.Block.{Block}
use Rattle.l4_orders.specs.declared.plans.Plan.{Plan}
use Rattle.l4_orders.specs.declared.plans.PlanLine.{PlanLine}
use Rattle.l4_orders.specs.Plans.{line_at, next_of, cancels_at, gone_with}

-- STATES

-- A state of a plan: the lines, everything that the answers to later lines depend on, and how many lines each thread has executed. The
-- history, and the count that was reported last, are no part of it.
pub record PlanPoint : Type 0 where
  pub plan : Plan
  pub machine : Machine
  pub servers : Servers
  pub numbers : List ℕ
  pub names : Names
  pub gone : List ℕ

abbrev pub point_code : Coded Plan → Coded Thread → Coded Entry → Coded NamedThread → Coded PlanPoint
point_code plan thread entry named =
    code_by (Plan × (Machine × (Servers × (List ℕ × (Names × List ℕ)))))
    (coded× plan (coded× (machine_code thread) (coded× (servers_code entry) (coded× (coded_list coded_ℕ) (coded× (coded_list named) (coded_list coded_ℕ))))))
    (λ p. (p.plan, (p.machine, (p.servers, (p.numbers, (p.names, p.gone))))))
    (λ t. record { plan = t.0; machine = t.1.0; servers = t.1.1.0; numbers = t.1.1.1.0; names = t.1.1.1.1.0; gone = t.1.1.1.1.1 }) (λ _. refl)

-- this state of a script
abbrev pub point : Plan → State → List ℕ → PlanPoint
point plan s gone =
    record { plan = plan; machine = s.session.machine; servers = s.session.servers; numbers = s.session.numbers; names = s.names; gone = gone }

-- a script in this state, with any history
pub record IsAt (p : PlanPoint) (s : State) : Type 0 where
  pub machine : s.session.machine ≡ p.machine
  pub servers : s.session.servers ≡ p.servers
  pub numbers : s.session.numbers ≡ p.numbers
  pub names : s.names ≡ p.names

-- LINES

abbrev pub sum : List ℕ → ℕ
sum [] = 0
sum (n ∷ ns) = n + sum ns

-- the number of the next line, in a script of the lines that were executed
abbrev pub line_of : PlanPoint → ℕ
line_of p = length p.plan.first.items + sum p.gone + 1

-- the line is answered, and no answer reports that memory ran out or that the history is full
abbrev pub AnswersWell : State → ℕ → List ℕ → State → Type 0
AnswersWell old line bytes new = (told : List Report) × AnswersLine old line (asked_at old.session.machine.size old.names Whole bytes) told new × LacksNothing told

-- the lines are answered in their order, and the first one has this number
abbrev pub AnswersInTurn : State → ℕ → List PlanLine → List Report → State → Type 0
AnswersInTurn old number [] told new = (told ≡ []) × (new ≡ old)
AnswersInTurn old number (line ∷ lines) told new =
    (first : List Report) × (rest : List Report) × (between : State) × AnswersLine old number (asked_at old.session.machine.size old.names Whole line.bytes.items) first between
    × AnswersInTurn between (number + 1) lines rest new × (told ≡ first ++ rest)

-- TURNS

-- A line of this thread can be executed when the thread runs, and with `cancels`, a line that ends its wait when the thread waits.
abbrev pub is_ready : Threads → Bool → ℕ → Bool
is_ready t true n = option_map_or (λ state. not (is_running state)) (state_of t n) false
is_ready t false n = runs t n

-- a line is left at this place, and the next one can be executed
abbrev pub may_turn : PlanPoint → ℕ → Bool
may_turn p place =
    option_map_or (λ next. is_ready p.machine.threads (cancels_at p.plan.blocks.items place) next.0) (next_of p.plan.blocks.items p.gone place) false

-- the number of the next line at this place
abbrev pub next_line : PlanPoint → ℕ → ℕ
next_line p place = option_map_or (λ line. line.number) (line_at p.plan.blocks.items p.gone place) 0

-- The next line at this place is executed: the line's call, or the step that ends a wait, then all steps that come next, and the acts of served
-- threads, as a script answers the line.
pub record Turns (old : PlanPoint) (place : ℕ) (new : PlanPoint) : Type 0 where
  pub next : ℕ × List ℕ
  pub next_is : next_of old.plan.blocks.items old.gone place ≡ Some next
  pub before : State
  pub at : IsAt old before
  pub after : State
  pub answers : AnswersWell before (line_of old) next.1 after
  pub new_is : new ≡ point old.plan after (gone_with old.gone place)

-- the number of lines that are left
abbrev pub left_in : List Block → List ℕ → ℕ
left_in [] gone = 0
left_in (block ∷ blocks) [] = 0
left_in (block ∷ blocks) (count ∷ gone) = (length block.lines.items - count) + left_in blocks gone

abbrev pub turns_left : PlanPoint → ℕ
turns_left p = left_in p.plan.blocks.items p.gone

-- OUTCOMES

-- the thread is stuck before this line of the plan
abbrev pub stuck_text : ℕ → ℕ → List ℕ
stuck_text thread line = codes "stuck " ++ decimal thread ++ codes " " ++ decimal line ++ codes "\n"

-- If the thread of this block has lines left, it is stuck before the first of them. Lines that end its waits may be left too, as it does not
-- wait, and nothing is stuck.
abbrev pub stuck_line : Block → ℕ → List ℕ
stuck_line block count = if block.cancels then [] else option_map_or (λ line. stuck_text block.thread line.number) (slice_get block.lines.items count) []

abbrev pub stuck_lines : List Block → List ℕ → List ℕ
stuck_lines [] gone = []
stuck_lines (block ∷ blocks) [] = []
stuck_lines (block ∷ blocks) (count ∷ gone) = stuck_line block count ++ stuck_lines blocks gone

-- the text of the answers to the queries, and then which threads are stuck
pub record HasOutcome (p : PlanPoint) (text : List ℕ) : Type 0 where
  pub before : State
  pub at : IsAt p before
  pub told : List Report
  pub after : State
  pub answered : AnswersInTurn before (line_of p) p.plan.queries.items told after
  pub answers : List ℕ
  pub texts : AreAnswerTexts None told answers
  pub text_is : text ≡ answers ++ stuck_lines p.plan.blocks.items p.gone
