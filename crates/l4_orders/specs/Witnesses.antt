-- The scripts of orders (this profile's own).
use Rattle.std.specs.Prelude.{◌≡◌, ℕ, ◌+◌, List, ◌++◌, length, None}
use Rattle.l4_fpage.specs.declared.sizes.PageSize.{PageSize}
use Rattle.l4_ipc.specs.Machine.{Machine, IsBoot}
use Rattle.l4_answers.specs.Reports.{Report}
use Rattle.l4_merges.specs.declared.found.Found.{Found}
use Rattle.l4_shell.specs.Sessions.{State, first_state}
use Rattle.l4_sinks.specs.Texts.{AreAnswerTexts}
use Rattle.l4_orders.specs.declared.plans.Plan.{Plan}
use Rattle.l4_orders.specs.Plans.{gone_after, none_gone}
use Rattle.l4_orders.specs.Telling.{lines_of_order}
use Rattle.l4_orders.specs.Turns.{AnswersInTurn, stuck_lines}

-- The script of the order is a run from this state: its lines are answered one after another, first those of the beginning, then those of the
-- order, and then the queries. The text of the answers to the queries, and which threads are stuck then, are the outcome.
pub record IsRunTo (first : State) (plan : Plan) (order text : List ℕ) : Type 0 where
  pub earlier : List Report
  pub between : State
  pub executed : AnswersInTurn first 1 (plan.first.items ++ lines_of_order plan order) earlier between
  pub told : List Report
  pub last : State
  pub answered : AnswersInTurn between (1 + length (plan.first.items ++ lines_of_order plan order)) plan.queries.items told last
  pub answers : List ℕ
  pub texts : AreAnswerTexts None told answers
  pub text_is : text ≡ answers ++ stuck_lines plan.blocks.items (gone_after (none_gone plan) order)

-- the same over a machine at boot
abbrev pub IsOutcomeOf : ℕ → PageSize → Plan → List ℕ → List ℕ → Type 0
IsOutcomeOf frames size plan order text =
    (boot : Machine) × IsBoot frames boot × (boot.size ≡ size) × IsRunTo (first_state frames boot) plan order text

-- the script of an order that was found with an outcome has that outcome
abbrev pub IsWitness : ℕ → PageSize → Plan → Found → Type 0
IsWitness frames size plan one = IsOutcomeOf frames size plan one.order.items one.outcome.items
