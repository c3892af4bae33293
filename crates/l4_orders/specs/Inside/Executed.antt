-- Lines that were executed, and queries that were answered, so far.
use Rattle.std.specs.Prelude.{◌≡◌, ℕ, ◌+◌, List, length, None}
use Rattle.l4_answers.specs.Reports.{Report}
use Rattle.l4_shell.specs.Lacking.{LacksNothing}
use Rattle.l4_shell.specs.Sessions.{State}
use Rattle.l4_sinks.specs.Texts.{AreAnswerTexts}
use Rattle.l4_orders.specs.declared.plans.PlanLine.{PlanLine}
use Rattle.l4_orders.specs.Turns.{AnswersInTurn}

-- these lines were executed, and the next line has this number
pub record Executed (s m : State) (first number : ℕ) (lines : List PlanLine) : Type 0 where
  pub told : List Report
  pub answers : AnswersInTurn s first lines told m
  pub well : LacksNothing told
  pub number_is : number ≡ first + length lines

-- these queries were answered with this text, and the next line has this number
pub record Asked (s m : State) (first number : ℕ) (lines : List PlanLine) (text : List ℕ) : Type 0 where
  pub told : List Report
  pub answers : AnswersInTurn s first lines told m
  pub texts : AreAnswerTexts None told text
  pub number_is : number ≡ first + length lines
