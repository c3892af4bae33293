-- The exit statuses of the commands of l4, by how their work ended (this profile's own).
use Rattle.std.specs.Prelude.{ℕ, Bool, true, false, Result, Ok, Err, is_some, if◌then◌else◌}
use Rattle.l4_expectations.specs.declared.outcomes.Failure.{Failure}
use Rattle.l4_expectations.specs.declared.outcomes.Failure.TheVariants.{Differs, Refused as RefusedTest, NoExpectations, Malformed, Stopped as StoppedTest}
use Rattle.l4_expectations.specs.declared.outcomes.Passed.{Passed}
use Rattle.l4_programs.specs.Statuses.{run_status}
use Rattle.l4_plan_lines.specs.Answers.{is_proved}
use Rattle.l4_plan_lines.specs.declared.answers.Answer.{Answer}
use Rattle.l4_sinks.specs.declared.scripts.Ended.{Ended}
use Rattle.l4_judging.specs.declared.judging.JudgeFault.{JudgeFault}
use Rattle.l4_judging.specs.declared.judging.JudgeFault.TheVariants.{List as OfList, Uncompared}
use Rattle.l4_step_lines.specs.declared.running.Fault.{Fault}
use Rattle.l4_step_lines.specs.declared.running.Fault.TheVariants.{Stopped}
use Rattle.l4_text.specs.declared.faults.RunFault.{RunFault}
use Rattle.l4_saved.specs.declared.following.HistoryFault.{HistoryFault}
use Rattle.l4_saved.specs.declared.following.HistoryFault.TheVariants.{Memory, Write, NotNext, OtherAnswer}
use Rattle.l4_history.specs.declared.asking.WhyResult.{WhyResult}
use Rattle.l4_history.specs.declared.asking.WhyResult.TheVariants.{Told, Refused}
use Rattle.l4_history.specs.declared.asking.Presence.{Presence}
use Rattle.l4_history.specs.declared.asking.Presence.TheVariants.{Present, Absent, NoThread}

-- run and history: 1 where a refused line ended a strict script
abbrev pub script_status : Result Ended RunFault → ℕ
script_status (Ok ended) = if is_some ended.refused then 1 else 0
script_status (Err fault) = run_status fault

-- history --from: 2 where the entries are not a legal history
abbrev pub history_status : Result (Unit {0}) HistoryFault → ℕ
history_status (Ok done) = 0
history_status (Err Memory) = 4
history_status (Err Write) = 3
history_status (Err (NotNext number)) = 2
history_status (Err (OtherAnswer number)) = 2

-- test: 1 where an answer is not the expected one, or a refusal is not expected; 2 where nothing is expected, or a line cannot be part of a test
abbrev pub test_status : Result Passed Failure → ℕ
test_status (Ok passed) = 0
test_status (Err (Differs difference)) = 1
test_status (Err (RefusedTest refusal)) = 1
test_status (Err NoExpectations) = 2
test_status (Err (Malformed number fault)) = 2
test_status (Err (StoppedTest fault)) = run_status fault

-- the requests that a list is judged against: 2 where their list is invalid
abbrev pub requests_status : Fault → ℕ
requests_status (Stopped fault) = run_status fault
requests_status fault = 2

-- judge: 1 where a request or an answer differs, 5 where nothing differs but no answer was compared, 2 where the list is invalid
abbrev pub judged_status : Result Bool JudgeFault → ℕ
judged_status (Ok agrees) = if agrees then 0 else 1
judged_status (Err Uncompared) = 5
judged_status (Err (OfList (Stopped fault))) = run_status fault
judged_status (Err fault) = 2

-- 1 where the page is not present, or where there is no such thread
abbrev pub page_status : Presence → ℕ
page_status Present = 0
page_status Absent = 1
page_status NoThread = 1

-- why: the same, and 1 where a refused line ended a strict script
abbrev pub why_status : Result WhyResult RunFault → ℕ
why_status (Ok (Told found)) = page_status found
why_status (Ok (Refused reason)) = 1
why_status (Err fault) = run_status fault

-- why --from: the same, and 2 where the entries are not a legal history
abbrev pub saved_why_status : Result Presence HistoryFault → ℕ
saved_why_status (Ok found) = page_status found
saved_why_status (Err fault) = history_status (Err fault)

-- plan: 1 where there is no plan
abbrev pub plan_status : Result Bool RunFault → ℕ
plan_status (Ok is_plan) = if is_plan then 0 else 1
plan_status (Err fault) = run_status fault

-- check: 1 where the plan is not proved
abbrev pub check_status : Result Answer RunFault → ℕ
check_status (Ok answer) = if is_proved answer then 0 else 1
check_status (Err fault) = run_status fault

-- decode and encode: 0 where the text is written
abbrev pub text_status : Result (Unit {0}) RunFault → ℕ
text_status (Ok done) = 0
text_status (Err fault) = run_status fault
