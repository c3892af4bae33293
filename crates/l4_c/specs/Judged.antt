-- What was found about another kernel's answer, as C gets it (this profile's own).
use Rattle.std.specs.Prelude.{ℕ, List, [], length, codes, bytes_eq, Option, None, Some, if◌then◌else◌}
use Rattle.l4_ipc.specs.declared.steps.Step.{Step}
use Rattle.l4_judging.specs.declared.watching.Difference.{Difference}
use Rattle.l4_judging.specs.declared.watching.Judgement.{Judgement}
use Rattle.l4_c_values.specs.Told.{filled, no_step_result, next_result}
use Rattle.l4_c_values.specs.declared.results.NextResult.{NextResult}
use Rattle.l4_c.specs.declared.judgements.JudgeResult.{JudgeResult}

-- 1 if the answers agree, 3 if they differ because the kernel refuses the step with K1, and 2 if they differ otherwise
abbrev pub verdict_of : Option Difference → ℕ
verdict_of None = 1
verdict_of (Some difference) = if bytes_eq difference.expected.items (codes "refused K1") then 3 else 2

-- the place of the line that differs
abbrev pub place_of : Option Difference → ℕ
place_of None = 0
place_of (Some difference) = difference.place

-- the kernel's line at that place
abbrev pub expected_of : Option Difference → List ℕ
expected_of None = []
expected_of (Some difference) = difference.expected.items

abbrev pub next_or_none : Option Step → NextResult
next_or_none None = no_step_result 0
next_or_none (Some step) = next_result step

abbrev pub judge_result : Judgement → JudgeResult
judge_result judgement = record {
  refusal = 0;
  verdict = verdict_of judgement.difference;
  place = place_of judgement.difference;
  length = length (expected_of judgement.difference);
  enabled = next_or_none judgement.next;
  reserved = filled 2 [];
}

abbrev pub unjudged_result : ℕ → JudgeResult
unjudged_result code = record { refusal = code; verdict = 0; place = 0; length = 0; enabled = no_step_result 0; reserved = filled 2 [] }
