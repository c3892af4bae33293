use Rattle.std.proofs.Common.{refl}
use Rattle.l4_judging.proofs.Agreement.{agrees_if}
use Rattle.l4_judging.proofs.JudgedLines.{judges_on, judges_not}
use Rattle.l4_judging.proofs.judging.judge.Goals as goal

pub returns-in-Ok-finish-clause-run : goal.returns-in-Ok-finish-clause-run
returns-in-Ok-finish-clause-run g c =
    judges_on c.judge_lines-agrees.result _ _ c.args.wanted _ _ _ _ _ _ _ _ _ c.in-Ok.ensures.0 c.in-Ok.ensures.1 (record { requests = refl; partial = refl; all = refl; keeps_calls = refl; calls = c.new.ensures; expected = refl; steps = refl; answers = refl; differs = refl }) c.new-out.ensures c.judge_lines-agrees.ensures
    c.in-Ok-finish.ensures.ok

pub returns-in-Ok-finish-clause-agreement : goal.returns-in-Ok-finish-clause-agreement
returns-in-Ok-finish-clause-agreement g c =
    agrees_if c.judge_lines-agrees.result _ _ c.args.wanted _ _ _ _
    (judges_on c.judge_lines-agrees.result _ _ c.args.wanted _ _ _ _ _ _ _ _ _ c.in-Ok.ensures.0 c.in-Ok.ensures.1 (record { requests = refl; partial = refl; all = refl; keeps_calls = refl; calls = c.new.ensures; expected = refl; steps = refl; answers = refl; differs = refl }) c.new-out.ensures c.judge_lines-agrees.ensures
    c.in-Ok-finish.ensures.ok)

pub returns-clause-run : goal.returns-clause-run
returns-clause-run g c =
    judges_not c.judge_lines-agrees.result _ _ c.args.wanted _ _ _ _ _ _ _ _ _ c.in-Ok.ensures.0 c.in-Ok.ensures.1 (record { requests = refl; partial = refl; all = refl; keeps_calls = refl; calls = c.new.ensures; expected = refl; steps = refl; answers = refl; differs = refl }) c.new-out.ensures c.judge_lines-agrees.ensures
    c.in-Err.ensures.err.1
