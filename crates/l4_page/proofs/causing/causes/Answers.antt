use Rattle.l4_answers.proofs.AnswerTexts.{some_left}
use Rattle.std.proofs.Common.{length}
use Rattle.l4_shell.specs.ByLines.{state_of}
use Rattle.l4_page.proofs.Caused.{all_causes, one_cause}
use Rattle.l4_page.proofs.causing.causes.Goals as goal

pub returns-then-is_empty : goal.returns-then-is_empty
returns-then-is_empty c =
    all_causes (state_of c.args.run.now) (state_of c.loop-number.run) c.args.script.now c.loop-number.rest.now c.loop-number.number c.loop-number.causes.items c.is_empty.result
    c.loop-number.invariant c.is_empty.ensures c.if-is_empty.true

pub loop-number-preserved : goal.loop-number-preserved
loop-number-preserved c =
    one_cause (state_of c.args.run.now) (state_of c.loop-number.run) (state_of c.cause_line.new.run) c.args.script.now c.loop-number.rest.now c.later_lines-rest.result.now
    c.first_line-line.result.now c.loop-number.number c.loop-number.causes.items c.cause_line.new.causes.items c.ending_of-ending.result c.loop-number.invariant
    (some_left (length c.loop-number.rest.now) c.is_empty.result c.is_empty.ensures c.if-is_empty.false)
    c.first_line-line.ensures c.later_lines-rest.ensures c.ending_of-ending.ensures c.in_ok-cause_line.ensures
