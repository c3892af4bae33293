use Rattle.std.proofs.Common.{ap, []}
use Rattle.l4_shell.specs.ByLines.{state_of}
use Rattle.l4_expectations.proofs.TestedLines.{so_far_none, so_far_on, stops_read, ends_all, ends_by, ends_at}
use Rattle.l4_expectations.proofs.testing.test_lines.Goals as goal

pub loop-number-init : goal.loop-number-init
loop-number-init g c = so_far_none _ _ _ _ c.requires (ap (λ p. p.0) c.new-lines.ensures)

pub returns-in-Err : goal.returns-in-Err
returns-in-Err g c = stops_read _ _ _ _ _ _ _ _ _ _ _ _ c.loop-number.invariant c.in-Err.ensures

pub returns-in_default : goal.returns-in_default
returns-in_default g c = ends_all c.test_end.result _ _ _ _ _ _ _ _ _ _ _ _ c.loop-number.invariant c.in-Ok.ensures c.in_default.is c.test_end.ensures

pub returns-in-Err-check_ending : goal.returns-in-Err-check_ending
returns-in-Err-check_ending g c = ends_by c.in-Some.ending _ _ _ _ _ _ _ _ _ _ _ _ _ c.loop-number.invariant c.in-Ok.ensures c.in-Some.is c.in-Err-check_ending.ensures

pub returns-in-Err-test_line : goal.returns-in-Err-test_line
returns-in-Err-test_line g c =
    ends_at _ _ _ _ _ _ _ _ _ _ (state_of c.test_line.new.run) _ c.test_line.new.tested _ c.in-Some.ending _ _ c.loop-number.invariant c.in-Ok.ensures c.in-Some.is (c.in-Ok-check_ending.ensures []) c.line.ensures c.in-Err-test_line.ensures

pub loop-number-preserved : goal.loop-number-preserved
loop-number-preserved g c =
    so_far_on _ _ _ _ _ _ _ _ _ _ _ _ _ _ c.in-Some.ending _ c.loop-number.invariant c.in-Ok.ensures c.in-Some.is (c.in-Ok-check_ending.ensures []) c.line.ensures c.in-Ok-test_line.ensures
