use Rattle.std.proofs.Common.{refl, subst, false, Some, Err, List, ℕ}
use Rattle.l4_expectations.specs.Tests.{Passes, Tests}
use Rattle.l4_expectations.proofs.CopiedLines.{copies_err, copies_ok, copies_failed}
use Rattle.l4_expectations.proofs.copying.copy_script.Goals as goal

pub returns-in-Err : goal.returns-in-Err
returns-in-Err g c = copies_err c.in-Err.failure _ _ c.in-Some.run' _ _ c.copy_lines.new.self c.in-Some.ensures c.in-Err.ensures

pub returns-in-Ok-test_script : goal.returns-in-Ok-test_script
returns-in-Ok-test_script g c =
    copies_ok _ _ c.in-Some.run' _ _ (Some c.test_script.new.reader.now) c.copy_lines.new.self _ c.in-Some.ensures c.in-Ok.ensures refl
    (subst (λ (t : List ℕ). Passes false c.args.frames c.args.size (Some t) (Some c.test_script.new.reader.now) c.in-Ok-test_script.passed) c.as_slice-rest.ensures.value c.in-Ok-test_script.ensures)

pub returns : goal.returns
returns g c =
    copies_failed c.in-Err-test_script.failure _ _ _ c.in-Some.run' _ _ (Some c.test_script.new.reader.now) c.copy_lines.new.self c.in-Some.ensures c.in-Ok.ensures
    (subst (λ (t : List ℕ). Tests false c.args.frames c.args.size (Some t) (Some c.test_script.new.reader.now) (Err c.in-Err-test_script.failure)) c.as_slice-rest.ensures.value c.in-Err-test_script.ensures) c.copy_failure.ensures
