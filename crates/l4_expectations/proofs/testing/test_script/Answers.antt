use Rattle.l4_expectations.proofs.TestedLines.{tests_all}
use Rattle.l4_expectations.proofs.testing.test_script.Goals as goal

pub returns : goal.returns
returns g c = tests_all c.test_lines.result _ _ _ c.in-Some.run' _ _ c.in-Some.ensures c.test_lines.ensures
