use Rattle.std.proofs.Common.{◌∙◌}
use Rattle.l4_c_queries.proofs.Found.{judged_right, judged_wrong}
use Rattle.l4_c_queries.proofs.tracing.prove_links.Goals as goal

pub returns-in-Ok-true : goal.returns-in-Ok-true
returns-in-Ok-true c =
    judged_right c.args.lock.now c.args.place c.args.given.now c.as_slice.result.now (c.as_slice.ensures.value ∙ c.in-Some.ensures) c.in-Ok-true.field-0 c.verdict_of-in-Ok-true.result c.in-Ok-true.ensures
    c.in-Ok-true.field-0-test c.verdict_of-in-Ok-true.ensures

pub returns-in-Ok-false : goal.returns-in-Ok-false
returns-in-Ok-false c =
    judged_wrong c.args.lock.now c.args.place c.args.given.now c.as_slice.result.now (c.as_slice.ensures.value ∙ c.in-Some.ensures) c.in-Ok-false.field-0 c.verdict_of-in-Ok-false.result c.in-Ok-false.ensures
    c.in-Ok-false.field-0-test c.verdict_of-in-Ok-false.ensures
