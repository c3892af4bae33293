use Rattle.std.proofs.Common.{arith}
use Rattle.l4_orders.proofs.Turning.{outcomes_next}
use Rattle.l4_orders.proofs.telling.put_outcomes.Goals as goal

pub loop-one-preserved : goal.loop-one-preserved
loop-one-preserved c = (
  (let e = c.in-Some.ensures.1 in let f = c.loop-one.invariant.0 in omega (arith, e, f)),
  outcomes_next c.args.plan.now c.args.style c.args.found.now c.loop-one.one-index c.one-item.result c.loop-one.number _ _ _ c.loop-one-test.true c.one-item.is c.loop-one.invariant.0 c.loop-one.invariant.1 c.in_ok-put_outcome.ensures,
)
