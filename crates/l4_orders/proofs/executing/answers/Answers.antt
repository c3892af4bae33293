use Rattle.std.proofs.Common.{rules}
use Rattle.l4_orders.proofs.InTurn.{ask_next}
use Rattle.l4_orders.proofs.executing.answers.Goals as goal

pub loop-query-preserved : goal.loop-query-preserved
loop-query-preserved c =
    ask_next _ _ _ _ _ _ c.args.queries.now c.loop-query.query-index c.query-item.result _ c.loop-query.text.items c.in-Some.answer.items _ c.loop-query-test.true c.query-item.is c.as_slice.ensures.value c.loop-query.invariant c.in-Some.ensures
    (search rules) c.in_ok-number.ensures
