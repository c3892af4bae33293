use Rattle.l4_orders.proofs.Filled.{err_on, full_next}
use Rattle.l4_orders.proofs.InTurn.{execute_next}
use Rattle.l4_orders.proofs.executing.execute_all.Goals as goal

pub loop-line-preserved : goal.loop-line-preserved
loop-line-preserved c =
    execute_next _ _ _ _ _ _ c.args.lines.now c.loop-line.line-index c.line-item.result _ c.loop-line-test.true c.line-item.is c.as_slice.ensures.value c.loop-line.invariant c.in_ok-execute.ensures c.in_ok-number.ensures

pub returns-in_err-execute : goal.returns-in_err-execute
returns-in_err-execute c =
    err_on c.from_residual.result _ _ _ c.from_residual.ensures.1 (λ full. full_next _ _ _ _ _ c.args.lines.now c.loop-line.line-index c.line-item.result _ c.loop-line-test.true c.line-item.is c.as_slice.ensures.value c.loop-line.invariant (c.in_err-execute.ensures full))
