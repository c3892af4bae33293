use Rattle.std.proofs.Common.{◌++◌, length, ap, sym, ◌∙◌}
use Rattle.l4_shell.specs.ByLines.{state_of}
use Rattle.l4_orders.specs.Turns.{stuck_lines}
use Rattle.l4_orders.proofs.Filled.{err_on, full_first, full_order}
use Rattle.l4_orders.proofs.Stepping.{gone_long, made_run}
use Rattle.l4_orders.proofs.replaying.replayed.Goals as goal

pub put_all_stuck-requires : goal.put_all_stuck-requires
put_all_stuck-requires c =
    ap (λ l. length l) c.as_slice-3.ensures.value ∙ gone_long c.args.plan.now c.args.order.now c.in_ok-line.gone.items c.in_ok-line.ensures.1 ∙ sym (ap (λ l. length l) c.as_slice-blocks.ensures.value)

pub returns-in-Ok : goal.returns-in-Ok
returns-in-Ok c =
    made_run c.args.plan.now (state_of c.args.script.now) (state_of c.execute_all.new.script) (state_of c.execute_order.new.script) (state_of c.answers.new.script) c.in_ok-first.first c.in_ok-line.line c.as_slice.result.now c.as_slice-2.result.now
    c.args.order.now c.in_ok-line.gone.items c.put_all_stuck.new.out.items c.in_ok-text.text.items c.in_ok-text.ensures.0 c.as_slice.ensures.value c.as_slice-2.ensures.value c.in_ok-first.ensures c.in_ok-line.ensures.0 c.in_ok-line.ensures.1
    c.in_ok-text.ensures.1 c.in_ok-text.ensures.2 (c.in-Ok.ensures ∙ (λ i. c.in_ok-text.text.items ++ stuck_lines (c.as_slice-blocks.ensures.value i) (c.as_slice-3.ensures.value i)))

pub returns-in_err-first : goal.returns-in_err-first
returns-in_err-first c = err_on c.from_residual.result _ _ _ c.from_residual.ensures.1 (λ full. full_first c.args.plan.now _ _ c.args.order.now c.as_slice.ensures.value (c.in_err-first.ensures full))

pub returns-in_err-line : goal.returns-in_err-line
returns-in_err-line c =
    err_on c.from_residual-in_err-line.result _ _ _ c.from_residual-in_err-line.ensures.1 (λ full. full_order c.args.plan.now _ _ _ _ c.args.order.now c.as_slice.ensures.value c.in_ok-first.ensures (c.in_err-line.ensures full))
