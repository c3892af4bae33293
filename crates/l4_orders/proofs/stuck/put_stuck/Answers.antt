use Rattle.std.proofs.Common.{sym}
use Rattle.l4_orders.proofs.Sticking.{stuck_before, not_stuck, never_stuck}
use Rattle.l4_orders.proofs.stuck.put_stuck.Goals as goal

pub returns-then-block : goal.returns-then-block
returns-then-block c = never_stuck _ c.args.block.now c.args.gone (sym c.if-block.true)

pub returns : goal.returns
returns c = stuck_before c.put_text.result _ _ c.args.block.now c.args.gone c.in-Some.line.now (sym c.if-block.false) c.in-Some.ensures c.put_text.ensures

pub returns-in_default : goal.returns-in_default
returns-in_default c = not_stuck _ c.args.block.now c.args.gone (sym c.if-block.false) c.in_default.ensures
