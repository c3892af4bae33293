use Rattle.l4_orders.proofs.Grouping.{unknown_by}
use Rattle.l4_orders.proofs.parts.is_known.Goals as goal

pub returns : goal.returns
returns c = unknown_by c.args.created.now c.args.thread c.is_created.result c.if-thread-eq1.false c.if-thread-eq-ROOT.false c.is_created.ensures
