use Rattle.l4_ipc.proofs.Holding.{all_parts}
use Rattle.l4_ipc.proofs.parts.are_parts.Goals as goal

pub returns : goal.returns
returns c =
    all_parts c.args.size c.args.threads.now c.args.forest.now c.new_space-limit.result c.are_all.result c.new_space-limit.ensures c.in_default.ensures
    (c.pages_fit.ensures.0 c.if-not-pages_fit.false) c.are_all.ensures
