use Rattle.l4_ipc.proofs.Holding.{have_none, have_more, have_all}
use Rattle.l4_ipc.proofs.parts.are_all.Goals as goal

pub loop-number-init : goal.loop-number-init
loop-number-init c = have_none c.args.threads.now c.args.forest.now

pub loop-number-preserved : goal.loop-number-preserved
loop-number-preserved c =
    have_more c.args.threads.now c.args.forest.now c.loop-number.from c.in-Some.number c.in-Some-thread.thread.now c.loop-number.invariant c.in-Some.ensures c.in-Some-thread.ensures
    (c.is_part.ensures.0 c.if-not-is_part.false)

pub returns : goal.returns
returns c = have_all c.args.threads.now c.args.forest.now c.loop-number.from c.loop-number.invariant c.in_default.ensures
