use Rattle.l4_threads.proofs.DeleteLemmas.{goes_further, goes_here, goes_last}
use Rattle.l4_threads.proofs.entries.place_in_order.Goals as goal

pub loop-i-preserved : goal.loop-i-preserved
loop-i-preserved c = goes_further c.args.list.now c.loop-i.i c.args.number c.loop-i-test.true c.loop-i.invariant c.if-number-list.false

pub returns-then-number-list-clause-place : goal.returns-then-number-list-clause-place
returns-then-number-list-clause-place c = goes_here c.args.list.now c.loop-i.i c.args.number c.loop-i-test.true c.loop-i.invariant c.if-number-list.true

pub returns-clause-place : goal.returns-clause-place
returns-clause-place c = goes_last c.args.list.now c.loop-i.i c.args.number c.loop-i-test.false c.loop-i.auto.i-end c.loop-i.invariant
