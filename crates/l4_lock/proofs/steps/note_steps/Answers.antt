use Rattle.std.proofs.Common.{◌+◌}
use Rattle.l4_lock.proofs.Appending.{note_more, note_end, note_first}
use Rattle.l4_lock.proofs.Noting.{once_noted}
use Rattle.l4_lock.proofs.steps.note_steps.Goals as goal

pub loop-i-init : goal.loop-i-init
loop-i-init c = (c.requires.once, note_first c.args.kernel.now c.args.place c.args.steps.now c.args.accounts.now.items)

pub loop-i-preserved : goal.loop-i-preserved
loop-i-preserved c = (
  once_noted c.args.kernel.now (c.args.place + c.loop-i.i) _ c.loop-i.accounts.items c.note_next.new.accounts.items c.note_next.ensures c.loop-i.invariant.0,
  note_more c.args.kernel.now c.args.place c.args.steps.now c.loop-i.i _ c.args.accounts.now.items c.loop-i.accounts.items c.note_next.new.accounts.items c.loop-i-test.true c.note_next.ensures c.loop-i.invariant.1,
)

pub returns : goal.returns
returns c = note_end c.args.kernel.now c.args.place c.args.steps.now c.loop-i.i c.args.accounts.now.items c.loop-i.accounts.items c.loop-i-test.false c.loop-i.invariant.1
