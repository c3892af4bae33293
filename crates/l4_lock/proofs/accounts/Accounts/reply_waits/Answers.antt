use Rattle.std.proofs.Common.{sym}
use Rattle.l4_lock.proofs.Counting.{none_waits}
use Rattle.l4_lock.proofs.accounts.Accounts.reply_waits.Goals as goal

pub returns-then-self-eq0 : goal.returns-then-self-eq0
returns-then-self-eq0 c = sym (none_waits c.self.inside.items.items c.args.self.now c.self.view_is c.self.inside.replies c.self.invariant c.if-self-eq0.true c.args.number)
