use Rattle.l4_lock.proofs.Counting.{one_added}
use Rattle.l4_lock.proofs.accounts.Accounts.add.Goals as goal

pub invariant_of-self-2 : goal.invariant_of-self-2
invariant_of-self-2 c = one_added c.self.inside.items.items c.reserve.new.self.items c.push_reserved.new.self.items c.new.result c.args.number c.self.inside.replies c.self.invariant c.reserve.ensures.items c.new.ensures c.push_reserved.ensures.items
