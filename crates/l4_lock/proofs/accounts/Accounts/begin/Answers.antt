use Rattle.l4_lock.proofs.Counting.{begun_count, begun_told}
use Rattle.l4_lock.proofs.accounts.Accounts.begin.Goals as goal

pub invariant_of-self : goal.invariant_of-self
invariant_of-self c = begun_count c.self.inside.items.items c.args.self.now c.self.view_is c.args.at c.index_mut.result.now c.requires.at c.index_mut.ensures.value c.begin.result c.begin.new.self c.args.call.now c.args.start c.self.inside.replies c.self.invariant c.requires.none c.begin.ensures

pub returns : goal.returns
returns c = begun_told c.self.inside.items.items c.args.self.now c.self.view_is c.args.at c.index_mut.result.now c.requires.at c.index_mut.ensures.value c.begin.result c.begin.new.self c.args.call.now c.args.start c.begin.ensures
