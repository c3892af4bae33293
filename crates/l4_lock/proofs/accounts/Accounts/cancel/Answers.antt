use Rattle.std.proofs.Common.{None}
use Rattle.l4_lock.specs.Books.{Book}
use Rattle.l4_lock.proofs.Counting.{cancelled_count, told}
use Rattle.l4_lock.proofs.accounts.Accounts.cancel.Goals as goal

pub invariant_of-self : goal.invariant_of-self
invariant_of-self c = cancelled_count c.self.inside.items.items c.args.self.now c.self.view_is c.args.at c.index_mut.result.now c.requires.at c.index_mut.ensures.value c.cancel.new.self c.self.inside.replies c.self.invariant c.requires.goes_on c.cancel.ensures

pub returns : goal.returns
returns c = told c.self.inside.items.items c.args.self.now c.self.view_is c.args.at c.index_mut.result.now c.requires.at c.index_mut.ensures.value (λ (b : Book). record b { pending = None }) c.cancel.new.self c.cancel.ensures
