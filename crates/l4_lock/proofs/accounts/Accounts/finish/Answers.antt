use Rattle.std.proofs.Common.{arith}
use Rattle.l4_lock.proofs.Counting.{settled_some, settled_told, unsettled_told}
use Rattle.l4_lock.proofs.accounts.Accounts.finish.Goals as goal

pub returns-in_default-clause-none : goal.returns-in_default-clause-none
returns-in_default-clause-none c = unsettled_told c.self.inside.items.items c.args.self.now c.self.view_is c.args.at c.index_mut.result.now c.requires.at c.index_mut.ensures.value c.settle.new.account c.args.seat.now c.settle.new.seat c.in_default.ensures.none

pub overflow_sub-self : goal.overflow_sub-self
overflow_sub-self c =
    let one = settled_some c.self.inside.items.items c.args.self.now c.self.view_is c.args.at c.index_mut.result.now c.requires.at c.index_mut.ensures.value c.settle.new.account c.self.inside.replies c.args.seat.now c.settle.new.seat c.in-Some.reply c.self.invariant c.in-Some.ensures.some in
    omega (arith, one)

pub invariant_of-self-2 : goal.invariant_of-self-2
invariant_of-self-2 c =
    let one = settled_some c.self.inside.items.items c.args.self.now c.self.view_is c.args.at c.index_mut.result.now c.requires.at c.index_mut.ensures.value c.settle.new.account c.self.inside.replies c.args.seat.now c.settle.new.seat c.in-Some.reply c.self.invariant c.in-Some.ensures.some in
    omega (arith, one)

pub returns-clause-some : goal.returns-clause-some
returns-clause-some c = settled_told c.self.inside.items.items c.args.self.now c.self.view_is c.args.at c.index_mut.result.now c.requires.at c.index_mut.ensures.value c.settle.new.account c.args.seat.now c.settle.new.seat c.in-Some.reply c.in-Some.ensures.some
