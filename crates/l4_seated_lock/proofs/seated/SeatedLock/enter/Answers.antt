use Rattle.l4_seated_lock.proofs.Answering.{refused_unseated, after_call, told_call, told_refusal}
use Rattle.l4_seated_lock.proofs.seated.SeatedLock.enter.Goals as goal

pub returns-in_default-clause-err : goal.returns-in_default-clause-err
returns-in_default-clause-err c =
    refused_unseated c.self.inside.locked c.args.self.now c.self.view_is c.self.inside.seats.items c.as_slice.result.now c.as_slice.ensures.value c.self.invariant c.args.number
    c.args.call c.refuse_unseated.result c.in_default.ensures c.refuse_unseated.ensures

pub invariant_of-self : goal.invariant_of-self
invariant_of-self c =
    after_call c.self.inside.locked c.args.self.now c.self.view_is c.self.inside.seats.items c.as_slice.result.now c.as_slice.ensures.value c.self.invariant c.args.number
    c.in-Some.at c.index_mut.result.now c.in-Some.ensures c.index_mut.ensures.value c.enter-entered.new.self c.enter-entered.new.seat
    c.args.call c.enter-entered.result c.law_kept.ensures c.law_kept-2.ensures c.enter-entered.ensures.ok c.enter-entered.ensures.err

pub returns-clause-ok : goal.returns-clause-ok
returns-clause-ok c =
    told_call c.self.inside.locked c.args.self.now c.self.view_is c.self.inside.seats.items c.as_slice.result.now c.as_slice.ensures.value c.self.invariant c.args.number
    c.in-Some.at c.index_mut.result.now c.in-Some.ensures c.index_mut.ensures.value c.enter-entered.new.self c.enter-entered.new.seat
    c.args.call c.enter-entered.result c.law_kept.ensures c.law_kept-2.ensures c.enter-entered.ensures.ok

pub returns-clause-err : goal.returns-clause-err
returns-clause-err c =
    told_refusal c.self.inside.locked c.args.self.now c.self.view_is c.self.inside.seats.items c.as_slice.result.now c.as_slice.ensures.value c.self.invariant c.args.number
    c.in-Some.at c.index_mut.result.now c.in-Some.ensures c.index_mut.ensures.value c.enter-entered.new.self c.enter-entered.new.seat
    c.args.call c.enter-entered.result c.enter-entered.ensures.err
