use Rattle.l4_seated_lock.proofs.Answering.{none_taken, after_take, told_take, told_none}
use Rattle.l4_seated_lock.proofs.seated.SeatedLock.take.Goals as goal

pub returns-in_default-clause-none : goal.returns-in_default-clause-none
returns-in_default-clause-none c =
    none_taken c.self.inside.locked c.args.self.now c.self.view_is c.self.inside.seats.items c.as_slice.result.now c.as_slice.ensures.value c.self.invariant c.args.number c.in_default.ensures

pub invariant_of-self : goal.invariant_of-self
invariant_of-self c =
    after_take c.self.inside.locked c.args.self.now c.self.view_is c.self.inside.seats.items c.as_slice.result.now c.as_slice.ensures.value c.self.invariant c.args.number
    c.in-Some.at c.index_mut.result.now c.in-Some.ensures c.index_mut.ensures.value c.take.new.self c.take.new.seat c.take.result c.take.ensures.some c.take.ensures.none

pub returns-clause-some : goal.returns-clause-some
returns-clause-some c =
    told_take c.self.inside.locked c.args.self.now c.self.view_is c.self.inside.seats.items c.as_slice.result.now c.as_slice.ensures.value c.self.invariant c.args.number
    c.in-Some.at c.index_mut.result.now c.in-Some.ensures c.index_mut.ensures.value c.take.new.self c.take.new.seat c.take.result c.take.ensures.some

pub returns-clause-none : goal.returns-clause-none
returns-clause-none c =
    told_none c.self.inside.locked c.args.self.now c.self.view_is c.self.inside.seats.items c.as_slice.result.now c.as_slice.ensures.value c.self.invariant c.args.number
    c.in-Some.at c.index_mut.result.now c.in-Some.ensures c.index_mut.ensures.value c.take.new.self c.take.new.seat c.take.result c.take.ensures.none
