use Rattle.std.proofs.Common.{refl, arith}
use Rattle.l4_seated_lock.proofs.Naming.{next_strange, least_strange}
use Rattle.l4_seated_lock.proofs.closing.first_foreign.Goals as goal

pub loop-i-preserved : goal.loop-i-preserved
loop-i-preserved c =
    next_strange c.args.seats.now c.args.numbers.now c.loop-i.i _ 0 c.is_foreign-foreign.result c.loop-i.found c.keep-found.result
    c.loop-i-test.true refl c.is_foreign-foreign.ensures.foreign c.is_foreign-foreign.ensures.fine c.loop-i.invariant c.keep-found.ensures

pub returns : goal.returns
returns c = least_strange c.args.seats.now c.args.numbers.now c.loop-i.i c.loop-i.found (let e = c.loop-i-test.false in omega (arith, e)) c.loop-i.invariant
