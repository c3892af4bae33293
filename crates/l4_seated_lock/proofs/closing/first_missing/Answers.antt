use Rattle.std.proofs.Common.{rules, arith}
use Rattle.l4_seated_lock.proofs.Naming.{next_unnamed, least_unnamed}
use Rattle.l4_seated_lock.proofs.closing.first_missing.Goals as goal

pub loop-i-preserved : goal.loop-i-preserved
loop-i-preserved c =
    next_unnamed c.args.seats.now c.args.numbers.now c.loop-i.i c.number-number.result c.index-seats-i.result c.has_number-back.result _ c.loop-i.found c.keep-found.result
    c.loop-i-test.true c.index-seats-i.is c.number-number.ensures c.has_number-back.ensures.has c.has_number-back.ensures.lacks (search rules) (search rules) c.loop-i.invariant c.keep-found.ensures

pub returns : goal.returns
returns c = least_unnamed c.args.seats.now c.args.numbers.now c.loop-i.i c.loop-i.found (let e = c.loop-i-test.false in omega (arith, e)) c.loop-i.invariant
