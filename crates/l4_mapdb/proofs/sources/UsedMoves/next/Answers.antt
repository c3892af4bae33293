use Rattle.std.proofs.Common.{◌+◌, sym, arith}
use Rattle.l4_mapdb.specs.Inside.Messages.{turn_in}
use Rattle.l4_mapdb.proofs.Moves.{from_more, from_all, from_found, move_page}
use Rattle.l4_mapdb.proofs.sources.UsedMoves.next.Goals as goal

pub returns-in-Some-clause-gives : goal.returns-in-Some-clause-gives
returns-in-Some-clause-gives c =
    from_found c.args.links.now.entries c.args.from c.args.to c.args.items.now (turn_in c.args.self.now) c.loop-number.number c.loop-number.start c.in-Some.used
    c.in-Some.ensures c.loop-number.invariant.after c.loop-number.invariant.none

pub returns-in-Some-clause-passes : goal.returns-in-Some-clause-passes
returns-in-Some-clause-passes c = λ i. record { item = sym c.in-Some.ensures.item_is i; page = c.in-Some.used.page + 1 }

pub returns-in-Some-clause-fits : goal.returns-in-Some-clause-fits
returns-in-Some-clause-fits c = move_page c.args.links.now.entries c.args.from c.args.to c.args.items.now c.in-Some.used c.in-Some.ensures.moved

pub returns-in-Some-clause-falls : goal.returns-in-Some-clause-falls
returns-in-Some-clause-falls c =
    let fits = move_page c.args.links.now.entries c.args.from c.args.to c.args.items.now c.in-Some.used c.in-Some.ensures.moved in
    let within = c.loop-number-test.true in
    let after = c.loop-number.invariant.after in
    let later = c.in-Some.ensures.after in
    omega (arith, fits, within, after, later)

pub loop-number-preserved : goal.loop-number-preserved
loop-number-preserved c =
    let fits = c.loop-number.invariant.fits in
    let after = c.loop-number.invariant.after in
    record {
      fits = omega arith;
      after = omega (arith, fits, after);
      none = from_more c.args.links.now.entries c.args.from c.args.to c.args.items.now (turn_in c.args.self.now) c.loop-number.number c.loop-number.start c.in_default.ensures c.loop-number.invariant.none;
    }

pub returns-clause-gives : goal.returns-clause-gives
returns-clause-gives c =
    from_all c.args.links.now.entries c.args.from c.args.to c.args.items.now (turn_in c.args.self.now) c.loop-number.number c.loop-number.start (omega (arith, c.loop-number-test.false)) c.loop-number.invariant.none
