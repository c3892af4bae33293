use Rattle.std.proofs.Common.{ℕ, ◌+◌, ◌/◌, refl, arith}
use Rattle.l4_naturals.proofs.Adding.{sums_more, sums_low, sum_ended, sum_carried}
use Rattle.l4_naturals.proofs.digits.sum_of.Goals as goal

pub loop-place-preserved : goal.loop-place-preserved
loop-place-preserved c =
    let x = c.digit_at.result in
    let y = c.digit_at-in-loop-place.result in
    let sum = x + y + c.loop-place.carry in
    record {
      same = sums_more c.args.a.now c.args.b.now c.loop-place.digits.items c.push.new.self.items c.max-places.result c.loop-place.place c.loop-place.carry x y sum (sum / 10) c.loop-place-test.true
          c.digit_at.ensures.is c.digit_at-in-loop-place.ensures.is refl c.in_ok-push.ensures.items refl c.loop-place.invariant.same;
      low = sums_low x y c.loop-place.carry sum c.digit_at.ensures.low c.digit_at-in-loop-place.ensures.low c.loop-place.invariant.low refl;
    }

pub returns-then-carry-eq0-clause-digits : goal.returns-then-carry-eq0-clause-digits
returns-then-carry-eq0-clause-digits c =
    (sum_ended c.args.a.now c.args.b.now c.loop-place.digits.items c.max-places.result c.loop-place.place c.loop-place.carry c.requires.a c.requires.b c.max-places.ensures (omega (arith, c.loop-place-test.false))
    c.if-carry-eq0.true c.loop-place.invariant.same).0

pub returns-then-carry-eq0-clause-value : goal.returns-then-carry-eq0-clause-value
returns-then-carry-eq0-clause-value c =
    (sum_ended c.args.a.now c.args.b.now c.loop-place.digits.items c.max-places.result c.loop-place.place c.loop-place.carry c.requires.a c.requires.b c.max-places.ensures (omega (arith, c.loop-place-test.false))
    c.if-carry-eq0.true c.loop-place.invariant.same).1

pub returns-clause-digits : goal.returns-clause-digits
returns-clause-digits c =
    (sum_carried c.args.a.now c.args.b.now c.loop-place.digits.items c.push-2.new.self.items c.max-places.result c.loop-place.place c.loop-place.carry c.requires.a c.requires.b c.max-places.ensures (omega (arith, c.loop-place-test.false))
    c.if-carry-eq0.false c.in_ok-push-2.ensures.items c.loop-place.invariant.same).0

pub returns-clause-value : goal.returns-clause-value
returns-clause-value c =
    (sum_carried c.args.a.now c.args.b.now c.loop-place.digits.items c.push-2.new.self.items c.max-places.result c.loop-place.place c.loop-place.carry c.requires.a c.requires.b c.max-places.ensures (omega (arith, c.loop-place-test.false))
    c.if-carry-eq0.false c.in_ok-push-2.ensures.items c.loop-place.invariant.same).1
