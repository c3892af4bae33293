use Rattle.std.proofs.Common.{refl, arith}
use Rattle.l4_segments.proofs.Fitting.{fit_next, end_next, misfits, all_fit}
use Rattle.l4_segments.proofs.joining.join.Goals as goal

pub returns-in-Some-clause-err : goal.returns-in-Some-clause-err
returns-in-Some-clause-err c =
    let so_far = c.loop-place.invariant in
    misfits c.args.frames c.args.size c.args.first c.args.segments.now c.loop-place.place c.index-segments-place.result c.loop-place-test.true c.index-segments-place.is
    _ refl so_far.1 so_far.0 c.in-Some.ensures

pub loop-place-preserved : goal.loop-place-preserved
loop-place-preserved c =
    let so_far = c.loop-place.invariant in
    let s = c.index-segments-place.result in
    let end = end_next c.args.frames c.args.size c.args.first c.args.segments.now c.loop-place.place s c.loop-place-test.true c.index-segments-place.is in (
      fit_next c.args.frames c.args.size c.args.first c.args.segments.now c.loop-place.place s c.loop-place-test.true c.index-segments-place.is c.loop-place.expected so_far.1 so_far.0
          c.in_default.ensures,
      (let expected = so_far.1 in let len = c.len-expected.ensures in omega (arith, end, expected, len)),
    )

pub returns-clause-ok : goal.returns-clause-ok
returns-clause-ok c = (refl, all_fit c.args.frames c.args.size c.args.first c.args.segments.now c.loop-place.place c.loop-place-test.false c.loop-place.invariant.0)
