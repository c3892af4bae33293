use Rattle.std.proofs.lemmas.Option.{slice_get-get_or}
use Rattle.l4_threads.proofs.NumberLemmas.{none_further, first_here, nowhere}
use Rattle.l4_threads.proofs.roster.place_of.Goals as goal

pub loop-i-preserved : goal.loop-i-preserved
loop-i-preserved c =
    none_further c.args.numbers.now c.loop-i.i c.args.number _ (slice_get-get_or c.args.numbers.now c.loop-i.i 0 c.loop-i-test.true) c.if-other-number.false c.loop-i.invariant

pub returns-then-other-number : goal.returns-then-other-number
returns-then-other-number c =
    first_here c.args.numbers.now c.loop-i.i c.args.number _ (slice_get-get_or c.args.numbers.now c.loop-i.i 0 c.loop-i-test.true) c.if-other-number.true c.loop-i.invariant

pub returns : goal.returns
returns c = nowhere c.args.numbers.now c.loop-i.i c.args.number c.loop-i-test.false c.loop-i.invariant
