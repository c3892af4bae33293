use Rattle.l4_options.proofs.Decimals.{ends, one_more, stops}
use Rattle.l4_options.proofs.values.digits_in.Goals as goal

pub returns-in_default : goal.returns-in_default
returns-in_default c = stops c.args.text.now c.loop-byte.byte-index c.loop-byte.value _ c.loop-byte-test.true c.loop-byte.invariant c.in_default.ensures

pub loop-byte-preserved : goal.loop-byte-preserved
loop-byte-preserved c = one_more c.args.text.now c.loop-byte.byte-index c.loop-byte.value c.in-Some.next _ c.loop-byte-test.true c.loop-byte.invariant c.in-Some.ensures

pub returns : goal.returns
returns c = ends c.args.text.now c.loop-byte.byte-index c.loop-byte.value c.loop-byte-test.false c.loop-byte.invariant
