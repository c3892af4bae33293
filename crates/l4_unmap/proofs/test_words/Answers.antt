use Rattle.std.proofs.Common.{◌∷◌, [], ◌++◌, refl, arith}
use Rattle.l4_unmap.proofs.Registers.{one_read, none_malformed}
use Rattle.l4_unmap.proofs.test_words.Goals as goal

pub returns-in-Err-clause-fault : goal.returns-in-Err-clause-fault
returns-in-Err-clause-fault c = (
  omega (arith, c.if-words-count.false, c.register_count-count.ensures),
  omega (arith, c.loop-i-test.true, c.register_count-count.ensures),
  c.in-Err.ensures.err.0 refl,
  none_malformed c.args.words.now c.loop-i.i c.loop-i.invariant.0 c.loop-i.invariant.1,
)

pub loop-i-preserved : goal.loop-i-preserved
loop-i-preserved c = (
  c.loop-i.invariant.0 ++ c.in-Ok.field-0 ∷ [],
  one_read c.args.words.now c.loop-i.i c.loop-i.invariant.0 c.in-Ok.field-0 c.loop-i.invariant.1 c.in-Ok.ensures.ok,
)
