use Rattle.std.proofs.Common.{arith}
use Rattle.l4_merges.proofs.Linking.{digest_end}
use Rattle.l4_merges.proofs.table.digest_of.Goals as goal

pub returns : goal.returns
returns c = digest_end c.args.key.now c.loop-word.word-index c.loop-word.digest (omega (arith, c.loop-word-test.false)) c.loop-word.invariant
