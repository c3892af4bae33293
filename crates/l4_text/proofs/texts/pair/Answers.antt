use Rattle.std.proofs.Common.{arith}
use Rattle.l4_text.proofs.PairTable.{pair_at}
use Rattle.l4_text.proofs.texts.pair.Goals as goal

pub returns : goal.returns
returns c = pair_at _ c.args.byte (omega (arith, c.ranges.byte.fits))
