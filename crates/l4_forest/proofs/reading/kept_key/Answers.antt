use Rattle.std.proofs.Common.{arith}
use Rattle.l4_forest.proofs.Presence.{kept_within}
use Rattle.l4_forest.proofs.reading.kept_key.Goals as goal

pub returns : goal.returns
returns c = kept_within c.args.roots.now c.args.frame (omega arith)
