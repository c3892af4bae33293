use Rattle.std.proofs.Common.{refl}
use Rattle.l4_c_queries.proofs.Placing.{placed_item, placed_full}
use Rattle.l4_c_queries.proofs.files.write_bytes.Goals as goal

pub returns-then-at-out : goal.returns-then-at-out
returns-then-at-out c = placed_full _ _ _ _ c.if-at-out.true c.loop-at.invariant

pub loop-at-preserved : goal.loop-at-preserved
loop-at-preserved c = placed_item c.args.bytes.now _ _ c.loop-at.at _ _ refl c.loop-at-test.true c.if-at-out.false c.loop-at.invariant
