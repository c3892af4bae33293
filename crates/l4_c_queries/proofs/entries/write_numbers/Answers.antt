use Rattle.std.proofs.Common.{refl}
use Rattle.l4_c_queries.proofs.Placing.{placed_full, placed_item_behind}
use Rattle.l4_c_queries.proofs.entries.write_numbers.Goals as goal

pub returns-then-place-out : goal.returns-then-place-out
returns-then-place-out c = placed_full _ _ _ _ c.if-place-out.true c.loop-at.invariant

pub loop-at-preserved : goal.loop-at-preserved
loop-at-preserved c =
    placed_item_behind c.args.numbers.now c.loop-at.out _ c.args.behind c.loop-at.at 0 _ refl c.loop-at-test.true c.if-place-out.false c.loop-at.invariant
