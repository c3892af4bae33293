use Rattle.l4_c_queries.specs.Descended.{place_result}
use Rattle.l4_c_queries.proofs.Placing.{placed_next, placed_full}
use Rattle.l4_c_queries.proofs.descending.write_places.Goals as goal

pub returns-then-at-out : goal.returns-then-at-out
returns-then-at-out c = placed_full _ _ _ _ c.if-at-out.true c.loop-at.invariant

pub loop-at-preserved : goal.loop-at-preserved
loop-at-preserved c =
    placed_next place_result c.args.places.now _ _ c.loop-at.at _ _ c.place_told.ensures c.loop-at-test.true c.if-at-out.false c.loop-at.invariant
