use Rattle.std.proofs.Common.{ap, arith, List, ℕ}
use Rattle.l4_c_queries.specs.Placed.{placed}
use Rattle.l4_c_queries.proofs.Placing.{placed_more, placed_all, placed_full}
use Rattle.l4_c.proofs.planning.write_pages.Goals as goal

pub loop-page-init : goal.loop-page-init
loop-page-init c = ap (λ (ps : List ℕ). placed ps c.args.out.now) c.into_iter-page-iterator.ensures.into_iter_gives

pub loop-page-preserved : goal.loop-page-preserved
loop-page-preserved c = placed_more _ _ _ _ _ _ c.in-Some.ensures.steps (omega (arith, c.if-at-room.false, c.loop-page.auto.out)) c.loop-page.invariant

pub returns-then-at-room-clause-written : goal.returns-then-at-room-clause-written
returns-then-at-room-clause-written c = placed_full _ _ _ _ (omega (arith, c.if-at-room.true, c.loop-page.auto.out)) c.loop-page.invariant

pub returns-clause-written : goal.returns-clause-written
returns-clause-written c = placed_all _ _ _ _ c.in-None.ensures.steps.0 c.loop-page.invariant
