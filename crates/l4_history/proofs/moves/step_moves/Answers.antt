use Rattle.std.proofs.Common.{◌+◌, List, sym, subst}
use Rattle.l4_provenance.specs.declared.moves.MovedPage.{MovedPage}
use Rattle.l4_history.proofs.ListedMoves.{Listed, listed_none, listed_all, listed_more}
use Rattle.l4_history.proofs.moves.step_moves.Goals as goal

pub returns-in_default : goal.returns-in_default
returns-in_default c = listed_all _ _ _ _ _ c.loop-moved.invariant c.in_default.ensures

pub loop-moved-init : goal.loop-moved-init
loop-moved-init c = subst (λ (pages : List MovedPage). Listed c.args.kernel.now c.args.step.now 0 0 pages) (sym c.new-pages.ensures.items) (listed_none _ _)

pub loop-moved-preserved : goal.loop-moved-preserved
loop-moved-preserved c =
    subst (λ (pages : List MovedPage). Listed c.args.kernel.now c.args.step.now c.in-Some.moved.item (c.in-Some.moved.source + 1) pages) (sym c.in_default-push.ensures.items)
    (listed_more _ _ _ _ _ _ c.loop-moved.invariant c.in-Some.ensures)
