use Rattle.l4_ipc.proofs.Holding.{fit_none, fit_more, all_fit}
use Rattle.l4_ipc.proofs.parts.pages_fit.Goals as goal

pub loop-space-init : goal.loop-space-init
loop-space-init c = fit_none c.args.size c.args.forest.now

pub loop-space-preserved : goal.loop-space-preserved
loop-space-preserved c =
    fit_more c.args.size c.args.forest.now c.loop-space.from c.in-Some.space c.space_pages-pages.result c.law_forest.ensures c.loop-space.invariant c.in-Some.ensures
    c.space_pages-pages.ensures.value c.in_default-next_present.ensures

pub returns : goal.returns
returns c = all_fit c.args.size c.args.forest.now c.loop-space.from c.law_forest.ensures c.loop-space.invariant c.in_default.ensures
