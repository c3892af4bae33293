use Rattle.std.proofs.Common.{ap, ◌∙◌}
use Rattle.l4_c_values.specs.Linked.{link_result}
use Rattle.l4_c_queries.proofs.Placing.{placed_next, placed_full}
use Rattle.l4_c_queries.proofs.tracing.write_links.Goals as goal

pub returns-then-at-out : goal.returns-then-at-out
returns-then-at-out c = placed_full _ _ _ _ c.if-at-out.true c.loop-at.invariant

pub loop-at-preserved : goal.loop-at-preserved
loop-at-preserved c =
    placed_next link_result c.args.links.now _ _ c.loop-at.at c.index-links-at.result _ (c.link_told.ensures ∙ ap link_result c.index-links-at.is) c.loop-at-test.true c.if-at-out.false c.loop-at.invariant
