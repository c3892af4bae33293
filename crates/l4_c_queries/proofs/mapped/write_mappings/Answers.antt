use Rattle.l4_c_queries.proofs.Mapping.{mapped_first, mapped_more, mapped_end, mapped_beyond}
use Rattle.l4_c_queries.proofs.mapped.write_mappings.Goals as goal

pub loop-page-init : goal.loop-page-init
loop-page-init c = mapped_first c.args.kernel.now c.args.space c.args.first c.args.out.now

pub returns-in_default : goal.returns-in_default
returns-in_default c = mapped_end _ _ _ _ _ _ _ c.loop-page.invariant c.in_default.ensures

pub returns-then-page-end : goal.returns-then-page-end
returns-then-page-end c =
    mapped_beyond _ _ _ _ _ _ _ _ _ _ c.law_pages.ensures c.page_size.ensures c.space_pages-end.ensures.value c.in-Some.ensures c.if-page-end.true

pub loop-page-preserved : goal.loop-page-preserved
loop-page-preserved c = mapped_more _ _ _ _ _ _ _ _ _ c.loop-page.invariant c.in-Some.ensures c.write_mapping.ensures
