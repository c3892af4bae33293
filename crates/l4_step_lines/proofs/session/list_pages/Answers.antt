use Rattle.l4_step_lines.proofs.Listing.{listed_more, listed_end, listed_beyond}
use Rattle.l4_step_lines.proofs.session.list_pages.Goals as goal

pub returns-in_default : goal.returns-in_default
returns-in_default g c = listed_end _ _ _ _ _ _ _ _ c.loop-page.invariant c.in_default.ensures

pub returns-then-page-end : goal.returns-then-page-end
returns-then-page-end g c =
    listed_beyond _ _ _ _ _ _ _ _ _ _ _ c.law_pages.ensures c.page_size.ensures c.space_pages-end.ensures.value c.in-Some.ensures c.if-page-end.true

pub loop-page-preserved : goal.loop-page-preserved
loop-page-preserved g c = listed_more _ _ _ _ _ _ _ _ _ _ _ c.loop-page.invariant c.in-Some.ensures c.tell_page.ensures
