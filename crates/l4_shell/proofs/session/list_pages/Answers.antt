use Rattle.l4_shell.proofs.Listing.{listed_more, listed_end, listed_beyond}
use Rattle.l4_shell.proofs.session.list_pages.Goals as goal

pub returns-in_default : goal.returns-in_default
returns-in_default g c = listed_end g.S.Sink.has_told _ _ _ _ _ _ _ _ c.loop-page.invariant c.in_default.ensures

pub returns-then-page-end : goal.returns-then-page-end
returns-then-page-end g c = listed_beyond g.S.Sink.has_told _ _ _ _ _ _ _ _ _ c.loop-page.invariant c.in-Some.ensures c.if-page-end.true

pub loop-page-preserved : goal.loop-page-preserved
loop-page-preserved g c = listed_more g.S.Sink.has_told _ _ _ _ _ _ _ _ _ _ c.loop-page.invariant c.in-Some.ensures c.if-page-end.false c.tell_page.ensures
