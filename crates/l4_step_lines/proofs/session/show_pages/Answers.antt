use Rattle.l4_step_lines.proofs.Listing.{lists_pages}
use Rattle.l4_step_lines.proofs.session.show_pages.Goals as goal

pub returns : goal.returns
returns g c = lists_pages _ _ _ _ _ _ _ _ _ c.list_pages-shown.ensures c.put_shown.ensures
