use Rattle.std.proofs.Common.{sym, ap, ◌∙◌, length}
use Rattle.l4_plan.proofs.Split.{length_starts}
use Rattle.l4_plan.proofs.pages.Pages.len.Goals as goal

pub returns : goal.returns
returns c = sym (length_starts c.self.inside.region c.self.inside.page c.self.inside.left) ∙ ap length c.self.view_is
