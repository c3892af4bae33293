use Rattle.std.proofs.Common.{◌-◌}
use Rattle.l4_step_lines.proofs.Listing.{Listed}
use Rattle.l4_step_lines.proofs.session.list_pages.Given as goal

abbrev pub invariant-loop-page : goal.invariant-loop-page
invariant-loop-page g l =
    Listed l.kernel l.space l.from l.shown (g.W.Write.contents l.initial.writer) (g.W.Write.contents l.writer) l.initial.out l.out

abbrev pub decreases-loop-page : goal.decreases-loop-page
decreases-loop-page g l = l.end - l.from
