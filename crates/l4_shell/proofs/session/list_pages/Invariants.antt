use Rattle.std.proofs.Common.{◌-◌}
use Rattle.l4_shell.proofs.Listing.{Listed}
use Rattle.l4_shell.proofs.session.list_pages.Given as goal

abbrev pub invariant-loop-page : goal.invariant-loop-page
invariant-loop-page g l =
    Listed l.kernel l.space l.first l.end l.from l.shown g.S.Sink.has_told l.initial.sink l.sink

abbrev pub decreases-loop-page : goal.decreases-loop-page
decreases-loop-page g l = l.end - l.from
