use Rattle.l4_pager.proofs.Places.{none_placed, placed}
use Rattle.l4_pager.proofs.regions.entry_for.Goals as goal

pub returns-in_default : goal.returns-in_default
returns-in_default c = none_placed c.args.entries.now c.args.page c.args.access c.in_default.ensures

pub returns : goal.returns
returns c = placed c.args.entries.now c.args.page c.args.access c.in-Some.place c.index-entries-place.result c.in-Some.ensures c.index-entries-place.is
