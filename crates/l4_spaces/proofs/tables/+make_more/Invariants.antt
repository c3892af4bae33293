use Rattle.std.proofs.Common.{length}
use Rattle.l4_spaces.proofs.tables.+make_more.Given as goal

abbrev pub decreases-make_more : goal.decreases-make_more
decreases-make_more l = length l.pages.now
