use Rattle.std.proofs.Common.{drop}
use Rattle.l4_spaces.specs.Tables.{IsSpace, HasRoom}
use Rattle.l4_growths.proofs.spaces.fill.Given as goal

-- there is room for the pages that are left
abbrev pub invariant-loop-page : goal.invariant-loop-page
invariant-loop-page l = IsSpace l.spaces l.space × HasRoom l.spaces l.space (drop l.page-index l.pages)
