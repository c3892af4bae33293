use Rattle.std.proofs.Common.{sym}
use Rattle.l4_symbols.proofs.Cuts.{cut_some, cut_none}
use Rattle.l4_symbols.proofs.spelling.cut_at.Goals as goal

pub returns-in-Some : goal.returns-in-Some
returns-in-Some c = cut_some c.args.byte c.in-Some.place c.args.text.now (sym c.in-Some.ensures)

pub returns-in-None : goal.returns-in-None
returns-in-None c = cut_none c.args.byte c.args.text.now (sym c.in-None.ensures)
