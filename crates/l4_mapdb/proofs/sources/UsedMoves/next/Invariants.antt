use Rattle.std.proofs.Common.{◌≤◌}
use Rattle.l4_mapdb.specs.Inside.Messages.{turn, turn_in}
use Rattle.l4_mapdb.proofs.Moves.{NoneFrom}
use Rattle.l4_mapdb.proofs.sources.UsedMoves.next.Given as goal
use Rattle.l4_fpage.specs.Pages.{most_pages}

-- no used move stands between the turn that is asked for and this one
abbrev pub invariant-loop-number : goal.invariant-loop-number
invariant-loop-number l = record {
  fits : l.start ≤ most_pages;
  after : turn_in l.fn.self ≤ turn l.number l.start;
  none : NoneFrom l.links.entries l.from l.to l.items (turn_in l.fn.self) l.number l.start;
}
