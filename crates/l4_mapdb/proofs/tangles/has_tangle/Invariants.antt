use Rattle.std.proofs.Common.{◌≡◌, ◌≤◌, ◌<◌}
use Rattle.l4_mapdb.specs.declared.sources.UsedMove.{UsedMove}
use Rattle.l4_mapdb.specs.Inside.Messages.{IsMoved, turn_in, turns_left, turn_of, AreMarked}
use Rattle.l4_mapdb.specs.Inside.Tangles.{Tangles}
use Rattle.l4_mapdb.proofs.tangles.has_tangle.Given as goal
use Rattle.l4_fpage.specs.Pages.{most_pages}

-- the sources are marked, and no used move before this turn tangles
abbrev pub invariant-loop-used : goal.invariant-loop-used
invariant-loop-used l = record {
  fits : l.moves.page ≤ most_pages;
  marked : AreMarked (IsMoved l.fn.links.entries l.from l.to l.items) l.fn.links.entries l.links.entries;
  none : (move : UsedMove) → IsMoved l.fn.links.entries l.from l.to l.items move → turn_of move < turn_in l.moves → ¬ (Tangles (IsMoved l.fn.links.entries l.from l.to l.items) l.fn.links.entries move);
  spaces : l.links.spaces ≡ l.fn.links.spaces;
}

abbrev pub decreases-loop-used : goal.decreases-loop-used
decreases-loop-used l = turns_left l.items l.moves
