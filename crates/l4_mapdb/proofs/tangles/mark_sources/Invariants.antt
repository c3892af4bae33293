use Rattle.std.proofs.Common.{◌≡◌, ◌≤◌, ◌<◌}
use Rattle.l4_links.specs.Entries.{IsSource}
use Rattle.l4_mapdb.specs.declared.sources.UsedMove.{UsedMove}
use Rattle.l4_mapdb.specs.Inside.Messages.{IsMoved, turn_in, turns_left, turn_of, Marks}
use Rattle.l4_mapdb.proofs.tangles.mark_sources.Given as goal
use Rattle.l4_fpage.specs.Pages.{most_pages}

-- the sources of the used moves before this turn are marked, and no others
abbrev pub invariant-loop-used : goal.invariant-loop-used
invariant-loop-used l = record {
  fits : l.moves.page ≤ most_pages;
  marks : Marks (IsMoved l.fn.links.entries l.from l.to l.items) l.fn.links.entries l.links.entries;
  sources : (move : UsedMove) → IsMoved l.fn.links.entries l.from l.to l.items move → turn_of move < turn_in l.moves → IsSource l.links.entries move.source;
  spaces : l.links.spaces ≡ l.fn.links.spaces;
}

abbrev pub decreases-loop-used : goal.decreases-loop-used
decreases-loop-used l = turns_left l.items l.moves
