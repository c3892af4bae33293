use Rattle.std.proofs.Common.{◌≡◌, ℕ, ◌≤◌, ◌<◌}
use Rattle.l4_links.specs.Entries.{entry_at}
use Rattle.l4_mapdb.specs.declared.sources.UsedMove.{UsedMove}
use Rattle.l4_mapdb.specs.Inside.Messages.{IsMoved, turn_in, turns_left, turn_of, IsWanted, IsFilled, Wants}
use Rattle.l4_mapdb.proofs.room.make_room.Given as goal
use Rattle.l4_fpage.specs.Pages.{most_pages}

-- the targets of the used moves before this turn are wanted, and no others
abbrev pub invariant-loop-used : goal.invariant-loop-used
invariant-loop-used l = record {
  fits : l.moves.page ≤ most_pages;
  wants : (key : ℕ) → Wants (IsFilled (IsMoved l.fn.links.entries l.from l.to l.items)) (entry_at l.fn.links.entries key) (entry_at l.links.entries key);
  wanted : (move : UsedMove) → IsMoved l.fn.links.entries l.from l.to l.items move → turn_of move < turn_in l.moves → IsWanted l.links.entries move.target;
  spaces : l.links.spaces ≡ l.fn.links.spaces;
}

abbrev pub decreases-loop-used : goal.decreases-loop-used
decreases-loop-used l = turns_left l.items l.moves
