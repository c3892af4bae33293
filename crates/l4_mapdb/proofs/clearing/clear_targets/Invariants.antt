use Rattle.std.proofs.Common.{◌≡◌, ℕ, ◌≤◌}
use Rattle.l4_links.specs.Entries.{entry_at}
use Rattle.l4_mapdb.specs.Inside.Messages.{IsMoved, turn_in, turns_left, Before, Goes, IsClearedAt}
use Rattle.l4_mapdb.proofs.clearing.clear_targets.Given as goal
use Rattle.l4_fpage.specs.Pages.{most_pages}

-- the targets of the used moves before this turn are cleared
abbrev pub invariant-loop-used : goal.invariant-loop-used
invariant-loop-used l = record {
  fits : l.moves.page ≤ most_pages;
  so_far : (key : ℕ) → IsClearedAt (Goes (Before (IsMoved l.fn.links.entries l.from l.to l.items) (turn_in l.moves)) l.fn.links.entries key) (entry_at l.fn.links.entries key) (entry_at l.links.entries key);
  spaces : l.links.spaces ≡ l.fn.links.spaces;
}

abbrev pub decreases-loop-used : goal.decreases-loop-used
decreases-loop-used l = turns_left l.items l.moves
